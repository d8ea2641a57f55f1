-- What holds of a service's tables at every moment.
use Rattle.std.specs.Prelude.{◌≡◌, ℕ, ◌+◌, ◌<◌, ◌≤◌, Bool, true, ◌&&◌, List, length, sum_by, nat_le, slice_index_or}
use Rattle.account.specs.Accounts.{is_sound}
use Rattle.account.specs.declared.row.Account.{Account}
use Rattle.service.specs.declared.rows.Session.{Session}
use Rattle.service.specs.declared.rows.Tables.{Tables}
use Rattle.service.specs.Rows.{session, pool, blank_session, is_present, reserves_made, reserves_in, counts_fit, unsent_in}

-- a place has a present session
abbrev pub Present : Tables → ℕ → Type 0
Present t k = is_present (session t k).state ≡ true

-- a place has a pool
abbrev pub Made : Tables → ℕ → Type 0
Made t k = k < t.made

-- an account's numbers are sound, and settled no later than the latest accepted instant
abbrev pub account_fits : ℕ → Account → Bool
account_fits latest a = is_sound a && nat_le a.settled_at latest

abbrev pub name_at : Tables → ℕ → ℕ
name_at t k = (session t k).name

-- the order numbers of the due marks
abbrev pub session_number : Tables → ℕ → ℕ
session_number t k = (session t k).account.mark.number

abbrev pub pool_number : Tables → ℕ → ℕ
pool_number t k = (pool t k).account.mark.number

-- those places all have a number below n
abbrev pub Below : (ℕ → Type 0) → (ℕ → ℕ) → ℕ → Type 0
Below Is number n = (k : ℕ) → Is k → number k < n

-- no two of those places have the same number
abbrev pub Apart : (ℕ → Type 0) → (ℕ → ℕ) → Type 0
Apart Is number = (j k : ℕ) → Is j → Is k → number j ≡ number k → j ≡ k

pub record Sound (t : Tables) : Type 0 where
  -- accounts
  pub sessions_fit : (k : ℕ) → Present t k → account_fits t.latest (session t k).account ≡ true
  pub pools_fit : (k : ℕ) → Made t k → account_fits t.latest (pool t k).account ≡ true
  -- names of present sessions
  pub names_below : Below (Present t) (name_at t) t.opened
  pub names_apart : Apart (Present t) (name_at t)
  -- order numbers in the marks of sessions, and of pools
  pub marks_below : Below (Present t) (session_number t) t.orders
  pub marks_apart : Apart (Present t) (session_number t)
  pub pool_marks_below : Below (Made t) (pool_number t) t.orders
  pub pool_marks_apart : Apart (Made t) (pool_number t)
  -- a session's pool is one that was made
  pub housed : (k : ℕ) → Present t k → (session t k).pool < t.made
  -- reserves
  pub made_within : reserves_made t ≤ t.throughput
  pub pool_within : (p : ℕ) → p < t.made → reserves_in p t.sessions ≤ (pool t p).account.reserve
  -- what the sessions accepted is among all arrivals
  pub accepted_within : sum_by (λ (r : Session). r.accepted) t.sessions ≤ t.arrivals

-- each row's counts fit
abbrev pub Counts : ℕ → List Session → Type 0
Counts arrivals rows = (k : ℕ) → k < 64 → counts_fit arrivals (slice_index_or rows k blank_session) ≡ true

-- the same with what is said in numbers: no order number, arrival number or count can overflow
pub record Numbers (t : Tables) : Type 0 where
  pub lawful : t.latest ≤ 1099511627775
  pub places : t.made ≤ 16
  pub openings : t.opened ≤ 4000000000
  pub few : t.arrivals ≤ 4000000000
  pub counts : Counts t.arrivals t.sessions
  pub wide : length t.sessions ≡ 64
  pub deep : length t.pools ≡ 16
  pub numbered : t.orders + unsent_in t.sessions ≤ t.arrivals + t.opened + t.made
  pub sound : ∥ Sound t ∥₁
