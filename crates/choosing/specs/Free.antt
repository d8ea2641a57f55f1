-- Which sessions are free to go.
use Rattle.std.specs.Prelude.{ℕ, Bool, false, if◌then◌else◌, ◌&&◌, List, is_some, Some, None, Option, nat_le, nat_lt, slice_index_or}
use Rattle.account.specs.Accounts.{is_sound, free_at}
use Rattle.account.specs.declared.row.Account.{Account}
use Rattle.heads.specs.Heads.{HeadRun, head_says}
use Rattle.heads.specs.declared.head.Head.{Head}
use Rattle.service.specs.Rows.{session, pool, is_present}
use Rattle.service.specs.declared.rows.Session.{Session}
use Rattle.service.specs.declared.rows.Tables.{Tables}
use Rattle.std.specs.Option.{option_map}

-- the run that an array of heads has at a place
abbrev pub run_at : List (Option Head) → ℕ → Option HeadRun
run_at heads k = option_map head_says (slice_index_or heads k None)

-- the head run of a present session; none if it has more I/Os than the session has accepted and not sent
abbrev pub usable_head : Session → Option HeadRun → Option HeadRun
usable_head r None = None
usable_head r (Some h) = if is_present r.state && nat_le h.count r.unsent then Some h else None

-- an account's limit bucket lets a run go; one whose numbers are no pair of buckets never does
abbrev pub lets_go : ℕ → Account → Bool
lets_go micros a = is_sound a && free_at micros a

-- so does a pool's, by the pool's number; past the 16 places there is none
abbrev pub pool_lets_go : Tables → ℕ → ℕ → Bool
pool_lets_go t micros number = nat_lt number 16 && lets_go micros (pool t number).account

-- the session at a place has a usable head run
abbrev pub has_head : Tables → (ℕ → Option HeadRun) → ℕ → Bool
has_head t heads k = is_some (usable_head (session t k) (heads k))

-- a session with such a head run: it can be used, and its own and its pool's limit buckets let a run go
abbrev pub row_goes : Tables → ℕ → Session → Option HeadRun → Bool
row_goes t micros r head = is_some (usable_head r head) && (lets_go micros r.account && pool_lets_go t micros r.pool)

-- so for the session at a place
abbrev pub is_free_to_go : Tables → (ℕ → Option HeadRun) → ℕ → ℕ → Bool
is_free_to_go t heads micros k = row_goes t micros (session t k) (heads k)

-- the places that an array of answers has as free
abbrev pub free_in : List Bool → ℕ → Bool
free_in free k = slice_index_or free k false
