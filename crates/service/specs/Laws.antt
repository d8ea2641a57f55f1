-- What holds of the calls: every moment has sound tables, and what the rules say of reserves.
use Rattle.std.specs.Prelude.{◌≡◌, ℕ, ◌≤◌, Ok, Err}
use Rattle.values.specs.declared.rates.Rates.{Rates}
use Rattle.service.specs.declared.fault.ServiceFault.{ServiceFault}
use Rattle.service.specs.declared.rows.Tables.{Tables}
use Rattle.service.specs.Calls.{new_tables, pool_call}
use Rattle.service.specs.Faults.{why_number}
use Rattle.service.specs.Moments.{Moment, Call, Answer, Leads}
use Rattle.service.specs.Sound.{Numbers}

-- the tables of a new service are sound, and every call, whatever it answers, leaves sound tables as such
pub record StaysSound : Type 0 where
  pub at_first : (throughput most : ℕ) → Numbers (new_tables throughput most)
  pub from_then : (call : Call) (r : Answer call) (m m' : Moment) → Leads call r m m' → Numbers m.tables → Numbers m'.tables

-- with a throughput of 112, pools with the reserves 60 and 52 pass; after 60, one with 53 gives refusal 11, and nothing changes
abbrev pub SixtyThen : ℕ → Tables → Type 0
SixtyThen micros t =
    ((rates : Rates) → rates.reserve ≡ 52 → (pool_call micros rates t).0 ≡ Ok 1)
    × ((rates : Rates) → rates.reserve ≡ 53 → (fault : ServiceFault) × ((pool_call micros rates t).0 ≡ Err fault) × (why_number fault.why ≡ 11) × ((pool_call micros rates t).1 ≡ t))

abbrev pub ReservesOf112 : Type 0
ReservesOf112 = (most first second : ℕ) (rates : Rates) → first ≤ second → rates.reserve ≡ 60 → ((pool_call first rates (new_tables 112 most)).0 ≡ Ok 0) × SixtyThen second (pool_call first rates (new_tables 112 most)).1
