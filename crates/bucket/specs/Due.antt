-- When a bucket holds the cost of a run: due marks by the reserve bucket, releases by the limit bucket.
use Rattle.std.specs.Prelude.{◌≡◌, ℕ, ◌+◌, ◌-◌, ◌/◌, ◌≤◌, true, if◌then◌else◌, Some, None, Option, ◌==◌}
use Rattle.order.specs.declared.keys.DueMark.{DueMark}
use Rattle.values.specs.declared.rates.Rates.{Rates}
use Rattle.bucket.specs.Buckets.{PairUnits, capacity, may_send, run_cost, settled_pair, settled_units}

-- the microseconds, rounded up, until a bucket holds an amount; 0 where it does already
abbrev pub wait_for : (amount rate units : ℕ) → ℕ
wait_for amount rate units = (amount - units + (rate - 1)) / rate

-- the instant from which the reserve bucket holds the cost of a run; with reserve 0 never
abbrev pub due_at : (reserve units present : ℕ) → Option ℕ
due_at reserve units present = if reserve == 0 then None else Some (present + wait_for run_cost reserve units)

-- the due mark that is set at the present instant
abbrev pub mark_of : (reserve units present number : ℕ) → DueMark
mark_of reserve units present number = record { at = due_at reserve units present; number = number }

-- the instant from which the limit bucket, if there is one, holds the cost of a run
abbrev pub release_at : (limit units : Option ℕ) (present : ℕ) → ℕ
release_at None units present = present
release_at (Some limit) None present = present
release_at (Some limit) (Some units) present = present + wait_for run_cost limit units

-- what is said of the microseconds that have passed since the present instant holds at this instant and after it, and at none before
abbrev pub HoldsFrom : (ℕ → Type 0) → (present at : ℕ) → Type 0
HoldsFrom Says present at = (present ≤ at) × ((micros : ℕ) → (Says micros → at ≤ present + micros) × (at ≤ present + micros → Says micros))

-- the law of every bucket with a rate: it holds an amount, if that is not above its capacity, when the wait is over and no sooner
abbrev pub WaitIsRight : Type 0
WaitIsRight = (amount rate burst units : ℕ) → 1 ≤ rate → amount ≤ capacity burst → HoldsFrom (λ micros. amount ≤ settled_units rate burst units micros) 0 (wait_for amount rate units)

-- never is the mark of reserve 0 alone; any other is the first instant at which the settled reserve bucket holds the cost of a run
abbrev pub DueIsRight : Rates → PairUnits → ℕ → Option ℕ → Type 0
DueIsRight rates u present None = rates.reserve ≡ 0
DueIsRight rates u present (Some at) = (1 ≤ rates.reserve) × HoldsFrom (λ micros. run_cost ≤ (settled_pair rates u micros).reserve) present at

-- a release is the first instant at which the settled limit bucket lets a run go
abbrev pub ReleaseIsRight : Rates → PairUnits → ℕ → ℕ → Type 0
ReleaseIsRight rates u present at = HoldsFrom (λ micros. may_send (settled_pair rates u micros).limit ≡ true) present at
