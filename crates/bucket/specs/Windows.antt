-- The window law of a limited bucket: how many runs it pays for between two instants.
use Rattle.std.specs.Prelude.{◌≡◌, ℕ, ◌+◌, ◌-◌, ◌*◌, ◌≤◌, if◌then◌else◌, List, [], ◌∷◌, nat_le}
use Rattle.bucket.specs.Buckets.{capacity, charged_units, run_cost, settled_units}

-- how many instants of a list lie from one to another, both counted
abbrev pub within : (from to : ℕ) → List ℕ → ℕ
within from to [] = 0
within from to (at ∷ log) = (if nat_le from at then (if nat_le at to then 1 else 0) else 0) + within from to log

-- the runs charged at these instants cost, between any two instants, at most the capacity and what the rate fills in meanwhile
abbrev pub Windowed : (rate burst : ℕ) → List ℕ → Type 0
Windowed rate burst log = (from to : ℕ) → from ≤ to → run_cost * within from to log ≤ capacity burst + rate * (to - from)

-- what can happen to a limited bucket: it starts full, time passes, and a run is charged where the bucket holds its cost.
-- The log has the instants of the charges, the newest first; then come the present instant and what the bucket holds
pub data Course (rate burst : ℕ) : List ℕ → ℕ → ℕ → Type 0 where
  starts : (present : ℕ) → Course rate burst [] present (capacity burst)
  passes : {log : List ℕ} {present units : ℕ} → Course rate burst log present units → (later : ℕ) → present ≤ later → Course rate burst log later (settled_units rate burst units (later - present))
  charges : {log : List ℕ} {present units : ℕ} → Course rate burst log present units → run_cost ≤ units → Course rate burst (present ∷ log) present (charged_units units)

-- what every step keeps: no charge lies after the present instant; the charges since any instant, with what is left, are paid for;
-- and the law holds
pub record Paid (rate burst : ℕ) (log : List ℕ) (present units : ℕ) : Type 0 where
  pub past : (from to : ℕ) → present ≤ to → within from to log ≡ within from present log
  pub room : (from : ℕ) → from ≤ present → run_cost * within from present log + units ≤ capacity burst + rate * (present - from)
  pub windowed : Windowed rate burst log

-- whatever happens to a limited bucket
abbrev pub WindowLaw : Type 0
WindowLaw = (rate burst : ℕ) (log : List ℕ) (present units : ℕ) → Course rate burst log present units → Paid rate burst log present units

-- two runs at once and a third half a second later reach the bound of a bucket with limit 2 and burst 2, which is then empty
pub record WindowReached : Type 0 where
  pub course : Course 2 2 (1500000 ∷ 1000000 ∷ 1000000 ∷ []) 1500000 0
  pub three : within 1000000 1500000 (1500000 ∷ 1000000 ∷ 1000000 ∷ []) ≡ 3
  pub all : run_cost * 3 ≡ capacity 2 + 2 * (1500000 - 1000000)
