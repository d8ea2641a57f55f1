-- What settling and charging keep.
use Rattle.std.specs.Prelude.{◌≡◌, ℕ, ◌+◌, ◌≤◌, true, Some}
use Rattle.values.specs.declared.rates.Rates.{Rates}
use Rattle.bucket.specs.Buckets.{PairUnits, are_pair, capacity, charged_pair, fresh_pair, settled_pair, settled_units}

-- a pair stays a pair: at its start, settled and charged. So the reserve bucket never holds more than the limit bucket, and neither more than the capacity
pub record PairsStay : Type 0 where
  pub start : (rates : Rates) → are_pair rates (fresh_pair rates) ≡ true
  pub settling : (rates : Rates) (u : PairUnits) (micros : ℕ) → are_pair rates u ≡ true → are_pair rates (settled_pair rates u micros) ≡ true
  pub charging : (rates : Rates) (u : PairUnits) → are_pair rates u ≡ true → are_pair rates (charged_pair u) ≡ true
  pub order : (rates : Rates) (u : PairUnits) (units : ℕ) → are_pair rates u ≡ true → u.limit ≡ Some units → u.reserve ≤ units
  pub room : (rates : Rates) (u : PairUnits) → are_pair rates u ≡ true → u.reserve ≤ capacity rates.burst
  pub limit_room : (rates : Rates) (u : PairUnits) (units : ℕ) → are_pair rates u ≡ true → u.limit ≡ Some units → units ≤ capacity rates.burst

-- settling in two steps is settling in one, and settling by nothing changes nothing
pub record SettlesInSteps : Type 0 where
  pub bucket : (rate burst units first second : ℕ) → settled_units rate burst (settled_units rate burst units first) second ≡ settled_units rate burst units (first + second)
  pub pair : (rates : Rates) (u : PairUnits) (first second : ℕ) → settled_pair rates (settled_pair rates u first) second ≡ settled_pair rates u (first + second)
  pub nothing : (rates : Rates) (u : PairUnits) → are_pair rates u ≡ true → settled_pair rates u 0 ≡ u
