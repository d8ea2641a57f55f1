-- Token buckets over plain numbers. A rate is in runs per second, which is as many units per microsecond.
use Rattle.std.specs.Prelude.{ℕ, ◌+◌, ◌-◌, ◌*◌, min, Bool, true, false, ◌&&◌, Some, None, Option, nat_le}
use Rattle.values.specs.declared.rates.Rates.{Rates}

-- the units that one run costs
abbrev pub run_cost : ℕ
run_cost = 1000000

-- the most units that a bucket holds: the burst counts runs, and a unit is the millionth part of one
abbrev pub capacity : ℕ → ℕ
capacity burst = burst * 1000000

-- what a bucket holds some microseconds later: filled by its rate, and cut at its capacity
abbrev pub settled_units : (rate burst units micros : ℕ) → ℕ
settled_units rate burst units micros = min (units + rate * micros) (capacity burst)

-- what the cost of a run leaves: from a bucket that holds less, all that it holds is taken
abbrev pub charged_units : ℕ → ℕ
charged_units units = units - run_cost

-- the limit bucket of a pair, which is there where a limit is set: settled, charged, and full as at the start
abbrev pub settled_limit : (rate : Option ℕ) (burst : ℕ) (units : Option ℕ) (micros : ℕ) → Option ℕ
settled_limit None burst units micros = units
settled_limit (Some rate) burst None micros = None
settled_limit (Some rate) burst (Some units) micros = Some (settled_units rate burst units micros)

abbrev pub charged_limit : Option ℕ → Option ℕ
charged_limit None = None
charged_limit (Some units) = Some (charged_units units)

abbrev pub full_limit : (rate : Option ℕ) (burst : ℕ) → Option ℕ
full_limit None burst = None
full_limit (Some rate) burst = Some (capacity burst)

-- the numbers of a pair: a limit bucket exactly where a limit is set, the reserve bucket not above the limit bucket, and neither above the capacity
abbrev pub is_pair : (burst : ℕ) (rate : Option ℕ) (reserve : ℕ) (limit : Option ℕ) → Bool
is_pair burst None reserve None = nat_le reserve (capacity burst)
is_pair burst None reserve (Some units) = false
is_pair burst (Some rate) reserve None = false
is_pair burst (Some rate) reserve (Some units) = nat_le reserve units && nat_le units (capacity burst)

-- the limit bucket, where one is set, holds the cost of a run
abbrev pub may_send : Option ℕ → Bool
may_send None = true
may_send (Some units) = nat_le run_cost units

-- what the two buckets of a pair hold
pub record PairUnits : Type 0 where
  pub reserve : ℕ
  pub limit : Option ℕ

-- the same some microseconds later, with the cost of a run taken, and at the start: the limit bucket full, the reserve bucket empty
abbrev pub settled_pair : Rates → PairUnits → ℕ → PairUnits
settled_pair rates u micros = record {
  reserve = settled_units rates.reserve rates.burst u.reserve micros;
  limit = settled_limit rates.limit rates.burst u.limit micros;
}

abbrev pub charged_pair : PairUnits → PairUnits
charged_pair u = record { reserve = charged_units u.reserve; limit = charged_limit u.limit }

abbrev pub fresh_pair : Rates → PairUnits
fresh_pair rates = record { reserve = 0; limit = full_limit rates.limit rates.burst }

-- the test of a pair's numbers, by its rates
abbrev pub are_pair : Rates → PairUnits → Bool
are_pair rates u = is_pair rates.burst rates.limit u.reserve u.limit
