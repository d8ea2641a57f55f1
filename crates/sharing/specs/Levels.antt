-- The level of a service record by each sharing rule.
use Rattle.std.specs.Prelude.{ℕ, ◌+◌, ◌*◌, ◌/◌, ◌^◌, List, [], ◌∷◌, map, slice_index}
use Rattle.std.specs.List.{range_with_len}
use Rattle.usage.specs.declared.ServiceRecord.{ServiceRecord}

-- the weight, in millionths rounded down, of a run so many quarters old: 9/10 for each of them
abbrev pub weight_of : ℕ → ℕ
weight_of age = 9 ^ age * 1000000 / 10 ^ age

-- the weights of the window's twenty quarters, each by the rule
abbrev pub weights : List ℕ
weights = map weight_of (range_with_len 0 20)

-- the weight at any age: a run that is out of the window has none
abbrev pub weight_at : ℕ → ℕ
weight_at age = slice_index weights age

-- the sum of the counts of quarters from an age on, each times its weight
abbrev pub water_from : ℕ → List ℕ → ℕ
water_from age [] = 0
water_from age (count ∷ counts) = count * weight_of age + water_from (age + 1) counts

-- recent service, weighted
abbrev pub water_level : List ℕ → ℕ
water_level counts = water_from 0 counts

-- the runs sent when not due
abbrev pub even_level : ServiceRecord → ℕ
even_level usage = usage.not_due
