-- What holds of the levels.
use Rattle.std.specs.Prelude.{◌≡◌, ℕ, ◌+◌, ◌-◌, ◌^◌, ◌<◌, ◌≤◌, Bool, if◌then◌else◌, ◌∷◌, length, replicate, slice_index}
use Rattle.usage.specs.declared.ServiceRecord.{ServiceRecord}
use Rattle.usage.specs.Usage.{sent_one}
use Rattle.sharing.specs.Levels.{weight_of, weight_at, water_level, even_level}

-- a weight is the rule's at each of the window's twenty ages, and 0 past them
abbrev pub WeightsByRule : Type 0
WeightsByRule = (age : ℕ) → (age < 20 → weight_at age ≡ weight_of age) × (20 ≤ age → weight_at age ≡ 0)

-- one run now and one in the quarter before
abbrev pub OneNowOneBefore : Type 0
OneNowOneBefore = water_level (1 ∷ 1 ∷ replicate 18 0) ≡ 1900000

-- a run sent, due or not, raises a water level by a million, where the count of the present quarter can still rise
abbrev pub WaterRises : Type 0
WaterRises = (due : Bool) (usage : ServiceRecord) → 0 < length usage.recent → slice_index usage.recent 0 < 2 ^ 32 - 1 → water_level (sent_one due usage).recent ≡ water_level usage.recent + 1000000

-- a run sent leaves an even level if it was due, and raises it by one if it was not, where the count can still rise
abbrev pub EvenRises : Type 0
EvenRises = (due : Bool) (usage : ServiceRecord) → usage.not_due < 2 ^ 32 - 1 → even_level (sent_one due usage) ≡ (if due then even_level usage else even_level usage + 1)
