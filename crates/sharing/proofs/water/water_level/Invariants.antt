use Rattle.std.proofs.Common.{◌≡◌, ◌+◌, ◌*◌, ◌≤◌, drop}
use Rattle.sharing.specs.Levels.{water_from, water_level}
use Rattle.sharing.proofs.water.water_level.Given as goal

-- the sum so far with the level of what is left is the whole level
abbrev pub invariant-loop-age : goal.invariant-loop-age
invariant-loop-age l = (l.level + water_from l.age (drop l.age l.counts) ≡ water_level l.counts) × (l.level ≤ l.age * 4294967295000000)
