-- How far an arm goes to serve runs in a given order.
use Rattle.std.specs.Prelude.{ℕ, ◌+◌, ◌-◌, List, [], ◌∷◌}
use Rattle.values.specs.declared.io.Run.{Run}
use Rattle.values.specs.Extents.{end_of}

-- the sectors between two addresses, either way
abbrev pub gap : ℕ → ℕ → ℕ
gap a b = (a - b) + (b - a)

-- the sectors that an arm passes over to reach each run, standing at the end of the one before
abbrev pub travel_from : ℕ → List Run → ℕ
travel_from arm [] = 0
travel_from arm (run ∷ runs) = gap arm run.extent.address + travel_from (end_of run.extent) runs
