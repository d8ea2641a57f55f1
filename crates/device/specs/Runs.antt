-- The runs that a table of runs holds.
use Rattle.std.specs.Prelude.{List, take}
use Rattle.values.specs.declared.io.Run.{Run}
use Rattle.device.specs.declared.runs.Runs.{Runs}

-- those of its used places, from the first on
abbrev pub runs_of : Runs → List Run
runs_of r = take r.len r.places
