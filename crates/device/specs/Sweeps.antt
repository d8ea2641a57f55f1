-- The run that an elevator's arm goes to next.
use Rattle.std.specs.Prelude.{ℕ, ◌+◌, ◌-◌, ◌%◌, ◌^◌, ◌<◌, ◌≤◌, List, length, slice_index_or}
use Rattle.order.specs.declared.keys.Distance.{Distance}
use Rattle.values.specs.declared.io.Run.{Run}

-- how far the arm goes up to a run, round the end of the disk: (address - arm) modulo 4,294,967,296
abbrev pub away : ℕ → Run → ℕ
away arm run = (run.extent.address + (2 ^ 32 - arm)) % 2 ^ 32

-- the run at a place is the one that the arm meets first: none is nearer, and those put before it are farther
pub record Nearest (arm : ℕ) (runs : List Run) (place : ℕ) : Type 0 where
  pub within : place < length runs
  pub least : (k : ℕ) (d : Run) → k < length runs → away arm (slice_index_or runs place d) ≤ away arm (slice_index_or runs k d)
  pub first : (k : ℕ) (d : Run) → k < place → away arm (slice_index_or runs place d) < away arm (slice_index_or runs k d)

-- the key of the run at a place: its distance, and the place, which is the order of putting
abbrev pub distance_at : ℕ → List Run → ℕ → Run → Distance
distance_at arm runs k d = record { sectors = away arm (slice_index_or runs k d); place = k }
