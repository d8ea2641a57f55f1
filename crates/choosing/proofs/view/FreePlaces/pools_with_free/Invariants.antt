use Rattle.std.proofs.Common.{◌≡◌, ℕ, ◌<◌, false, length, get_or}
use Rattle.choosing.specs.Free.{free_in}
use Rattle.choosing.specs.Picks.{some_of}
use Rattle.choosing.specs.Spare.{is_free_in}
use Rattle.choosing.proofs.view.FreePlaces.pools_with_free.Given as goal

abbrev pub invariant-loop-row : goal.invariant-loop-row
invariant-loop-row l = (p : ℕ) → p < 16 → get_or l.has_free p false ≡ some_of (length l.yielded) (is_free_in l.self.tables.now (free_in l.self.free) p)
