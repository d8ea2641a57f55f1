-- A put where there is room.
use Rattle.std.proofs.Common.{◌<◌, ◌≤◌, Ok, Err, Result, MatchResult, arith}
use Rattle.device.specs.Meaning.{Meaning, held_by, Put}
use Rattle.values.specs.declared.io.Run.{Run}

-- what the device says of a put, where fewer runs than its depth are held: the run is at work, exactly as the device puts runs
pub put_done : {A E : Type 0} (r : Result A E) (m : Meaning) (run : Run) (n : Meaning) (P Q : Type 0) → held_by m < m.depth → MatchResult r (λ _. Put m run n) (λ _. m.depth ≤ held_by m) → MatchResult r (λ _. P) (λ _. Q) → Put m run n × P
put_done (Ok x) m run n P Q room meant exact = (meant, exact)
put_done (Err e) m run n P Q room meant exact = absurd (omega arith)
