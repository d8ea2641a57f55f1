use Rattle.std.proofs.Common.{◌≡◌, ℕ, ◌<◌, length, get_or, drop, None}
use Rattle.heads.specs.Heads.{head_for}
use Rattle.heads.specs.Places.{final_at}
use Rattle.heads.proofs.head.at_once.heads_at_once.Given as goal

-- with what is left each place ends with its session's head run
abbrev pub invariant-loop-io : goal.invariant-loop-io
invariant-loop-io l = (length l.growing ≡ 64) × ((k : ℕ) → k < 64 → final_at l.growing l.names k (drop l.io-index l.waiting) ≡ head_for (get_or l.names k None) l.waiting)
