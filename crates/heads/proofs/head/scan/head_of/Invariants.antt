use Rattle.std.proofs.Common.{◌≡◌, drop}
use Rattle.std.specs.Option.{option_map}
use Rattle.heads.specs.Heads.{of_session, onward, head_of, head_says}
use Rattle.heads.proofs.head.scan.head_of.Given as goal

-- the run so far with what is left gives the head run
abbrev pub invariant-loop-io : goal.invariant-loop-io
invariant-loop-io l = onward (option_map head_says l.head) (of_session l.name (drop l.io-index l.waiting)) ≡ head_of l.name l.waiting
