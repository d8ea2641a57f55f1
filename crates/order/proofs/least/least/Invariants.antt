use Rattle.std.specs.List.{IsFirstBest}
use Rattle.order.proofs.least.least.Given as goal

-- the best so far is the first among the keys that were seen
abbrev pub invariant-loop-place : goal.invariant-loop-place
invariant-loop-place g l = IsFirstBest g.K.Key.before l.keys l.place l.best
