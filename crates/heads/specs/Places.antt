-- The runs of all places while they are being found.
use Rattle.std.specs.Prelude.{ℕ, Bool, true, false, List, Some, None, Option, slice_index_or}
use Rattle.values.specs.declared.io.Io.{Io}
use Rattle.heads.specs.declared.head.at_once.Growing.{Growing}
use Rattle.heads.specs.declared.head.at_once.Growing.TheVariants.{Empty, Open, Over}
use Rattle.heads.specs.Heads.{HeadRun, finally, head_says}

-- what there is so far
abbrev pub found : Growing → Option HeadRun
found Empty = None
found (Open h) = Some (head_says h)
found (Over h) = Some (head_says h)

-- whether it can still grow
abbrev pub can_grow : Growing → Bool
can_grow Empty = true
can_grow (Open h) = true
can_grow (Over h) = false

-- the head run with which a place ends, by the name there if it has one
abbrev pub finally_from : Growing → Option ℕ → List Io → Option HeadRun
finally_from g name ios = finally (found g) (can_grow g) name ios

-- the head run with which the place k ends
abbrev pub final_at : List Growing → List (Option ℕ) → ℕ → List Io → Option HeadRun
final_at growing names k ios = finally_from (slice_index_or growing k Empty) (slice_index_or names k None) ios
