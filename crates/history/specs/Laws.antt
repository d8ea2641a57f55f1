-- What holds of every history by itself: it is the course of single steps that its log tells, with a moment wherever the log is
-- parted, and its tables are sound throughout.
use Rattle.std.specs.Prelude.{◌≡◌, List, ◌++◌}
use Rattle.service.specs.Moments.{Moment}
use Rattle.service.specs.Sound.{Numbers}
use Rattle.history.specs.Histories.{Law, EveryHistoryKeeps}
use Rattle.history.specs.Steps.{Event, Course}

-- the tables are sound
abbrev pub SoundTables : Law
SoundTables level start log m = Numbers m.tables

-- wherever the log is parted lies a moment: the early steps lead to it, and the late ones on from it
abbrev pub PartsAtMoments : Law
PartsAtMoments level start log n = (late early : List Event) → log ≡ late ++ early → (m : Moment) × Course level start early m × Course level m late n

pub record HistoryLaws : Type 0 where
  pub sound : EveryHistoryKeeps SoundTables
  pub parts : EveryHistoryKeeps PartsAtMoments
