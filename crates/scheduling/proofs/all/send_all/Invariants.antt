use Rattle.std.proofs.Common.{◌≡◌, ◌-◌, ◌≤◌}
use Rattle.device.specs.Meaning.{held_by}
use Rattle.scheduling.specs.Exact.{HeadsRight, PastKept, SentSoFar}
use Rattle.scheduling.specs.Sending.{most_runs}
use Rattle.scheduling.proofs.all.send_all.Given as goal
use Rattle.service.specs.Moments.{moment_of}
use Rattle.service.specs.Sound.{Numbers}

-- what was sent so far; the tables are sound, the instant and the head runs are those of the moment, and no count is above what is held
abbrev pub invariant-loop-tables : goal.invariant-loop-tables
invariant-loop-tables g l =
    SentSoFar g.D.Device.puts (g.R.SharingRule.level l.initial.rule) (moment_of l.initial.tables l.initial.waiting.places.now l.initial.waiting.len (g.D.Device.means l.initial.device)) (moment_of l.tables l.waiting.places.now l.waiting.len (g.D.Device.means l.device)) l.initial.device l.device l.sent l.due
    × Numbers l.tables
    × (l.tables.latest ≡ l.initial.tables.latest)
    × HeadsRight (moment_of l.tables l.waiting.places.now l.waiting.len (g.D.Device.means l.device)) l.heads
    × (l.most ≡ most_runs (moment_of l.tables l.waiting.places.now l.waiting.len (g.D.Device.means l.device)))
    × ((l.sent ≤ held_by (g.D.Device.means l.device)) × (l.due ≤ l.sent))
    × (l.waiting.places.ghost_name ≡ l.initial.waiting.places.ghost_name)
    × PastKept l.initial.waiting.places.now l.waiting.places.now

abbrev pub decreases-loop-tables : goal.decreases-loop-tables
decreases-loop-tables g l = l.most - held_by (g.D.Device.means l.device)
