use Rattle.std.proofs.Common.{◌≡◌, ◌++◌, take, vec_items}
use Rattle.std.specs.List.{flat_map, AllByRecursion as All}
use Rattle.stream.specs.Spelling.{spelling, NumbersFit}
use Rattle.stream.proofs.write.write_all.Given as goal

-- the events so far are written, and their numbers fit
abbrev pub invariant-loop-event : goal.invariant-loop-event
invariant-loop-event l = record {
  bytes : vec_items l.out ≡ vec_items l.initial.out ++ flat_map spelling (take l.event-index l.events);
  fit : All NumbersFit (take l.event-index l.events);
}
