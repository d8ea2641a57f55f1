use Rattle.std.proofs.Common.{◌≡◌, ◌+◌, ◌≤◌, length, drop, Some, None, Ok, Err, Option, Result, ◌∙◌, subst, rules}
use Rattle.stream.specs.declared.event.Spelled.{Spelled}
use Rattle.stream.specs.declared.fault.StreamFault.{StreamFault}
use Rattle.stream.specs.Fields.{event_from, field_size}
use Rattle.stream.proofs.Gathering.{gathered_more, gathered_all, gathered_fault}
use Rattle.stream.proofs.whole.gather.Goals as goal

pub loop-spelled-preserved : goal.loop-spelled-preserved
loop-spelled-preserved c =
    let at = c.loop-spelled.reader.position in
    let input = c.args.input.now in
    let same = c.loop-spelled.invariant.0 in
    let read = c.in-Ok-Some.ensures in
    let event : ◌≡◌ {A = Result (Option Spelled) StreamFault} (Ok (Some c.in-Ok-Some.spelled)) (event_from at (drop at input)) = let e = read.event in cc in
    let moved : c.next_event.new.self.position ≡ at + field_size (drop at input) = search rules in (
      read.same ∙ same,
      gathered_more input _ _ c.loop-spelled.invariant.1 _ _ _ event moved c.in_ok-push-in-Ok-Some.ensures.items,
    )

pub returns-in-Ok-None : goal.returns-in-Ok-None
returns-in-Ok-None c =
    let at = c.loop-spelled.reader.position in
    let same = c.loop-spelled.invariant.0 in
    let within = subst (λ l. at ≤ length l) same c.loop-spelled.reader.inside in
    let read = c.in-Ok-None.ensures.event in
    let end : ◌≡◌ {A = Result (Option Spelled) StreamFault} (Ok None) (event_from at (drop at c.args.input.now)) = cc in
    let all = gathered_all _ _ _ c.loop-spelled.invariant.1 end within in
    record { events = all.0; fault = all.1; whole = all.2 }

pub returns-in-Err : goal.returns-in-Err
returns-in-Err c =
    let at = c.loop-spelled.reader.position in
    let same = c.loop-spelled.invariant.0 in
    let within = subst (λ l. at ≤ length l) same c.loop-spelled.reader.inside in
    let read = c.in-Err.ensures.event in
    let met : ◌≡◌ {A = Result (Option Spelled) StreamFault} (Err c.in-Err.fault) (event_from at (drop at c.args.input.now)) = cc in
    let all = gathered_fault _ _ _ c.loop-spelled.invariant.1 c.in-Err.fault met within in
    record { events = all.0; fault = all.1; whole = all.2 }
