use Rattle.std.proofs.Common.{Some, None, refl}
use Rattle.std.specs.Option.{option_map}
use Rattle.heads.specs.Heads.{head_says}
use Rattle.heads.proofs.Growing.{scanned_all, scanned_other, scanned_more, scanned_stop}
use Rattle.heads.proofs.head.scan.head_of.Goals as goal
use Rattle.heads.proofs.head.scan.head_of.Goals.{then-io-name+in-Some, else-io-name}

pub returns-in_default : goal.returns-in_default
returns-in_default c = scanned_stop _ _ _ _ c.loop-io.invariant _ c.loop-io-test.true c.io-item.is None c.if-io-name.true refl c.in_default.ensures

pub loop-io-preserved : goal.loop-io-preserved
loop-io-preserved c =
    elim c.if-io-name.branch [
      | then-io-name+in-Some w ↦
          rw w.head-is (scanned_more _ _ _ _ c.loop-io.invariant _ c.loop-io-test.true c.io-item.is (option_map head_says (Some w.in-Some.longer)) (head_says w.in-Some.longer) w.if-io-name.true refl w.in-Some.ensures)
      | else-io-name w ↦ rw w.head-is (scanned_other _ _ _ _ c.loop-io.invariant _ c.loop-io-test.true c.io-item.is w.if-io-name.false)
    ]

pub returns : goal.returns
returns c = scanned_all _ _ _ _ c.loop-io.invariant c.loop-io-test.false
