use Rattle.seek.proofs.Digits.{read_more}
use Rattle.seek.proofs.request.decimal.Goals as goal

pub loop-byte-preserved : goal.loop-byte-preserved
loop-byte-preserved c = read_more _ _ _ c.loop-byte-test.true c.loop-byte.invariant _ _ c.in_ok-digit.ensures (c.with_digit-number.ensures c.loop-byte.invariant.small)
