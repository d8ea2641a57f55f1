use Rattle.seek.proofs.Digits.{Read}
use Rattle.seek.proofs.request.decimal.Given as goal

abbrev pub invariant-loop-byte : goal.invariant-loop-byte
invariant-loop-byte l = Read l.text l.byte-index l.number
