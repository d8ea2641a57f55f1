use Rattle.std.proofs.Common.{vec_items}
use Rattle.seek.proofs.Reading.{Reading}
use Rattle.seek.proofs.text.read_requests.Given as goal

abbrev pub invariant-loop-line : goal.invariant-loop-line
invariant-loop-line l = record {
  can : (goal.iterator-loop-line).can_next l.line-iterator;
  finite : (goal.iterator-loop-line).is_finite l.line-iterator;
  read : Reading l.fn.text l.line-iterator.count l.line-iterator.iter.left.now (vec_items l.requests.runs) (vec_items l.requests.bad);
}
