use Rattle.line.proofs.Front.{front_copied}
use Rattle.line.proofs.Line.keep_others.Goals as goal

pub returns-clause-held : goal.returns-clause-held
returns-clause-held g c = rw c.copy_within.ensures.after (front_copied _ _ _ c.if-at-self.false c.args.self.now.within)
