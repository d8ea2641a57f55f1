use Rattle.seek.proofs.Splitting.{cut_at, uncut}
use Rattle.seek.proofs.request.split.Goals as goal

pub returns-in-Some : goal.returns-in-Some
returns-in-Some c = cut_at c.args.mark c.in-Some.at c.args.text.now c.in-Some.ensures

pub returns-in-None : goal.returns-in-None
returns-in-None c = uncut c.args.mark c.args.text.now c.in-None.ensures
