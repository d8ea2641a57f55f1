use Rattle.std.proofs.Common.{◌≡◌, None, rules}
use Rattle.line.proofs.Arrays.{answers_at}
use Rattle.scheduling.specs.Sending.{present_name}
use Rattle.service.specs.Rows.{session}
use Rattle.scheduling.proofs.waiting.present_names.Goals as goal

pub returns : goal.returns
returns c = λ k lt. answers_at _ (λ k y. y ≡ present_name (session c.args.tables.now k)) _ (λ i y q called. (search rules, search rules)) _ _ c.from_fn.ensures.items k None lt
