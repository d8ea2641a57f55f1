use Rattle.std.proofs.Common.{◌≡◌, false, rules}
use Rattle.choosing.specs.Free.{run_at, is_free_to_go}
use Rattle.line.proofs.Arrays.{answers_at}
use Rattle.choosing.proofs.view.View.free_places.Goals as goal

pub returns-clause-free : goal.returns-clause-free
returns-clause-free c = λ k lt. answers_at _ (λ k y. y ≡ is_free_to_go c.args.self.now.tables.now (run_at c.args.self.now.heads.now) c.args.self.now.present.micros k) _ (λ i y q called. (search rules, search rules)) _ _ c.from_fn-free.ensures.items k false lt
