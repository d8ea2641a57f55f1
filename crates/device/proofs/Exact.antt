-- What a bay does exactly has the meaning of a device.
use Rattle.std.proofs.Common.{ℕ, [], ◌∷◌, sum_by, sym, refl, ap, ◌∙◌}
use Rattle.values.specs.declared.io.Run.{Run}
use Rattle.device.specs.Bays.{Finished, TookFirst}
use Rattle.device.specs.Meaning.{Meaning, Worked, Took}
use Rattle.device.proofs.Collections.{same_removed}

pub worked_from_finished : (m n : Meaning) (place : ℕ) (run : Run) → Finished m place run n → Worked m n 1
worked_from_finished m n place run h = record {
  moved = run ∷ [];
  many = refl;
  working = λ weight. same_removed m.working place run h.within h.is weight ∙ ap (λ (x : Meaning). sum_by weight (run ∷ x.working)) (sym h.left);
  done = λ weight. ap (λ (x : Meaning). sum_by weight x.done) (sym h.left);
  depth = ap (λ (x : Meaning). x.depth) h.left;
}

pub took_from_first : (m n : Meaning) (run : Run) → TookFirst m run n → Took m run n
took_from_first m n run h = record {
  working = λ weight. ap (λ (x : Meaning). sum_by weight x.working) (sym h.left);
  done = λ weight. same_removed m.done 0 run h.within h.is weight ∙ ap (λ (x : Meaning). sum_by weight (run ∷ x.done)) (sym h.left);
  depth = ap (λ (x : Meaning). x.depth) h.left;
}
