-- The runs of all places: at the start of the pass, with one I/O more, and at its end.
use Rattle.std.proofs.Common.{◌≡◌, ℕ, ◌+◌, ◌<◌, ◌≤◌, Bool, true, false, List, [], ◌∷◌, length, get_or, set, drop, replicate, Some, None, Option, sym, refl, ap, ◌∙◌, subst, ⊎_elim, arith}
use Rattle.std.proofs.lemmas.Bool.{cases_eq}
use Rattle.std.proofs.lemmas.List.{drop_more, drop_all, get_or-replicate, get_or_default, get_or-set_same, get_or-set_other}
use Rattle.values.specs.declared.io.Io.{Io}
use Rattle.heads.specs.declared.head.at_once.Growing.{Growing}
use Rattle.heads.specs.declared.head.at_once.Growing.TheVariants.{Empty}
use Rattle.heads.specs.Heads.{HeadRun, finally, head_for}
use Rattle.heads.specs.Places.{found, can_grow, finally_from, final_at}
use Rattle.heads.proofs.Growing.{onward_none}

start_at : (o : Option ℕ) (waiting : List Io) → finally None true o waiting ≡ head_for o waiting
start_at None waiting = refl
start_at (Some name) waiting = refl

pub starts : (names : List (Option ℕ)) (waiting : List Io) (k : ℕ) → k < 64 → final_at (replicate 64 Empty) names k waiting ≡ head_for (get_or names k None) waiting
starts names waiting k lt = ap (λ (g : Growing). finally_from g (get_or names k None) waiting) (get_or-replicate 64 k Empty Empty lt) ∙ start_at (get_or names k None) waiting

end_at : (h : Option HeadRun) (grows : Bool) (o : Option ℕ) → finally h grows o [] ≡ h
end_at h grows None = refl
end_at h true (Some name) = onward_none h
end_at h false (Some name) = refl

-- one I/O more was met
pub goes_on : (before after : List Growing) (names : List (Option ℕ)) (waiting : List Io) (i : ℕ) (io : Io) (k : ℕ) (final : Option HeadRun) → i < length waiting → io ≡ get_or waiting i io → final_at after names k (drop (i + 1) waiting) ≡ final_at before names k (io ∷ drop (i + 1) waiting) → final_at before names k (drop i waiting) ≡ final → final_at after names k (drop (i + 1) waiting) ≡ final
goes_on before after names waiting i io k final lt is met h = met ∙ (ap (final_at before names k) (sym (drop_more waiting i io lt ∙ ap (λ x. x ∷ drop (i + 1) waiting) (sym is))) ∙ h)

pub ends : (growing : List Growing) (names : List (Option ℕ)) (waiting : List Io) (i k : ℕ) (final : Option HeadRun) → length waiting ≤ i → final_at growing names k (drop i waiting) ≡ final → found (get_or growing k Empty) ≡ final
ends growing names waiting i k final le h = let g = get_or growing k Empty in sym (ap (final_at growing names k) (drop_all i waiting le) ∙ end_at (found g) (can_grow g) (get_or names k None)) ∙ h

-- the place i met an I/O, after those before it
module _ (before runs : List Growing) (names : List (Option ℕ)) (io : Io) (i : ℕ) (lt : i < length runs) (left : get_or runs i Empty ≡ get_or before i Empty) where
  pub one_met : (run old : Growing) → ((ios : List Io) → finally_from run (get_or names i None) ios ≡ finally_from (get_or runs i old) (get_or names i None) (io ∷ ios)) → ((k : ℕ) (ios : List Io) → k < i → final_at runs names k ios ≡ final_at before names k (io ∷ ios)) → (k : ℕ) (ios : List Io) → k < i + 1 → final_at (set runs i run) names k ios ≡ final_at before names k (io ∷ ios)
  one_met run old met done k ios l =
      ⊎_elim
      (λ (e : k ≡ i). subst (λ j. final_at (set runs i run) names j ios ≡ final_at before names j (io ∷ ios)) (sym e)
      (ap (λ g. finally_from g (get_or names i None) ios) (get_or-set_same runs i run Empty lt) ∙ (met ios ∙ ap (λ g. finally_from g (get_or names i None) (io ∷ ios)) (get_or_default runs i old Empty lt ∙ left))))
      (λ ne. ap (λ g. finally_from g (get_or names k None) ios) (get_or-set_other runs i k run Empty ne) ∙ done k ios (omega arith)) (cases_eq k i)
