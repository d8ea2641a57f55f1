-- A scan of the waiting line that grows a session's head run: what is found so far, with what is left, gives the head run.
use Rattle.std.proofs.Common.{◌≡◌, ℕ, ◌+◌, ◌<◌, ◌≤◌, Bool, true, false, cond, List, [], ◌∷◌, length, get_or, drop, Some, None, Option, sym, refl, ap, ◌∙◌, arith}
use Rattle.std.proofs.lemmas.List.{drop_more, at_drop_all}
use Rattle.std.proofs.lemmas.Bool.{eq-eqb, ne_eqb, cond-true, cond-false}
use Rattle.values.specs.declared.io.Io.{Io}
use Rattle.heads.specs.Heads.{HeadRun, of_session, joins, longer, grow, with_one, onward, head_of}

pub onward_none : (r : Option HeadRun) → onward r [] ≡ r
onward_none None = refl
onward_none (Some h) = refl

grows : (b : Bool) (h k : HeadRun) (io : Io) (ios : List Io) → joins h io ≡ b → Some k ≡ cond b (Some (longer h io)) None → onward (Some h) (io ∷ ios) ≡ onward (Some k) ios
grows true h k io ios e j = let q : k ≡ longer h io = cc in ap Some (cond-true _ _ _ e) ∙ ap (λ y. Some (grow y ios)) (sym q)
grows false h k io ios e j = absurd (let z : ◌≡◌ {A = ℕ} 0 1 = cc in omega arith)

stops : (b : Bool) (h : HeadRun) (io : Io) (ios : List Io) → joins h io ≡ b → None ≡ cond b (Some (longer h io)) None → onward (Some h) (io ∷ ios) ≡ Some h
stops true h io ios e j = absurd (let z : ◌≡◌ {A = ℕ} 0 1 = cc in omega arith)
stops false h io ios e j = ap Some (cond-false _ _ _ e)

-- an I/O that joins, and one that does not
onward_more : (r s : Option HeadRun) (k : HeadRun) (io : Io) (ios : List Io) → s ≡ Some k → s ≡ with_one r io → onward r (io ∷ ios) ≡ onward s ios
onward_more None s k io ios e j = ap (λ o. onward o ios) (sym j)
onward_more (Some h) s k io ios e j = grows (joins h io) h k io ios refl (sym e ∙ j) ∙ ap (λ o. onward o ios) (sym e)

onward_stop : (r s : Option HeadRun) (io : Io) (ios : List Io) → s ≡ None → s ≡ with_one r io → onward r (io ∷ ios) ≡ r
onward_stop None s io ios e j = absurd (let z : ◌≡◌ {A = ℕ} 0 1 = cc in omega arith)
onward_stop (Some h) s io ios e j = stops (joins h io) h io ios refl (sym e ∙ j)

-- i I/Os were seen
module _ (name : ℕ) (waiting : List Io) (i : ℕ) (r : Option HeadRun) (h : onward r (of_session name (drop i waiting)) ≡ head_of name waiting) where
  pub scanned_all : length waiting ≤ i → r ≡ head_of name waiting
  scanned_all le = sym (ap (onward r) (at_drop_all (of_session name) waiting i le) ∙ onward_none r) ∙ h

  module _ (io : Io) (lt : i < length waiting) (is : io ≡ get_or waiting i io) where
    left : drop i waiting ≡ io ∷ drop (i + 1) waiting
    left = drop_more waiting i io lt ∙ ap (λ x. x ∷ drop (i + 1) waiting) (sym is)

    mine : io.session ≡ name → of_session name (drop i waiting) ≡ io ∷ of_session name (drop (i + 1) waiting)
    mine e = ap (of_session name) left ∙ cond-true _ _ _ (eq-eqb _ _ e)

    pub scanned_other : (io.session ≡ name → ⊥) → onward r (of_session name (drop (i + 1) waiting)) ≡ head_of name waiting
    scanned_other ne = sym (ap (onward r) (ap (of_session name) left ∙ cond-false _ _ _ (ne_eqb _ _ ne))) ∙ h

    pub scanned_more : (s : Option HeadRun) (k : HeadRun) → io.session ≡ name → s ≡ Some k → s ≡ with_one r io → onward s (of_session name (drop (i + 1) waiting)) ≡ head_of name waiting
    scanned_more s k e some j = sym (ap (onward r) (mine e) ∙ onward_more r s k io _ some j) ∙ h

    pub scanned_stop : (s : Option HeadRun) → io.session ≡ name → s ≡ None → s ≡ with_one r io → r ≡ head_of name waiting
    scanned_stop s e none j = sym (ap (onward r) (mine e) ∙ onward_stop r s io _ none j) ∙ h
