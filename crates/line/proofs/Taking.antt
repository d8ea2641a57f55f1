-- A table from which the first records of an owner are being taken out: what was kept, with what is left, gives the answer.
use Rattle.std.proofs.Common.{◌≡◌, ℕ, zero, suc, ◌+◌, ◌-◌, ◌<◌, ◌≤◌, ◌⊎◌, List, [], ◌∷◌, ◌++◌, length, get_or, take, drop, set, sym, refl, ap, ◌∙◌, inl, inr, arith}
use Rattle.std.proofs.lemmas.List.{append-nil, append_assoc, length-take-le, drop_more, get_or-take, at_drop_all}
use Rattle.std.proofs.lemmas.Bool.{eq-eqb, ne_eqb, cond-true, cond-false}
use Rattle.line.specs.Line.{without, Closed}
use Rattle.line.proofs.Front.{Front, front_read, front_more, front_is, front_closed}

module _ {X : Type 0} (owner : X → ℕ) (name : ℕ) where
  without_none : (xs : List X) → without owner name 0 xs ≡ xs
  without_none [] = refl
  without_none (x ∷ xs) = refl

  without_out : (n : ℕ) (x : X) (xs : List X) → (n ≡ 0 → ⊥) → owner x ≡ name → without owner name n (x ∷ xs) ≡ without owner name (n - 1) xs
  without_out zero x xs ne e = absurd (ne refl)
  without_out (suc n) x xs ne e =
      let p : n ≡ suc n - 1 = omega arith in
      cond-true _ _ _ (eq-eqb _ _ e) ∙ ap (λ m. without owner name m xs) p

  without_keep : (n : ℕ) (x : X) (xs : List X) → ((n ≡ 0) ⊎ (owner x ≡ name → ⊥)) → without owner name n (x ∷ xs) ≡ x ∷ without owner name n xs
  without_keep zero x xs h = ap (λ l. x ∷ l) (sym (without_none xs))
  without_keep (suc n) x xs (inl e) = absurd (omega arith)
  without_keep (suc n) x xs (inr ne) = cond-false _ _ _ (ne_eqb _ _ ne)

-- i of the first `end` records were seen, k of them kept, and so many of the owner's are still to be taken out
pub record Taking {X : Type 0} (owner : X → ℕ) (name count end : ℕ) (xs ys : List X) (k left i : ℕ) : Type 0 where
  pub front : Front (take k ys) xs ys k
  pub gives : take k ys ++ without owner name left (drop i (take end xs)) ≡ without owner name count (take end xs)
  pub behind : k ≤ i

module _ {X : Type 0} {owner : X → ℕ} {name count end : ℕ} {xs ys : List X} {k left i : ℕ} (h : Taking owner name count end xs ys k left i) where
  pub taking_all : end ≤ i → end ≤ length xs → k ≤ length xs → Closed (without owner name count (take end xs)) xs ys k
  taking_all le fit few =
      let many = length-take-le end xs fit in
      let none : take k ys ≡ without owner name count (take end xs) = sym (append-nil (take k ys)) ∙ (ap (λ l. take k ys ++ l) (sym (at_drop_all (without owner name left) (take end xs) i (omega arith))) ∙ h.gives) in
      front_closed (front_is h.front none) few

  -- the record read at i
  module _ (r : X) (lt : i < end) (fit : end ≤ length xs) where
    left_is : drop i (take end xs) ≡ get_or ys i r ∷ drop (i + 1) (take end xs)
    left_is =
        let many = length-take-le end xs fit in
        drop_more (take end xs) i r (omega arith) ∙ ap (λ x. x ∷ drop (i + 1) (take end xs)) (get_or-take end xs i r lt ∙ sym (front_read h.front i r h.behind))

    pub taking_out : (left ≡ 0 → ⊥) → owner (get_or ys i r) ≡ name → Taking owner name count end xs ys k (left - 1) (i + 1)
    taking_out ne e = record {
      front = h.front;
      gives = ap (λ l. take k ys ++ l) (sym (ap (without owner name left) left_is ∙ without_out owner name left _ _ ne e)) ∙ h.gives;
      behind = let b = h.behind in omega arith;
    }

    pub taking_keeps : ((left ≡ 0) ⊎ (owner (get_or ys i r) ≡ name → ⊥)) → Taking owner name count end xs (set ys k (get_or ys i r)) (k + 1) left (i + 1)
    taking_keeps w =
        let b = h.behind in
        let more = front_more h.front (get_or ys i r) (omega arith) in
        record {
          front = front_is more (sym more.held);
          gives = ap (λ l. l ++ without owner name left (drop (i + 1) (take end xs))) more.held ∙ (append_assoc (take k ys) (get_or ys i r ∷ []) (without owner name left (drop (i + 1) (take end xs))) ∙ (ap (λ l. take k ys ++ l) (sym (ap (without owner name left) left_is ∙ without_keep owner name left _ _ w)) ∙ h.gives));
          behind = omega arith;
        }
