-- An array made by calls of a closure that the calls leave as it was, place by place.
use Rattle.std.proofs.Common.{◌≡◌, ℕ, zero, suc, ◌+◌, ◌<◌, List, get_or, sym, subst, arith}
use Rattle.std.specs.Array.{IsFromFnResultFrom, IsFromFnResult}
use denote.Param.Members.{Mut, Called}

module _ {F B : Type 0} (g : Mut F (ℕ × Unit {0}) B) (P : ℕ → B → Type 0) (f : F) (told : (i : ℕ) (y : B) (q : F) → Called g f (i, tt) y q → P i y × (q ≡ f)) where
  answers_from : (ys : List B) (i n j : ℕ) (d : B) → IsFromFnResultFrom g f ys i n → j < n → P (i + j) (get_or ys (i + j) d)
  answers_from ys i zero j d h lt = absurd (omega arith)
  answers_from ys i (suc n) zero d h lt = let e : i ≡ i + 0 = omega arith in subst (λ m. P m (get_or ys m d)) e (subst (P i) (sym (h.2.1 d)) (told i h.1 h.0 h.3).0)
  answers_from ys i (suc n) (suc j) d h lt =
      let e : i + 1 + j ≡ i + suc j = omega arith in
      subst (λ m. P m (get_or ys m d)) e (answers_from ys (i + 1) n j d (subst (λ q. IsFromFnResultFrom g q ys (i + 1) n) (told i h.1 h.0 h.3).1 h.4) (omega arith))

  -- each place has what the closure answers at it
  pub answers_at : (ys : List B) (n : ℕ) → IsFromFnResult g f ys n → (k : ℕ) (d : B) → k < n → P k (get_or ys k d)
  answers_at ys n h k d lt = let e : 0 + k ≡ k = omega arith in subst (λ m. P m (get_or ys m d)) e (answers_from ys 0 n k d h.each lt)
