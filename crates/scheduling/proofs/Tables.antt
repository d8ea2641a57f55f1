-- One row of a table written.
use Rattle.std.proofs.Common.{◌≡◌, ℕ, zero, suc, ◌+◌, ◌<◌, ◌≢◌, List, [], ◌∷◌, length, get_or, take, set, sum_by, sym, refl, ap, ◌∙◌, subst, ⊎_elim, arith}
use Rattle.std.proofs.lemmas.List.{get_or-set_same, get_or-set_other}
use Rattle.std.proofs.lemmas.List.Sums.{sum_by-cons}
use Rattle.std.proofs.lemmas.Bool.{cases_eq}

module _ {X : Type 0} (xs : List X) (i : ℕ) (y d : X) (l : i < length xs) where
  -- what holds of the new row there, and of every other row, holds of each row now
  pub each_row : (P : ℕ → X → Type 0) → P i y → ((k : ℕ) → k ≢ i → P k (get_or xs k d)) → (k : ℕ) → P k (get_or (set xs i y) k d)
  each_row P new old k =
      ⊎_elim
      (λ (e : k ≡ i). subst (λ j. P j (get_or (set xs i y) j d)) (sym e) (subst (P i) (sym (get_or-set_same xs i y d l)) new))
      (λ (ne : k ≢ i). subst (P k) (sym (get_or-set_other xs i k y d ne)) (old k ne))
      (cases_eq k i)

  -- a part of a row that the new row has too is as it was everywhere
  pub same_part : {A : Type 0} (f : X → A) → f y ≡ f (get_or xs i d) → (k : ℕ) → f (get_or (set xs i y) k d) ≡ f (get_or xs k d)
  same_part f e = each_row (λ k x. f x ≡ f (get_or xs k d)) e (λ k ne. refl)

-- the sum over the first rows is what it was, where the new row counts as much
pub take_sum : {X : Type 0} (f : X → ℕ) (xs : List X) (n i : ℕ) (y d : X) → i < length xs → f y ≡ f (get_or xs i d) → sum_by f (take n (set xs i y)) ≡ sum_by f (take n xs)
take_sum f [] n i y d l e = absurd (omega arith)
take_sum f (x ∷ xs) zero zero y d l e = refl
take_sum f (x ∷ xs) zero (suc i) y d l e = refl
take_sum f (x ∷ xs) (suc n) zero y d l e = sum_by-cons f y (take n xs) ∙ (ap (λ s. s + sum_by f (take n xs)) e ∙ sym (sum_by-cons f x (take n xs)))
take_sum f (x ∷ xs) (suc n) (suc i) y d l e = sum_by-cons f x (take n (set xs i y)) ∙ (ap (λ s. f x + s) (take_sum f xs n i y d (omega arith) e) ∙ sym (sum_by-cons f x (take n xs)))
