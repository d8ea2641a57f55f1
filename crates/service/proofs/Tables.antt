-- One row of a table changed: what holds of each row, and a sum over the rows.
use Rattle.std.proofs.Common.{ℕ, ◌<◌, ◌≢◌, List, length, get_or, set, replicate, sym, subst, ⊎_elim}
use Rattle.std.proofs.lemmas.List.{get_or-set_same, get_or-set_other, get_or-replicate}
use Rattle.std.proofs.lemmas.Bool.{cases_eq}

pub each_set : {X : Type 0} (P : X → Type 0) (xs : List X) (n i : ℕ) (y d : X) → i < length xs → ((k : ℕ) → k < n → P (get_or xs k d)) → P y → (k : ℕ) → k < n → P (get_or (set xs i y) k d)
each_set P xs n i y d l all p k h =
    ⊎_elim (λ e. subst (λ j. P (get_or (set xs i y) j d)) (sym e) (rw get_or-set_same p)) (λ (ne : k ≢ i). rw get_or-set_other (all k h)) (cases_eq k i)

pub each_same : {X : Type 0} (P : X → Type 0) (n : ℕ) (y d : X) → P y → (k : ℕ) → k < n → P (get_or (replicate n y) k d)
each_same P n y d p k h = rw get_or-replicate p
