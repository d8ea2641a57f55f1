-- The key of the least place stands there.
use Rattle.std.proofs.Common.{◌≡◌, ℕ, suc, Bool, true, false, cond, List, [], ◌∷◌, get_or, Some, None, Option, refl, ap, ◌∙◌}
use Rattle.order.specs.Least.{one_place_on, front_or, least_of, place_of, key_of}

-- what stands at a place
abbrev pub key_at : {X : Type 0} → List (Option X) → Option ℕ → Option X
key_at keys None = None
key_at keys (Some i) = get_or keys i None

one_on : {X : Type 0} (k : Option X) (keys : List (Option X)) (o : Option (ℕ × X)) → key_at keys (place_of o) ≡ key_of o → key_at (k ∷ keys) (place_of (one_place_on o)) ≡ key_of (one_place_on o)
one_on k keys None h = refl
one_on k keys (Some p) h = h

front_or_lem : {X : Type 0} (before : X → X → Bool) (x : X) (keys : List (Option X)) (o : Option (ℕ × X)) → key_at keys (place_of o) ≡ key_of o → key_at (Some x ∷ keys) (place_of (Some (front_or before x (one_place_on o)))) ≡ key_of (Some (front_or before x (one_place_on o)))
front_or_lem before x keys None h = refl
front_or_lem before x keys (Some p) h = which (before p.1 x)
  where
    which : (b : Bool) → key_at (Some x ∷ keys) (place_of (Some (cond b (suc p.0, p.1) (0, x)))) ≡ key_of (Some (cond b (suc p.0, p.1) (0, x)))
    which true = h
    which false = refl

key_at_lem : {X : Type 0} (before : X → X → Bool) (keys : List (Option X)) → key_at keys (place_of (least_of before keys)) ≡ key_of (least_of before keys)
key_at_lem before [] = refl
key_at_lem before (None ∷ keys) = one_on None keys (least_of before keys) (key_at_lem before keys)
key_at_lem before (Some x ∷ keys) = front_or_lem before x keys (least_of before keys) (key_at_lem before keys)

-- what stands at the place that was picked is the least key
pub keyed : {X : Type 0} (before : X → X → Bool) (keys : List (Option X)) (r : Option ℕ) → r ≡ place_of (least_of before keys) → key_at keys r ≡ key_of (least_of before keys)
keyed before keys r e = ap (key_at keys) e ∙ key_at_lem before keys
