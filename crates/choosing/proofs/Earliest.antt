-- The earliest instant of a chain over the places.
use Rattle.std.proofs.Common.{◌≡◌, ℕ, suc, min, Bool, true, false, cond, ltb, List, [], ◌∷◌, map, fold, filter_map, Some, None, Option, sym, refl, ap, ◌∙◌, arith}
use Rattle.choosing.proofs.Passing.{never, one}
use Rattle.choosing.specs.Wake.{earliest}
use Rattle.order.specs.Least.{one_place_on, front_or, least_of, key_of}
use Rattle.std.proofs.lemmas.Bool.Decides.{nat_tests}
use Rattle.std.specs.List.{cons_option, reduce}

regroup : (x y z : ℕ) → min (min x y) z ≡ min x (min y z)
regroup x y z = grind (arith, nat_tests)

-- the first of some numbers may be taken in at the end
min_last : (x y : ℕ) (ys : List ℕ) → fold min (min x y) ys ≡ min x (fold min y ys)
min_last x y [] = refl
min_last x y (z ∷ ys) = ap (λ n. fold min n ys) (regroup x y z) ∙ min_last x (min y z) ys

lower : (x y : ℕ) → min x y ≡ cond (ltb y x) y x
lower x y = grind (arith, nat_tests)

same_place : (o : Option (ℕ × ℕ)) → key_of o ≡ key_of (one_place_on o)
same_place None = refl
same_place (Some p) = refl

-- one number more in front
in_front : (x : ℕ) (ys : List ℕ) (o : Option (ℕ × ℕ)) → reduce min ys ≡ key_of o → reduce min (x ∷ ys) ≡ key_of (Some (front_or ltb x (one_place_on o)))
in_front x [] None h = refl
in_front x [] (Some p) h = never p.1 h
in_front x (y ∷ ys) None h = never (fold min y ys) (sym h)
in_front x (y ∷ ys) (Some p) h = ap Some (min_last x y ys ∙ (ap (min x) (one (fold min y ys) p.1 h) ∙ lower x p.1)) ∙ ap Some (which (ltb p.1 x))
  where
    which : (b : Bool) → cond b p.1 x ≡ (cond {A = ℕ × ℕ} b (suc p.0, p.1) (0, x)).1
    which true = refl
    which false = refl

pub least_of_chain : {Z : Type 0} (key : Z → Option ℕ) (zs : List Z) → reduce min (filter_map key zs) ≡ earliest (map key zs)
least_of_chain key [] = refl
least_of_chain key (z ∷ zs) = step (key z) (filter_map key zs) (map key zs) (least_of_chain key zs)
  where
    step : (k : Option ℕ) (ys : List ℕ) (ks : List (Option ℕ)) → reduce min ys ≡ earliest ks → reduce min (cons_option k ys) ≡ earliest (k ∷ ks)
    step None ys ks h = h ∙ same_place (least_of ltb ks)
    step (Some x) ys ks h = in_front x ys (least_of ltb ks) h
