-- What is used of a waiting line.
use Rattle.std.proofs.Common.{◌≡◌, ℕ, ◌<◌, ◌≤◌, min, List, length, take, sym, ap, ◌∙◌, ⊎_elim, arith}
use Rattle.std.proofs.lemmas.List.{take_all, take-take, length-take}
use Rattle.std.proofs.lemmas.Bool.{cases_lt}

-- as many as there are, up to a number, is up to that number
pub up_to : {X : Type 0} (xs ys : List X) (n end : ℕ) → ys ≡ xs → end ≡ min (length ys) n → take end ys ≡ take n xs
up_to xs ys n end same e =
    ⊎_elim
    (λ (l : n < length ys). let f : end ≡ n = omega arith in ap (λ k. take k ys) f ∙ ap (take n) same)
    (λ (l : length ys ≤ n). let f : end ≡ length ys = omega arith in ap (λ k. take k ys) f ∙ (take_all (length ys) ys (omega arith) ∙ (sym (take_all n ys l) ∙ ap (take n) same)))
    (cases_lt n (length ys))

-- the first n of the first so many
pub front_of_front : {X : Type 0} (xs : List X) (n len : ℕ) → take (min n len) xs ≡ take n (take len xs)
front_of_front xs n len =
    ⊎_elim
    (λ (l : len < n). let e : min n len ≡ len = omega arith in ap (λ k. take k xs) e ∙ sym (take_all n (take len xs) (omega (arith, length-take len xs))))
    (λ (l : n ≤ len). let e : min n len ≡ n = omega arith in ap (λ k. take k xs) e ∙ sym (take-take n len xs l))
    (cases_lt len n)
