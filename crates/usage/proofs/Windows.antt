-- The window of counts, place by place, and moved on twice.
use Rattle.std.proofs.Common.{◌≡◌, ℕ, zero, suc, ◌+◌, ◌<◌, ◌≤◌, List, [], ◌∷◌, ◌++◌, length, get_or, take, replicate, sym, refl, ap, ◌∙◌, append_assoc, arith}
use Rattle.std.proofs.lemmas.List.{places, ext_get_or, take-take, replicate-append-replicate}
use Rattle.std.proofs.lemmas.Bool.Decides.{nat_tests}
use Rattle.usage.specs.Usage.{shifted, count_at}

-- a window of any width, so that no list of a given length is written out

pub place_is : (width n : ℕ) (counts : List ℕ) (place : ℕ) → place < width → get_or (take width (replicate n 0 ++ counts)) place 0 ≡ count_at n counts place
place_is width n counts place h = grind (arith, places, nat_tests)

pub width_is : (width n : ℕ) (counts : List ℕ) → length counts ≡ width → length (take width (replicate n 0 ++ counts)) ≡ width
width_is width n counts h = grind (arith, places)

take_inner : (n m : ℕ) (xs ys : List ℕ) → n ≤ m → take n (xs ++ take m ys) ≡ take n (xs ++ ys)
take_inner n m [] ys h = take-take n m ys h
take_inner zero m (x ∷ xs) ys h = refl
take_inner (suc n) m (x ∷ xs) ys h = ap (λ l. x ∷ l) (take_inner n m xs ys (omega arith))

-- a window is the shifted one if it is so at each place
pub shifted_is : (n : ℕ) (counts later : List ℕ) → length counts ≡ 20 → length later ≡ 20 → ((k : ℕ) → k < 20 → get_or later k 0 ≡ count_at n counts k) → later ≡ shifted n counts
shifted_is n counts later h l at =
    ext_get_or 0 later (shifted n counts) (l ∙ sym (width_is 20 n counts h)) (λ k b. at k (omega arith) ∙ sym (place_is 20 n counts k (omega arith)))

pub shifted_twice : (m n : ℕ) (counts : List ℕ) → shifted m (shifted n counts) ≡ shifted (m + n) counts
shifted_twice m n counts =
    take_inner 20 20 (replicate m 0) (replicate n 0 ++ counts) (omega arith)
    ∙ ap (λ l. take 20 l) (sym (append_assoc (replicate m 0) (replicate n 0) counts) ∙ ap (λ l. l ++ counts) (replicate-append-replicate m n 0))
