-- Laws of collections whose order is of no account.
use Rattle.std.proofs.Common.{◌≡◌, ℕ, suc, ◌+◌, ◌<◌, List, [], ◌∷◌, length, get_or, take, drop, sum_by, sym, refl, ap, ◌∙◌, add-one, arith}
use Rattle.std.specs.List.{remove}
use Rattle.std.proofs.lemmas.List.Sums.{sum_by-cons, sum_by-append, sum_by-take-drop, sum_by-drop_more}
use Rattle.device.specs.Meaning.{Same}

-- each element counted once gives the length
each_one : {X : Type 0} (xs : List X) → sum_by (λ _. 1) xs ≡ length xs
each_one [] = refl
each_one (x ∷ xs) = let s = sum_by-cons (λ _. 1) x xs in let h = each_one xs in omega arith

pub same_length : {X : Type 0} (xs ys : List X) → Same xs ys → length xs ≡ length ys
same_length xs ys h = sym (each_one xs) ∙ (h (λ _. 1) ∙ each_one ys)

-- one taken out, and the others
pub same_removed : {X : Type 0} (xs : List X) (i : ℕ) (x : X) → i < length xs → x ≡ get_or xs i x → Same xs (x ∷ remove xs i)
same_removed xs i x lt is weight =
    let a = sum_by-take-drop weight xs i in
    let b = sum_by-drop_more weight xs i x lt in
    let c = sum_by-append weight (take i xs) (drop (suc i) xs) in
    let d = sum_by-cons weight x (remove xs i) in
    let e : sum_by weight (drop (i + 1) xs) ≡ sum_by weight (drop (suc i) xs) = ap (λ n. sum_by weight (drop n xs)) (add-one i) in
    let g : weight x ≡ weight (get_or xs i x) = ap weight is in
    omega arith
