-- The waiting line, session by session.
use Rattle.std.proofs.Common.{◌≡◌, ℕ, zero, suc, ◌+◌, Bool, true, false, cond, ◌&&◌, eqb, ltb, leb, List, [], ◌∷◌, ◌++◌, count_by, refl, ap, arith}
use Rattle.heads.specs.Heads.{of_session}
use Rattle.std.proofs.lemmas.List.Sums.{sum_by-cons}
use Rattle.std.proofs.lemmas.Bool.Decides.{nat_tests}
use Rattle.std.specs.List.{range_with_len}
use Rattle.values.specs.declared.io.Io.{Io}

-- one I/O more at the end
pub of_push : (n : ℕ) (line : List Io) (io : Io) → of_session n (line ++ io ∷ []) ≡ of_session n line ++ cond (eqb io.session n) (io ∷ []) []
of_push n [] io = by (eqb io.session n)
  where
    by : (b : Bool) → cond b (io ∷ []) [] ≡ [] ++ cond b (io ∷ []) []
    by true = refl
    by false = refl
of_push n (x ∷ line) io = by (eqb x.session n) (of_push n line io)
  where
    by : (b : Bool) → of_session n (line ++ io ∷ []) ≡ of_session n line ++ cond (eqb io.session n) (io ∷ []) [] → cond b (x ∷ of_session n (line ++ io ∷ [])) (of_session n (line ++ io ∷ [])) ≡ cond b (x ∷ of_session n line) (of_session n line) ++ cond (eqb io.session n) (io ∷ []) []
    by true e = ap {B = List Io} (λ l. x ∷ l) e
    by false e = e

-- a number stands once among those that are counted from another on
one_counted : (k a w : ℕ) → cond (eqb a k) 1 0 + cond (leb (a + 1) k && ltb k (a + 1 + w)) 1 0 ≡ cond (leb a k && ltb k (a + suc w)) 1 0
one_counted k a w = grind (arith, nat_tests)

none_counted : (k a : ℕ) → ◌≡◌ {A = ℕ} 0 (cond (leb a k && ltb k (a + 0)) 1 0)
none_counted k a = grind (arith, nat_tests)

pub times_counted : (k a w : ℕ) → count_by (λ x. eqb x k) (range_with_len a w) ≡ cond (leb a k && ltb k (a + w)) 1 0
times_counted k a zero = none_counted k a
times_counted k a (suc w) = omega (arith, sum_by-cons (λ x. cond (eqb x k) 1 0) a (range_with_len (a + 1) w), times_counted k (a + 1) w, one_counted k a w)
