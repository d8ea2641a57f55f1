-- The waiting line without the first I/Os of a session.
use Rattle.std.proofs.Common.{◌≡◌, ℕ, zero, suc, ◌≤◌, Bool, true, false, cond, eqb, List, [], ◌∷◌, length, drop, sym, refl, ap, ◌∙◌, arith}
use Rattle.heads.specs.Heads.{of_session}
use Rattle.line.specs.Line.{without}
use Rattle.std.proofs.lemmas.Bool.{eqb-true, ne_eqb}
use Rattle.values.specs.declared.io.Io.{Io}
use Rattle.scheduling.specs.Sending.{owner_of}

-- the session's own I/Os are taken out from the front of its own
pub without_own : (n c : ℕ) (line : List Io) → of_session n (without owner_of n c line) ≡ drop c (of_session n line)
without_own n zero [] = refl
without_own n (suc c) [] = refl
without_own n zero (io ∷ line) = refl
without_own n (suc c) (io ∷ line) = by (eqb io.session n) refl (without_own n c line) (without_own n (suc c) line)
  where
    by : (b : Bool) → eqb io.session n ≡ b → of_session n (without owner_of n c line) ≡ drop c (of_session n line) → of_session n (without owner_of n (suc c) line) ≡ drop (suc c) (of_session n line) → of_session n (cond b (without owner_of n c line) (io ∷ without owner_of n (suc c) line)) ≡ drop (suc c) (cond b (io ∷ of_session n line) (of_session n line))
    by true e here on = here
    by false e here on = rw e on

-- and the others' stay
own_else : (n o : ℕ) (io : Io) → eqb io.session n ≡ true → (n ≡ o → ⊥) → eqb io.session o ≡ false
own_else n o io e d = ne_eqb io.session o (λ h. d (sym (eqb-true io.session n e) ∙ h))

pub without_else : (n c o : ℕ) (line : List Io) → (n ≡ o → ⊥) → of_session o (without owner_of n c line) ≡ of_session o line
without_else n c o [] d = refl
without_else n zero o (io ∷ line) d = refl
without_else n (suc c) o (io ∷ line) d = by (eqb io.session n) refl (without_else n c o line d) (without_else n (suc c) o line d)
  where
    by : (b : Bool) → eqb io.session n ≡ b → of_session o (without owner_of n c line) ≡ of_session o line → of_session o (without owner_of n (suc c) line) ≡ of_session o line → of_session o (cond b (without owner_of n c line) (io ∷ without owner_of n (suc c) line)) ≡ of_session o (io ∷ line)
    by true e here on = let f = own_else n o io e d in here ∙ rw f
    by false e here on = ap {B = List Io} (λ l. cond (eqb io.session o) (io ∷ l) l) on

-- nothing is added
pub without_most : (n c : ℕ) (line : List Io) → length (without owner_of n c line) ≤ length line
without_most n c [] = omega arith
without_most n zero (io ∷ line) = omega arith
without_most n (suc c) (io ∷ line) = by (eqb io.session n) (without_most n c line) (without_most n (suc c) line)
  where
    by : (b : Bool) → length (without owner_of n c line) ≤ length line → length (without owner_of n (suc c) line) ≤ length line → length (cond b (without owner_of n c line) (io ∷ without owner_of n (suc c) line)) ≤ length (io ∷ line)
    by true here on = omega arith
    by false here on = omega arith
