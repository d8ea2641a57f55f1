-- Counting what passes a test: among the rows of a table, and among the first numbers.
use Rattle.std.proofs.Common.{◌≡◌, ℕ, zero, suc, ◌+◌, ◌-◌, ◌<◌, ◌≤◌, Bool, true, false, cond, not, eqb, ◌≢◌, List, [], ◌∷◌, length, get_or, set, count_by, sym, refl, ap, ⊎_elim, add-one, arith}
use Rattle.choosing.specs.Picks.{some_of}
use Rattle.std.proofs.lemmas.List.Sums.{sum_by-cons, sum_by-set}
use Rattle.std.proofs.lemmas.Bool.{both_ways, cases_eq, or_cases, eq-eqb, ne_eqb}

-- 1 for what passes
abbrev pub bit : Bool → ℕ
bit b = cond b 1 0

pub bit_true : (b : Bool) → b ≡ true → bit b ≡ 1
bit_true b h = ap bit h

pub bit_false : (b : Bool) → b ≡ false → bit b ≡ 0
bit_false b h = ap bit h

pub bit_le : (a b : Bool) → (a ≡ true → b ≡ true) → bit a ≤ bit b
bit_le true b h = let e = bit_true b (h refl) in omega arith
bit_le false b h = omega arith

-- a test that passes only where n is not 0 counts no more than n
pub at_most : (b : Bool) (n : ℕ) → (b ≡ true → 1 ≤ n) → bit b ≤ n
at_most true n h = h refl
at_most false n h = omega arith

-- ---- rows

module _ {X : Type 0} where
  pub count_cons : (p : X → Bool) (x : X) (xs : List X) → count_by p (x ∷ xs) ≡ bit (p x) + count_by p xs
  count_cons p x xs = sum_by-cons (λ y. bit (p y)) x xs

  -- one row written
  pub count_set : (p : X → Bool) (xs : List X) (i : ℕ) (y d : X) → i < length xs → count_by p (set xs i y) + bit (p (get_or xs i d)) ≡ count_by p xs + bit (p y)
  count_set p xs i y d l = sum_by-set (λ x. bit (p x)) xs i y d l

  -- a wider test
  pub count_le : (p q : X → Bool) (xs : List X) → ((x : X) → p x ≡ true → q x ≡ true) → count_by p xs ≤ count_by q xs
  count_le p q [] h = omega arith
  count_le p q (x ∷ xs) h = omega (arith, count_cons p x xs, count_cons q x xs, bit_le (p x) (q x) (h x), count_le p q xs h)

-- ---- numbers

-- how many of the first n numbers pass
pub tally : ℕ → (ℕ → Bool) → ℕ
tally zero test = 0
tally (suc n) test = bit (test n) + tally n test

pub tally_more : (n : ℕ) (test : ℕ → Bool) → tally (n + 1) test ≡ bit (test n) + tally n test
unfolding tally
tally_more n test = ap (λ k. tally k test) (add-one n)

-- a wider test
pub tally_le : (n : ℕ) (f g : ℕ → Bool) → ((i : ℕ) → i < n → f i ≡ true → g i ≡ true) → tally n f ≤ tally n g
unfolding tally
tally_le zero f g h = omega arith
tally_le (suc n) f g h = omega (arith, bit_le (f n) (g n) (h n (omega arith)), tally_le n f g (λ i l. h i (omega arith)))

-- an equal one
pub tally_same : (n : ℕ) (f g : ℕ → Bool) → ((i : ℕ) → i < n → f i ≡ g i) → tally n f ≡ tally n g
unfolding tally
tally_same zero f g h = refl
tally_same (suc n) f g h = omega (arith, ap bit (h n (omega arith)), tally_same n f g (λ i l. h i (omega arith)))

-- tests that differ at one number alone
pub tally_set : (n k : ℕ) (f g : ℕ → Bool) → k < n → ((i : ℕ) → i ≢ k → f i ≡ g i) → tally n f + bit (g k) ≡ tally n g + bit (f k)
unfolding tally
tally_set zero k f g l h = absurd (omega arith)
tally_set (suc n) k f g l h =
    ⊎_elim
    (λ (e : k ≡ n).
    let a : bit (f k) ≡ bit (f n) = ap (λ i. bit (f i)) e in
    let b : bit (g k) ≡ bit (g n) = ap (λ i. bit (g i)) e in
    omega (arith, a, b, tally_same n f g (λ i under. h i (λ same. omega arith))))
    (λ (ne : k ≢ n). omega (arith, ap bit (h n (λ e. ne (sym e))), tally_set n k f g (omega arith) h))
    (cases_eq k n)

-- all but one of them
pub tally_others : (n k : ℕ) → k < n → tally n (λ i. not (eqb i k)) ≡ n - 1
unfolding tally
tally_others n k l =
    let others : ℕ → Bool = λ i. not (eqb i k) in
    let all : ℕ → Bool = λ i. true in
    let here = ap (λ b. bit (not b)) (eq-eqb k k refl) in
    let e = tally_set n k others all l (λ i ne. ap not (ne_eqb i k ne)) in
    omega (arith, e, here, every n)
  where
    every : (n : ℕ) → tally n (λ i. true) ≡ n
    every zero = refl
    every (suc n) = omega (arith, every n)

-- one of the first n numbers passes
pub some_at : (n : ℕ) (test : ℕ → Bool) → some_of n test ≡ true → (k : ℕ) × (k < n) × (test k ≡ true)
unfolding some_of
some_at zero test e = absurd (both_ways false refl e)
some_at (suc n) test e = ⊎_elim (λ h. let r = some_at n test h in (r.0, omega (arith, r.1), r.2)) (λ h. (n, omega arith, h)) (or_cases (some_of n test) (test n) e)
