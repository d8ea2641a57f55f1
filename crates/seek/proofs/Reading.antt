-- A text read line by line.
use Rattle.std.proofs.Common.{◌≡◌, ℕ, suc, ◌+◌, ◌<◌, ◌≤◌, Bool, true, false, cond, eqb, List, [], ◌∷◌, ◌++◌, map, length, sym, refl, ap, ◌∙◌, arith}
use Rattle.values.specs.declared.io.Run.{Run}
use Rattle.seek.specs.declared.text.BadLine.{BadLine}
use Rattle.seek.specs.Requests.{before_byte, after_byte}
use Rattle.seek.specs.Texts.{in_front, lines_of, requests_from, faults_from, run_says, bad_says}

-- a newline in front, or another byte
front_line : (b : ℕ) (bs : List ℕ) (line : List ℕ) (lines : List (List ℕ)) (after : List ℕ) (t : Bool) → lines_of bs ≡ lines → (t ≡ false → lines ≡ line ∷ lines_of after) → cond t ([] ∷ lines_of bs) (in_front b (lines_of bs)) ≡ cond t [] (b ∷ line) ∷ lines_of (cond t bs after)
front_line b bs line lines after true e h = refl
front_line b bs line lines after false e h = ap (in_front b) (e ∙ h refl)

-- what stands before and after the first newline is the first line and the others
first_line : (b : ℕ) (bs : List ℕ) → lines_of (b ∷ bs) ≡ before_byte 10 (b ∷ bs) ∷ lines_of (after_byte 10 (b ∷ bs))
first_line b [] = last (eqb b 10)
  where
    last : (t : Bool) → cond t ([] ∷ []) ((b ∷ []) ∷ []) ≡ cond t [] (b ∷ []) ∷ lines_of (cond t [] [])
    last true = refl
    last false = refl
first_line b (c ∷ bs) = let h = first_line c bs in front_line b (c ∷ bs) (before_byte 10 (c ∷ bs)) (lines_of (c ∷ bs)) (after_byte 10 (c ∷ bs)) (eqb b 10) refl (λ _. h)

-- the first line of what is left, and the others
pub line_first : (left line after : List ℕ) → (length left ≡ 0 → ⊥) → line ≡ before_byte 10 left → after ≡ after_byte 10 left → lines_of left ≡ line ∷ lines_of after
line_first [] line after some l a = absurd (some refl)
line_first (b ∷ bs) line after some l a = first_line b bs ∙ (λ t. sym l t ∷ lines_of (sym a t))

-- what is left behind a line has fewer bytes
either_shorter : (xs ys : List ℕ) (n : ℕ) (t : Bool) → length xs < n → length ys < n → length (cond t xs ys) < n
either_shorter xs ys n true p q = p
either_shorter xs ys n false p q = q

after_less : (b : ℕ) (bs : List ℕ) → length (after_byte 10 (b ∷ bs)) < length (b ∷ bs)
after_less b [] = either_shorter [] [] 1 (eqb b 10) (omega arith) (omega arith)
after_less b (c ∷ bs) = let h = after_less c bs in either_shorter (c ∷ bs) (after_byte 10 (c ∷ bs)) (length (b ∷ c ∷ bs)) (eqb b 10) (omega arith) (omega arith)

pub reading_shorter : (left after : List ℕ) → (length left ≡ 0 → ⊥) → after ≡ after_byte 10 left → length after < length left
reading_shorter [] after some e = absurd (some refl)
reading_shorter (b ∷ bs) after some e = let h = after_less b bs in let l = ap length e in omega arith

-- each line has a byte at least, its newline or one of its own
front_few : (b n : ℕ) (lines : List (List ℕ)) (t : Bool) → length lines ≤ n → length (cond t ([] ∷ lines) (in_front b lines)) ≤ suc n
front_few b n lines true le = omega arith
front_few b n [] false le = omega arith
front_few b n (line ∷ lines) false le = omega arith

lines_few : (bs : List ℕ) → length (lines_of bs) ≤ length bs
lines_few [] = omega arith
lines_few (b ∷ bs) = front_few b (length bs) (lines_of bs) (eqb b 10) (lines_few bs)

-- the first n lines were read, and this is left
pub record Reading (text : List ℕ) (n : ℕ) (left : List ℕ) (runs : List Run) (bad : List BadLine) : Type 0 where
  pub requests : map run_says runs ++ requests_from n (lines_of left) ≡ requests_from 0 (lines_of text)
  pub faults : map bad_says bad ++ faults_from n (lines_of left) ≡ faults_from 0 (lines_of text)
  pub within : n + length (lines_of left) ≤ length text

pub reading_none : (text left : List ℕ) (n : ℕ) (runs : List Run) (bad : List BadLine) → n ≡ 0 → left ≡ text → runs ≡ [] → bad ≡ [] → Reading text n left runs bad
reading_none text left n runs bad z l r b = record {
  requests = (λ t. map run_says (r t) ++ requests_from (z t) (lines_of (l t)));
  faults = (λ t. map bad_says (b t) ++ faults_from (z t) (lines_of (l t)));
  within = let few = lines_few text in let same = ap (λ x. length (lines_of x)) l in omega arith;
}
