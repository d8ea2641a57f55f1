-- A text cut at its first byte of a kind.
use Rattle.std.proofs.Common.{◌≡◌, ℕ, suc, ◌+◌, ◌-◌, ◌≤◌, Bool, true, false, cond, List, [], ◌∷◌, length, take, drop, Some, None, sym, refl, ap, ◌∙◌, not, ◌==◌, ltb, arith, length-drop}
use Rattle.std.specs.List.{position, position_or_len}
use Rattle.std.proofs.lemmas.Bool.{ltb-false}
use Rattle.std.proofs.lemmas.List.{take_all, drop_all}
use Rattle.seek.specs.Requests.{before_byte, after_byte}

-- the place of the first byte of a kind, or the length
abbrev place : ℕ → List ℕ → ℕ
place mark bs = position_or_len (λ b. b == mark) bs

front_step : (n b : ℕ) (bs before : List ℕ) (t : Bool) → take n bs ≡ before → take (cond (not t) (1 + n) 0) (b ∷ bs) ≡ cond t [] (b ∷ before)
front_step n b bs before true e = refl
front_step n b bs before false e = let s : 1 + n ≡ suc n = omega arith in ap (λ m. take m (b ∷ bs)) s ∙ ap (λ l. b ∷ l) e

back_step : (n b : ℕ) (bs after : List ℕ) (t : Bool) → drop (n + 1) bs ≡ after → drop (cond (not t) (1 + n) 0 + 1) (b ∷ bs) ≡ cond t bs after
back_step n b bs after true e = refl
back_step n b bs after false e = let s : 1 + n + 1 ≡ suc (n + 1) = omega arith in ap (λ m. drop m (b ∷ bs)) s ∙ e

front : (mark : ℕ) (bs : List ℕ) → take (place mark bs) bs ≡ before_byte mark bs
front mark [] = refl
front mark (b ∷ bs) = front_step (place mark bs) b bs (before_byte mark bs) (b == mark) (front mark bs)

back : (mark : ℕ) (bs : List ℕ) → drop (place mark bs + 1) bs ≡ after_byte mark bs
back mark [] = refl
back mark (b ∷ bs) = back_step (place mark bs) b bs (after_byte mark bs) (b == mark) (back mark bs)

found_at : (n at : ℕ) (t : Bool) → Some at ≡ cond t (Some n) None → at ≡ n
found_at n at true e = cc
found_at n at false e = absurd (cc)

not_found : (n : ℕ) (t : Bool) → None ≡ cond t (Some n) None → t ≡ false
not_found n true e = absurd (cc)
not_found n false e = refl

-- where the byte is found, the text is cut there
pub cut_at : (mark at : ℕ) (text : List ℕ) → Some at ≡ position (λ b. b == mark) text → (take at text ≡ before_byte mark text) × (take (length text - (at + 1)) (drop (at + 1) text) ≡ after_byte mark text)
cut_at mark at text e =
    let is = found_at (place mark text) at (ltb (place mark text) (length text)) e in
    (ap (λ n. take n text) is ∙ front mark text, take_all _ _ (omega (arith, length-drop (at + 1) text)) ∙ (ap (λ n. drop (n + 1) text) is ∙ back mark text))

-- where it is not, all of the text stands before it
pub uncut : (mark : ℕ) (text : List ℕ) → None ≡ position (λ b. b == mark) text → (text ≡ before_byte mark text) × ([] ≡ after_byte mark text)
uncut mark text e =
    let past : length text ≤ place mark text = ltb-false _ _ (not_found (place mark text) (ltb (place mark text) (length text)) e) in
    (sym (take_all _ _ past) ∙ front mark text, sym (drop_all (place mark text + 1) text (omega (arith, past))) ∙ back mark text)
