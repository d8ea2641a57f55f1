-- Reading a numeral from its first digit on, where all numbers from a bound on are alike.
use Rattle.std.proofs.Common.{◌≡◌, ℕ, ◌+◌, ◌-◌, ◌*◌, ◌^◌, ◌<◌, ◌≤◌, min, Bool, true, false, cond, ◌&&◌, List, [], ◌∷◌, length, get_or, drop, Some, None, sym, refl, ap, ◌∙◌, ⊎_elim, arith}
use Rattle.std.proofs.lemmas.List.{drop_more}
use Rattle.std.proofs.lemmas.Bool.{cases_lt}
use Rattle.seek.specs.Numerals.{is_digit, all_digits, value_from}

-- what the value of a byte says of it
value_says : (v b : ℕ) (t : Bool) → Some v ≡ cond t (Some (b - 48)) None → (t ≡ true) × (v ≡ b - 48)
value_says v b true e = (refl, cc)
value_says v b false e = absurd (cc)

-- the bound, and a number cut there
abbrev pub cut : ℕ → ℕ
cut n = min n (2 ^ 32)

grows : (n : ℕ) (bs : List ℕ) → n ≤ value_from n bs
grows n [] = omega arith
grows n (b ∷ bs) = let h = grows (n * 10 + (b - 48)) bs in omega arith

-- cutting on the way changes nothing but what is cut at the end
cut_early : (n m : ℕ) (bs : List ℕ) → m ≡ cut n → cut (value_from m bs) ≡ cut (value_from n bs)
cut_early n m bs e =
    ⊎_elim
    (λ (lt : n < 2 ^ 32). let q : m ≡ n = omega arith in ap (λ k. cut (value_from k bs)) q)
    (λ (le : 2 ^ 32 ≤ n). let h = grows n bs in let g = grows m bs in omega arith)
    (cases_lt n (2 ^ 32))

-- the first i bytes are digits and spell this number
pub record Read (text : List ℕ) (i number : ℕ) : Type 0 where
  pub small : number ≤ 2 ^ 32
  pub digits : all_digits text ≡ all_digits (drop i text)
  pub value : cut (value_from number (drop i text)) ≡ cut (value_from 0 text)

module _ (text : List ℕ) (i number : ℕ) (lt : i < length text) (h : Read text i number) where
  read_on : (next : ℕ) → is_digit (get_or text i 0) ≡ true → next ≡ min (number * 10 + (get_or text i 0 - 48)) (2 ^ 32) → Read text (i + 1) next
  read_on next d e = record {
    small = omega arith;
    digits = h.digits ∙ (ap all_digits (drop_more text i 0 lt) ∙ ap (λ b. b && all_digits (drop (i + 1) text)) d);
    value = cut_early (number * 10 + (get_or text i 0 - 48)) next (drop (i + 1) text) e ∙ (sym (ap (λ l. cut (value_from number l)) (drop_more text i 0 lt)) ∙ h.value);
  }

  pub read_more : (digit next : ℕ) → Some digit ≡ cond (is_digit (get_or text i 0)) (Some (get_or text i 0 - 48)) None → next ≡ min (number * 10 + digit) (2 ^ 32) → Read text (i + 1) next
  read_more digit next v m =
      let s = value_says digit (get_or text i 0) (is_digit (get_or text i 0)) v in
      let e : next ≡ min (number * 10 + (get_or text i 0 - 48)) (2 ^ 32) = omega (arith, m, s.1) in
      read_on next s.0 e
