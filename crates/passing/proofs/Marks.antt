-- Due marks: which go first, and what a new one does.
use Rattle.std.proofs.Common.{◌≡◌, ℕ, ◌+◌, ◌<◌, ◌≤◌, Bool, true, false, cond, eqb, ltb, ◌⊎◌, Some, None, Option, refl, ap, ◌∙◌, inl, inr, ⊎_elim, arith}
use Rattle.bucket.specs.Buckets.{run_cost}
use Rattle.bucket.specs.Due.{wait_for, mark_of}
use Rattle.choosing.specs.Due.{earlier_mark, has_come}
use Rattle.order.specs.Keys.{mark_before}
use Rattle.order.specs.Order.{missing_last, then_by}
use Rattle.order.specs.declared.keys.DueMark.{DueMark}
use Rattle.std.proofs.lemmas.Bool.{both_ways, cases_Bool, cond_both}
use Rattle.std.proofs.lemmas.Bool.Decides.{nat_tests}

-- the two parts of a mark
abbrev before : Option ℕ → ℕ → Option ℕ → ℕ → Bool
before a i b j = then_by (missing_last ltb) ltb (a, i) (b, j)

late_parts : (a b c : Option ℕ) (i j k : ℕ) → before a i b j ≡ false → before b j c k ≡ false → before a i c k ≡ false
late_parts None None None i j k h g = grind (arith, nat_tests)
late_parts None None (Some c) i j k h g = grind (arith, nat_tests)
late_parts None (Some b) None i j k h g = grind (arith, nat_tests)
late_parts None (Some b) (Some c) i j k h g = refl
late_parts (Some a) None None i j k h g = grind (arith, nat_tests)
late_parts (Some a) None (Some c) i j k h g = grind (arith, nat_tests)
late_parts (Some a) (Some b) None i j k h g = grind (arith, nat_tests)
late_parts (Some a) (Some b) (Some c) i j k h g = grind (arith, nat_tests)

-- not before, and not before again
pub late_trans : (a b c : DueMark) → mark_before a b ≡ false → mark_before b c ≡ false → mark_before a c ≡ false
late_trans a b c h g = late_parts a.at b.at c.at a.number b.number c.number h g

self_parts : (a : Option ℕ) (i : ℕ) → before a i a i ≡ false
self_parts None i = grind (arith, nat_tests)
self_parts (Some a) i = grind (arith, nat_tests)

not_self : (a : DueMark) → mark_before a a ≡ false
not_self a = self_parts a.at a.number

turn_parts : (a b : Option ℕ) (i j : ℕ) → before a i b j ≡ true → before b j a i ≡ false
turn_parts None None i j h = grind (arith, nat_tests)
turn_parts None (Some b) i j h = grind (arith, nat_tests)
turn_parts (Some a) None i j h = refl
turn_parts (Some a) (Some b) i j h = grind (arith, nat_tests)

not_both : (a b : DueMark) → mark_before a b ≡ true → mark_before b a ≡ false
not_both a b h = turn_parts a.at b.at a.number b.number h

-- the earlier of two is one of them, and goes after neither
pub earlier_cases : (a b : DueMark) → ((mark_before b a ≡ true) × (earlier_mark a b ≡ b)) ⊎ ((mark_before b a ≡ false) × (earlier_mark a b ≡ a))
earlier_cases a b = ⊎_elim (λ h. inl (h, ap (λ t. cond t b a) h)) (λ h. inr (h, ap (λ t. cond t b a) h)) (cases_Bool (mark_before b a))

pub earlier_first : (a b : DueMark) → mark_before a (earlier_mark a b) ≡ false
earlier_first a b = ⊎_elim (λ h. ap (mark_before a) h.1 ∙ not_both b a h.0) (λ h. ap (mark_before a) h.1 ∙ not_self a) (earlier_cases a b)

pub earlier_second : (a b : DueMark) → mark_before b (earlier_mark a b) ≡ false
earlier_second a b = ⊎_elim (λ h. ap (mark_before b) h.1 ∙ not_self b) (λ h. ap (mark_before b) h.1 ∙ h.0) (earlier_cases a b)

-- what is not later than a mark that has come has come
come_parts : (now : ℕ) (a b : Option ℕ) (i j : ℕ) → has_come now a ≡ true → before a i b j ≡ false → has_come now b ≡ true
come_parts now None b i j h g = absurd (both_ways false refl h)
come_parts now (Some a) None i j h g = grind (arith, nat_tests)
come_parts now (Some a) (Some b) i j h g = grind (arith, nat_tests)

pub come_sooner : (now : ℕ) (a b : DueMark) → has_come now a.at ≡ true → mark_before a b ≡ false → has_come now b.at ≡ true
come_sooner now a b h g = come_parts now a.at b.at a.number b.number h g

-- a mark that has come stays so
pub come_later : (now then : ℕ) (a : Option ℕ) → now ≤ then → has_come now a ≡ true → has_come then a ≡ true
come_later now then None l h = h
come_later now then (Some t) l h = grind (arith, nat_tests)

-- a mark set at the present instant goes after each that has come and has a lower number
new_parts : (now wait : ℕ) (a : Option ℕ) (i j : ℕ) → has_come now a ≡ true → i < j → before a i (Some (now + wait)) j ≡ true
new_parts now wait None i j h k = absurd (both_ways false refl h)
new_parts now wait (Some a) i j h k = grind (arith, nat_tests)

never_parts : (now : ℕ) (a : Option ℕ) (i j : ℕ) → has_come now a ≡ true → before a i None j ≡ true
never_parts now None i j h = absurd (both_ways false refl h)
never_parts now (Some a) i j h = refl

pub new_after : (now : ℕ) (a : DueMark) (reserve units number : ℕ) → has_come now a.at ≡ true → a.number < number → mark_before a (mark_of reserve units now number) ≡ true
new_after now a reserve units number h k =
    cond_both (eqb reserve 0) None (Some (now + wait_for run_cost reserve units)) (λ (b : Option ℕ). before a.at a.number b number ≡ true)
    (λ e. never_parts now a.at a.number number h)
    (λ e. new_parts now (wait_for run_cost reserve units) a.at a.number number h k)
