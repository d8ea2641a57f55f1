-- Fields cut from what is left of a stream.
use Rattle.std.proofs.Common.{◌≡◌, ℕ, ◌+◌, ◌≤◌, Bool, true, false, cond, eqb, leb, List, length, get_or, take, drop, Some, None, Ok, Err, Option, Result, sym, refl, ap, ◌∙◌, subst, arith}
use Rattle.std.proofs.lemmas.List.{length-drop, length-take-le, drop-drop}
use Rattle.std.proofs.lemmas.Bool.Decides.{nat_tests}
use Rattle.stream.specs.declared.event.Event.{Event}
use Rattle.stream.specs.declared.event.Spelled.{Spelled}
use Rattle.stream.specs.declared.fault.StreamFault.{StreamFault}
use Rattle.stream.specs.declared.fault.StreamWhy.{StreamWhy}
use Rattle.stream.specs.declared.fault.StreamWhy.TheVariants.{CutShort}
use Rattle.stream.specs.declared.field.Field.{Field}
use Rattle.stream.specs.Events.{event_of, placed}
use Rattle.stream.specs.Fields.{PlainField, field_size, field_from, spelled_at, spelled_by, one_read, decoded, event_from, plain_field, plainly, ValueInPlace}
use Rattle.stream.specs.Numbers.{big_endian}

-- what an answer tells of the tests behind it: no field is the end, a field passed the last test, and a fault is the one given
abbrev Told : {X E : Type 0} → Bool → Bool → X → E → Result (Option X) E → Type 0
Told a t x e (Ok None) = a ≡ true
Told a t x e (Ok (Some y)) = (t ≡ true) × (y ≡ x)
Told a t x e (Err d) = d ≡ e

told : {X E : Type 0} (a b t : Bool) (x : X) (e : E) → Told a t x e (cond a (Ok None) (cond b (cond t (Ok (Some x)) (Err e)) (Err e)))
told true b t x e = refl
told false false t x e = refl
told false true false x e = refl
told false true true x e = (refl, refl)

-- the field at the front of the bytes that are left
abbrev front : ℕ → List ℕ → PlainField
front offset left = record { offset = offset; tag = get_or left 0 0; value = take (big_endian (take 2 (drop 1 left))) (drop 3 left) }

told_of : (offset : ℕ) (left : List ℕ) (r : Result (Option PlainField) StreamFault) → r ≡ field_from offset left → Told (eqb (length left) 0) (leb (field_size left) (length left)) (front offset left) (record { why = CutShort; offset = offset }) r
told_of offset left r h = subst (λ (x : Result (Option PlainField) StreamFault). Told (eqb (length left) 0) (leb (field_size left) (length left)) (front offset left) (record { why = CutShort; offset = offset }) x) (sym h) (told (eqb (length left) 0) (leb 3 (length left)) (leb (field_size left) (length left)) _ _)

-- what a field that was cut out says
pub record CutOut (offset : ℕ) (left : List ℕ) (f : PlainField) : Type 0 where
  pub whole : field_size left ≤ length left
  pub offset_is : f.offset ≡ offset
  pub tag_is : f.tag ≡ get_or left 0 0
  pub value_is : f.value ≡ take (big_endian (take 2 (drop 1 left))) (drop 3 left)
  pub size_is : field_size left ≡ 3 + length f.value

pub cut_out : (offset : ℕ) (left : List ℕ) (f : PlainField) → Ok (Some f) ≡ field_from offset left → CutOut offset left f
cut_out offset left f h =
    let n = big_endian (take 2 (drop 1 left)) in
    let t = told_of offset left (Ok (Some f)) h in
    let w : field_size left ≤ length left = let q = t.0 in grind (arith, nat_tests) in
    let d = length-drop 3 left in
    let m : n ≤ length (drop 3 left) = omega arith in
    let v : f.value ≡ take n (drop 3 left) = ap (λ (p : PlainField). p.value) t.1 in
    record {
      whole = w;
      offset_is = ap (λ (p : PlainField). p.offset) t.1;
      tag_is = ap (λ (p : PlainField). p.tag) t.1;
      value_is = v;
      size_is = ap (λ k. 3 + k) (sym (ap length v ∙ length-take-le n (drop 3 left) m));
    }

-- the value lies in the input where the field says
pub in_place : (offset : ℕ) (input : List ℕ) (r : Result (Option Field) StreamFault) → offset ≤ length input → plainly r ≡ field_from offset (drop offset input) → ValueInPlace input r
in_place offset input (Ok None) le h = tt
in_place offset input (Ok (Some f)) le h =
    let left = drop offset input in
    let k = cut_out offset left (plain_field f) h in
    let o = k.offset_is in
    let s = k.size_is in
    let w = k.whole in
    let d = length-drop offset input in
    record {
      value_is = k.value_is ∙ (ap (λ n. take n (drop 3 left)) (omega arith) ∙ (ap (take (length f.value.now)) (drop-drop 3 offset input) ∙ ap (λ n. take (length f.value.now) (drop (n + 3) input)) (sym o)));
      within = omega arith;
      size_is = ap (λ n. field_size (drop n input)) o ∙ s;
    }
in_place offset input (Err fault) le h = tt

-- ---- events

-- what an answer tells of the place where it was read
abbrev pub Tells : ℕ → List ℕ → Result (Option Spelled) StreamFault → Type 0
Tells offset left (Ok None) = length left ≡ 0
Tells offset left (Ok (Some spelled)) = (spelled.offset ≡ offset) × (field_size left ≤ length left)
Tells offset left (Err fault) = fault.offset ≡ offset

tells_decoded : (offset : ℕ) (left : List ℕ) (f : PlainField) → CutOut offset left f → (x : Result Event StreamWhy) → Tells offset left (one_read (spelled_at f.offset (placed f.offset x)))
tells_decoded offset left f h (Ok event) = (h.offset_is, h.whole)
tells_decoded offset left f h (Err why) = h.offset_is

tells_field : (offset : ℕ) (left : List ℕ) (q : Result (Option PlainField) StreamFault) → q ≡ field_from offset left → Tells offset left (decoded q)
unfolding spelled_by
tells_field offset left (Ok None) h = let t = told_of offset left (Ok None) h in grind (arith, nat_tests)
tells_field offset left (Ok (Some f)) h = tells_decoded offset left f (cut_out offset left f h) (event_of f.tag f.value)
tells_field offset left (Err fault) h = ap (λ (f : StreamFault). f.offset) (told_of offset left (Err fault) h)

pub tells_of : (offset : ℕ) (left : List ℕ) (r : Result (Option Spelled) StreamFault) → r ≡ event_from offset left → Tells offset left r
tells_of offset left r h = subst (λ (x : Result (Option Spelled) StreamFault). Tells offset left x) (sym h) (tells_field offset left (field_from offset left) refl)
