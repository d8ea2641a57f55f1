-- The wake-up of the definition is right.
use Rattle.std.proofs.Common.{◌≡◌, ℕ, ◌<◌, ◌≤◌, min, cond, ltb, ◌⊎◌, List, map, Some, None, Option, sym, refl, ap, ◌∙◌, subst, inl, inr, ⊎_elim, arith}
use mathlib.Core.Logic.{⊎_map}
use Rattle.choosing.proofs.Keyed.{key_at, keyed}
use Rattle.choosing.proofs.Orders.{ranks_number}
use Rattle.choosing.proofs.Passing.{never, there, one, passed, given}
use Rattle.choosing.proofs.Placing.{Placed, least_placed}
use Rattle.choosing.specs.Due.{effective_mark}
use Rattle.choosing.specs.Free.{has_head}
use Rattle.choosing.specs.Right.{Moment}
use Rattle.choosing.specs.Wake.{earlier_of, after, release_instant, wake_key, wake_at}
use Rattle.choosing.specs.Woken.{Awaits, RightWake}
use Rattle.order.specs.Least.{least_of, place_of, key_of}
use Rattle.std.proofs.lemmas.List.FromFn.{get_or-map-range_with_len}
use Rattle.std.proofs.lemmas.Bool.{cases_lt, lt-ltb, ltb-true, ltb-false}
use Rattle.std.proofs.Math.Nat.{min-le_left, min-le_right, min-eq_left, min-eq_right}
use Rattle.std.specs.List.{range_with_len}

after_says : (micros : ℕ) (x : Option ℕ) (at : ℕ) → after micros x ≡ Some at → (micros < at) × (x ≡ Some at)
after_says micros None at e = never at e
after_says micros (Some x) at e = let r = passed (ltb micros x) x at e in (subst (λ z. micros < z) r.1 (ltb-true micros x r.0), ap Some r.1)

after_there : (micros : ℕ) (x : Option ℕ) (u : ℕ) → micros < u → x ≡ Some u → after micros x ≡ Some u
after_there micros x u l e = ap (after micros) e ∙ given (ltb micros u) u (lt-ltb micros u l)

earlier_says : (x y : Option ℕ) (at : ℕ) → earlier_of x y ≡ Some at → (x ≡ Some at) ⊎ (y ≡ Some at)
earlier_says None y at e = inr e
earlier_says (Some x) None at e = inl e
earlier_says (Some x) (Some y) at e = ⊎_elim (λ (l : x < y). inl (ap Some (sym (min-eq_left (omega arith))) ∙ e)) (λ (l : y ≤ x). inr (ap Some (sym (min-eq_right l)) ∙ e)) (cases_lt x y)

earlier_least : (x y : Option ℕ) (u : ℕ) → (x ≡ Some u) ⊎ (y ≡ Some u) → (v : ℕ) × (earlier_of x y ≡ Some v) × (v ≤ u)
earlier_least None None u h = ⊎_elim (λ e. never u e) (λ e. never u e) h
earlier_least None (Some y) u h = ⊎_elim (λ e. never u e) (λ e. let q = one y u e in (y, refl, omega arith)) h
earlier_least (Some x) None u h = ⊎_elim (λ e. let q = one x u e in (x, refl, omega arith)) (λ e. never u e) h
earlier_least (Some x) (Some y) u h =
    (min x y, refl, ⊎_elim (λ e. let q = one x u e in omega (arith, min-le_left x y)) (λ e. let q = one y u e in omega (arith, min-le_right x y)) h)

module _ (m : Moment) where
  abbrev key : ℕ → Option ℕ
  key = wake_key m.tables m.heads m.micros

  abbrev keys : List (Option ℕ)
  keys = map key (range_with_len 0 64)

  abbrev released : ℕ → Option ℕ
  released k = release_instant m.tables m.micros k

  abbrev due : ℕ → Option ℕ
  due k = (effective_mark m.tables k).at

  key_says : (k at : ℕ) → k < 64 → key k ≡ Some at → Awaits m k at
  key_says k at l e =
      let r = there (has_head m.tables m.heads k) (earlier_of (after m.micros (released k)) (after m.micros (due k))) at e in
      ⊎_elim
      (λ x. let s = after_says m.micros (released k) at x in record { inside = l; head = r.0; later = s.0; either = inl s.1 })
      (λ x. let s = after_says m.micros (due k) at x in record { inside = l; head = r.0; later = s.0; either = inr s.1 })
      (earlier_says (after m.micros (released k)) (after m.micros (due k)) at r.1)

  key_there : (k u : ℕ) → Awaits m k u → (v : ℕ) × (key k ≡ Some v) × (v ≤ u)
  key_there k u a =
      let r = earlier_least (after m.micros (released k)) (after m.micros (due k)) u (⊎_map (after_there m.micros (released k) u a.later) (after_there m.micros (due k) u a.later) a.either) in
      (r.0, ap (λ b. cond b (earlier_of (after m.micros (released k)) (after m.micros (due k))) None) a.head ∙ r.1, r.2)

  picked : (o : Option (ℕ × ℕ)) → Placed ltb 64 key (place_of o) → key_at keys (place_of o) ≡ key_of o → RightWake m (key_of o)
  picked None h e = λ k u a. let r = key_there k u a in never r.0 (sym (h k a.inside) ∙ r.1)
  picked (Some p) h e =
      let here : key p.0 ≡ Some p.1 = sym (get_or-map-range_with_len key 0 64 p.0 p.0 None h.inside (omega arith)) ∙ e in
      let best : h.best ≡ p.1 = one h.best p.1 (sym h.has ∙ here) in
      record {
        place = p.0;
        awaited = key_says p.0 p.1 h.inside here;
        first = λ k u a. let r = key_there k u a in let l = ltb-false r.0 h.best (h.first k r.0 a.inside r.1) in omega (arith, l, best, r.2);
      }

  pub wakes_right : (r : Option ℕ) → r ≡ wake_at m.tables m.heads m.micros → RightWake m r
  wakes_right r e = subst (RightWake m) (sym e) (picked (least_of ltb keys) (least_placed ltb ranks_number 64 key) (keyed ltb keys (place_of (least_of ltb keys)) refl))
