-- One limited bucket beside the instants of its charges: each step keeps what is paid for, and so the window law.
use Rattle.std.proofs.Common.{◌≡◌, ℕ, ◌+◌, ◌-◌, ◌*◌, ◌<◌, ◌≤◌, cond, leb, ◌⊎◌, List, [], ◌∷◌, sym, refl, ap, ◌∙◌, inl, inr, ⊎_elim, mul-le-mul_left, mul-add, arith}
use Rattle.std.proofs.lemmas.Bool.Decides.{nat_tests, leb_tells}
use Rattle.bucket.specs.Buckets.{capacity, charged_units, run_cost, settled_units}
use Rattle.bucket.specs.Windows.{Paid, WindowLaw, WindowReached, within, starts, passes, charges}

-- one instant, counted where it lies between two
abbrev counted : (from to at : ℕ) → ℕ
counted from to at = cond (leb from at) (cond (leb at to) 1 0) 0

counted_past : (from to at : ℕ) → at ≤ to → counted from to at ≡ counted from at at
counted_past from to at h = grind (arith, nat_tests)

counted_none : (from to at : ℕ) → to < from → counted from to at ≡ 0
counted_none from to at h = grind (arith, nat_tests)

counted_most : (from to at : ℕ) → counted from to at ≤ 1
counted_most from to at = grind (arith, nat_tests)

counted_cases : (from to at : ℕ) → (counted from to at ≡ 0) ⊎ ((from ≤ at) × (at ≤ to))
counted_cases from to at =
    ⊎_elim
    (λ a. ⊎_elim (λ b. inr (a.1, b.1)) (λ b. inl (rw (a.0, b.0))) (leb_tells at to))
    (λ a. inl (rw a.0))
    (leb_tells from at)

-- nothing lies in a window that ends before it begins
within_none : (from to : ℕ) (log : List ℕ) → to < from → within from to log ≡ 0
within_none from to [] h = refl
within_none from to (at ∷ log) h = omega (arith, counted_none from to at h, within_none from to log h)

-- what a rate fills in from one instant to another and on to a third
filled_on : (rate from present later : ℕ) → from ≤ present → present ≤ later → rate * (present - from) + rate * (later - present) ≡ rate * (later - from)
filled_on rate from present later h k =
    let e : (present - from) + (later - present) ≡ later - from = omega arith in
    sym (mul-add rate (present - from) (later - present)) ∙ ap (λ n. rate * n) e

module _ (rate burst : ℕ) where
  -- a full bucket with no charge yet
  pub start_paid : (present : ℕ) → Paid rate burst [] present (capacity burst)
  start_paid present = record { past = λ from to h. refl; room = λ from h. omega arith; windowed = λ from to h. omega arith }

  -- time passes: what the rate fills in widens every window as much
  pub pass_paid : (log : List ℕ) (present units later : ℕ) → present ≤ later → Paid rate burst log present units → Paid rate burst log later (settled_units rate burst units (later - present))
  pass_paid log present units later h p = record {
    past = λ from to k. p.past from to (omega arith) ∙ sym (p.past from later h);
    room = λ from k.
        ⊎_elim
        (λ a. omega (arith, p.past from later h, p.room from a.1, filled_on rate from present later a.1 h))
        (λ a. omega (arith, p.past from later h, within_none from present log a.1))
        (leb_tells from present);
    windowed = p.windowed;
  }

  -- a run is charged where the bucket holds its cost
  pub charge_paid : (log : List ℕ) (present units : ℕ) → run_cost ≤ units → Paid rate burst log present units → Paid rate burst (present ∷ log) present (charged_units units)
  charge_paid log present units enough p = record {
    past = λ from to k. omega (arith, counted_past from to present k, p.past from to k);
    room = λ from k. omega (arith, counted_most from present present, p.room from k);
    windowed = λ from to k.
        ⊎_elim
        (λ none. omega (arith, none, p.windowed from to k))
        (λ here.
        let wider : rate * (present - from) ≤ rate * (to - from) = mul-le-mul_left rate (omega arith) in
        omega (arith, counted_most from to present, p.past from to here.1, p.room from here.0))
        (counted_cases from to present);
  }

  -- settled to a later instant and charged there
  pub send_paid : (log : List ℕ) (present units later : ℕ) → present ≤ later → run_cost ≤ settled_units rate burst units (later - present) → Paid rate burst log present units → Paid rate burst (later ∷ log) later (charged_units (settled_units rate burst units (later - present)))
  send_paid log present units later h enough p = charge_paid log later (settled_units rate burst units (later - present)) enough (pass_paid log present units later h p)

-- each step keeps it, so every course does
pub window_law : WindowLaw
window_law rate burst _ _ _ (starts present) = start_paid rate burst present
window_law rate burst _ _ _ (passes c later h) = pass_paid rate burst _ _ _ later h (window_law rate burst _ _ _ c)
window_law rate burst _ _ _ (charges c enough) = charge_paid rate burst _ _ _ enough (window_law rate burst _ _ _ c)

pub window_reached : WindowReached
window_reached = record {
  course = charges (passes (charges (charges (starts 1000000) (omega arith)) (omega arith)) 1500000 (omega arith)) (omega arith);
  three = refl;
  all = refl;
}
