-- Sums over the table of sessions by a session's name, and collections of runs compared by sums.
use Rattle.std.proofs.Common.{◌≡◌, ℕ, zero, suc, ◌+◌, ◌<◌, ◌≤◌, Bool, true, false, cond, ◌&&◌, eqb, List, [], ◌∷◌, length, get_or, set, sum_by, sym, refl, ◌∙◌, subst, ⊎_elim, arith}
use Rattle.device.specs.Meaning.{Same}
use Rattle.service.specs.Rows.{blank_session, fits, is_present, PresentAs}
use Rattle.service.specs.declared.rows.Session.{Session}
use Rattle.std.specs.List.{AllByRecursion as All}
use Rattle.std.proofs.lemmas.List.Sums.{sum_by-cons, sum_by-set}
use Rattle.std.proofs.lemmas.Bool.{cases_eq, cases_Bool, and_parts, and_right, eqb-true, eq-eqb, ne_eqb}
use Rattle.values.specs.Direction.{direction_number}
use Rattle.values.specs.declared.io.Run.{Run}

-- what holds of q, and of every other number, holds of every number
pub split : (P : ℕ → Type 0) (q : ℕ) → P q → ((n : ℕ) → (q ≡ n → ⊥) → P n) → (n : ℕ) → P n
split P q here other n = ⊎_elim (λ e. subst P e here) (λ d. other n d) (cases_eq q n)

-- the row is that of the present session n
abbrev pub named : ℕ → Session → Bool
named n r = fits (PresentAs n) r

-- the present session n has this place
pub record Stands (rows : List Session) (place n : ℕ) : Type 0 where
  pub within : place < length rows
  pub is : named n (get_or rows place blank_session) ≡ true

-- a number of the row of the present session n, and 0 of any other row
abbrev pub weight : ℕ → (Session → ℕ) → Session → ℕ
weight n g r = cond (named n r) (g r) 0

abbrev pub at : ℕ → (Session → ℕ) → List Session → ℕ
at n g rows = sum_by (weight n g) rows

abbrev pub one : Session → ℕ
one r = 1

pub at_cons : (n : ℕ) (g : Session → ℕ) (r : Session) (rows : List Session) → at n g (r ∷ rows) ≡ weight n g r + at n g rows
at_cons n g r rows = sum_by-cons (weight n g) r rows

pub weight_named : (n : ℕ) (g : Session → ℕ) (r : Session) → named n r ≡ true → weight n g r ≡ g r
weight_named n g r e = rw e

pub weight_other : (n : ℕ) (g : Session → ℕ) (r : Session) → named n r ≡ false → weight n g r ≡ 0
weight_other n g r e = rw e

-- with no session n there is nothing of it
pub none_at : (n : ℕ) (g : Session → ℕ) (rows : List Session) → at n one rows ≡ 0 → at n g rows ≡ 0
none_at n g [] h = refl
none_at n g (r ∷ rows) h =
    ⊎_elim
    (λ e. omega (arith, at_cons n one r rows, weight_named n one r e))
    (λ e. omega (arith, at_cons n one r rows, at_cons n g r rows, weight_other n g r e, none_at n g rows (omega (arith, at_cons n one r rows))))
    (cases_Bool (named n r))

some_at : (n : ℕ) (rows : List Session) (place : ℕ) → Stands rows place n → 1 ≤ at n one rows
some_at n [] place s = absurd (omega (arith, s.within))
some_at n (r ∷ rows) zero s = omega (arith, at_cons n one r rows, weight_named n one r s.is)
some_at n (r ∷ rows) (suc place) s = omega (arith, at_cons n one r rows, some_at n rows place (record { within = omega (arith, s.within); is = s.is }))

-- of one session n, the sum is what its row has
pub only_at : (n : ℕ) (g : Session → ℕ) (rows : List Session) (place : ℕ) → at n one rows ≤ 1 → Stands rows place n → at n g rows ≡ g (get_or rows place blank_session)
only_at n g [] place h s = absurd (omega (arith, s.within))
only_at n g (r ∷ rows) zero h s =
    omega (arith, at_cons n g r rows, weight_named n g r s.is, none_at n g rows (omega (arith, at_cons n one r rows, weight_named n one r s.is)))
only_at n g (r ∷ rows) (suc place) h s =
    let below : Stands rows place n = record { within = omega (arith, s.within); is = s.is } in
    ⊎_elim
    (λ e. absurd (omega (arith, at_cons n one r rows, weight_named n one r e, some_at n rows place below)))
    (λ e. omega (arith, at_cons n g r rows, weight_other n g r e, only_at n g rows place (omega (arith, at_cons n one r rows)) below))
    (cases_Bool (named n r))

-- if there is something of session n, then it is present
pub somewhere : (n : ℕ) (g : Session → ℕ) (rows : List Session) → 1 ≤ at n g rows → (place : ℕ) × Stands rows place n
somewhere n g [] h = absurd (omega arith)
somewhere n g (r ∷ rows) h =
    ⊎_elim
    (λ e. (0, record { within = omega arith; is = e }))
    (λ e. let f = somewhere n g rows (omega (arith, at_cons n g r rows, weight_other n g r e)) in (suc f.0, record { within = omega (arith, f.1.within); is = f.1.is }))
    (cases_Bool (named n r))

pub name_of : (n : ℕ) (r : Session) → named n r ≡ true → r.name ≡ n
name_of n r e = eqb-true r.name n (and_parts (is_present r.state) (eqb r.name n) e).1

pub named_other : (q n : ℕ) (r : Session) → named q r ≡ true → (q ≡ n → ⊥) → named n r ≡ false
named_other q n r e d = and_right (is_present r.state) (eqb r.name n) (ne_eqb r.name n (λ h. d (sym (name_of q r e) ∙ h)))

-- one row is written
pub set_here : (q : ℕ) (g : Session → ℕ) (rows : List Session) (place : ℕ) (r : Session) → at q one rows ≤ 1 → Stands rows place q → at q g (set rows place r) ≡ weight q g r
set_here q g rows place r h s =
    omega (arith, sum_by-set (weight q g) rows place r blank_session s.within, weight_named q g (get_or rows place blank_session) s.is, only_at q g rows place h s)

pub set_other : (q n : ℕ) (g : Session → ℕ) (rows : List Session) (place : ℕ) (r : Session) → Stands rows place q → named n r ≡ false → (q ≡ n → ⊥) → at n g (set rows place r) ≡ at n g rows
set_other q n g rows place r s e d =
    omega (arith, sum_by-set (weight n g) rows place r blank_session s.within, weight_other n g (get_or rows place blank_session) (named_other q n (get_or rows place blank_session) s.is d), weight_other n g r e)

-- ---- runs in another order

-- what is said of a run by its six numbers
abbrev pub Said : Type 1
Said = ℕ → ℕ → ℕ → ℕ → ℕ → ℕ → Type 0

abbrev pub says : Said → Run → Type 0
says P run = P run.session run.first run.count (direction_number run.direction) run.extent.address run.extent.length

-- two runs that tell the same
abbrev alike : Run → Run → Bool
alike x y =
    eqb x.session y.session && (eqb x.first y.first && (eqb x.count y.count && (eqb (direction_number x.direction) (direction_number y.direction) && (eqb x.extent.address y.extent.address && eqb x.extent.length y.extent.length))))

alike_self : (x : Run) → alike x x ≡ true
alike_self x =
    rw (
      eq-eqb x.session x.session refl,
      eq-eqb x.first x.first refl,
      eq-eqb x.count x.count refl,
      eq-eqb (direction_number x.direction) (direction_number x.direction) refl,
      eq-eqb x.extent.address x.extent.address refl,
      eq-eqb x.extent.length x.extent.length refl,
    )

alike_says : (P : Said) (x y : Run) → alike x y ≡ true → says P y → says P x
alike_says P x y h p =
    let a = and_parts (eqb x.session y.session) _ h in
    let b = and_parts (eqb x.first y.first) _ a.1 in
    let c = and_parts (eqb x.count y.count) _ b.1 in
    let d = and_parts (eqb (direction_number x.direction) (direction_number y.direction)) _ c.1 in
    let e = and_parts (eqb x.extent.address y.extent.address) _ d.1 in
    let s = eqb-true x.session y.session a.0 in
    let f = eqb-true x.first y.first b.0 in
    let n = eqb-true x.count y.count c.0 in
    let r = eqb-true (direction_number x.direction) (direction_number y.direction) d.0 in
    let t = eqb-true x.extent.address y.extent.address e.0 in
    let l = eqb-true x.extent.length y.extent.length e.1 in
    rw (s, f, n, r, t, l) p

abbrev times : Run → Run → ℕ
times x y = cond (alike x y) 1 0

module _ (P : Said) where
  all_in : (xs : List Run) (x : Run) → All (says P) xs → 1 ≤ sum_by (times x) xs → says P x
  all_in [] x h k = absurd (omega arith)
  all_in (y ∷ ys) x h k =
      ⊎_elim
      (λ e. alike_says P x y e h.0)
      (λ e. let z : times x y ≡ 0 = rw e in all_in ys x h.1 (omega (arith, sum_by-cons (times x) y ys)))
      (cases_Bool (alike x y))

  all_from_in : (ys : List Run) → ((x : Run) → 1 ≤ sum_by (times x) ys → says P x) → All (says P) ys
  all_from_in [] h = tt
  all_from_in (y ∷ ys) h =
      let z : times y y ≡ 1 = rw (alike_self y) in
      (h y (omega (arith, sum_by-cons (times y) y ys)), all_from_in ys (λ x k. h x (omega (arith, sum_by-cons (times x) y ys))))

  -- what holds of each run holds of each run of the same collection in another order
  pub all_same : (xs ys : List Run) → Same xs ys → All (says P) xs → All (says P) ys
  all_same xs ys e h = all_from_in ys (λ x k. all_in xs x h (omega (arith, e (times x))))
