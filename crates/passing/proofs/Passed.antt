-- What a send says of the one that it passes: the session sent from, or its pool, has a mark that is not later.
use Rattle.std.proofs.Common.{◌≡◌, ℕ, ◌+◌, ◌<◌, Bool, true, false, ◌&&◌, ltb, leb, ◌⊎◌, length, is_some, Some, None, MatchBool, Option, sym, refl, ap, ◌∙◌, inl, inr, ⊎_elim}
use Rattle.choosing.proofs.Passing.{never, there}
use Rattle.choosing.proofs.Rightly.{is_right, in_table}
use Rattle.choosing.specs.Chosen.{chosen}
use Rattle.choosing.specs.Due.{own_mark, pool_mark, effective_mark}
use Rattle.choosing.specs.Free.{usable_head, has_head, lets_go, pool_lets_go}
use Rattle.choosing.specs.Right.{Moment as View, comes, Due, ByMark, ByLevel, RightChoice}
use Rattle.choosing.specs.declared.choose.Choice.{Choice}
use Rattle.order.specs.Keys.{mark_before}
use Rattle.order.specs.declared.keys.DueMark.{DueMark}
use Rattle.passing.proofs.Marks.{late_trans, earlier_cases, earlier_first, earlier_second, come_sooner}
use Rattle.passing.specs.Law.{is_due, mark_of_pool}
use Rattle.scheduling.specs.Sending.{head_at, free_to_go, most_runs, Sends}
use Rattle.service.specs.Moments.{Moment}
use Rattle.service.specs.Rows.{session, is_present}
use Rattle.service.specs.Sound.{Present}
use Rattle.service.specs.declared.rows.Session.{Session}
use Rattle.service.specs.declared.rows.Tables.{Tables}
use Rattle.std.proofs.lemmas.Bool.{both_ways, cases_eq, and_parts, cond-true, lt-ltb}
use Rattle.usage.specs.declared.ServiceRecord.{ServiceRecord}
use Rattle.values.specs.declared.io.Run.{Run}

-- ---- who is free to go

-- a session with a usable head run is present
head_present : (r : Session) (o : Option _) (h : _) → usable_head r o ≡ Some h → is_present r.state ≡ true
head_present r None h e = never h e
head_present r (Some g) h e = (and_parts (is_present r.state) (leb g.count r.unsent) (there (is_present r.state && leb g.count r.unsent) (Some g) h e).0).0

some_head : {X : Type 0} (o : Option X) → is_some o ≡ true → (h : X) × (o ≡ Some h)
some_head None e = absurd (both_ways false refl e)
some_head (Some h) e = (h, refl)

pub free_present : (m : Moment) (k : ℕ) → free_to_go m k ≡ true → Present m.tables k
free_present m k f =
    let t = m.tables in
    let r = session t k in
    let a = and_parts (has_head t (head_at m) k) (lets_go t.latest r.account && pool_lets_go t t.latest r.pool) f in
    let s = some_head (usable_head r (head_at m k)) a.0 in
    head_present r (head_at m k) s.0 s.1

-- ---- the choice

-- a moment as the choice sees it
abbrev pub view_of : Moment → View
view_of m = record { tables = m.tables; heads = head_at m; micros = m.tables.latest }

module _ {level : ServiceRecord → ℕ} {m : Moment} {choice : Choice} {run : Run} {n : Moment} (s : Sends level m choice run n) where
  right : RightChoice level (view_of m) (Some choice)
  right = is_right level (view_of m) (Some choice) (sym (there (ltb (length m.device.working + length m.device.done) (most_runs m)) (chosen level m.tables (head_at m) m.tables.latest) choice s.goes).1)

  -- the place of the session sent from
  pub sender_inside : choice.place < 64
  sender_inside = in_table level (view_of m) (Some choice) right

  pub sender_present : Present m.tables choice.place
  sender_present = head_present (session m.tables choice.place) (head_at m choice.place) s.head s.usable

  -- while a session is due by its effective mark the choice goes by the marks
  pub by_mark : (j : ℕ) → Due (view_of m) j → ByMark (view_of m) choice.place
  by_mark j d = either choice.due right
    where
      either : (b : Bool) → MatchBool b (ByMark (view_of m) choice.place) (ByLevel level (view_of m) choice.place) → ByMark (view_of m) choice.place
      either true h = h
      either false h = absurd (both_ways (comes (view_of m) j) (h.none_come j d.free) d.come)

-- ---- marks

pub pool_mark_lem : (t : Tables) (q : ℕ) → q < 16 → pool_mark t q ≡ mark_of_pool t q
pool_mark_lem t q l = cond-true (ltb q 16) (mark_of_pool t q) (record { at = None; number = 0 }) (lt-ltb q 16 l)

module _ (v : View) (k j : ℕ) (h : ByMark v k) (d : Due v j) where
  abbrev t : Tables
  t = v.tables

  abbrev pool_of : ℕ → ℕ
  pool_of i = (session t i).pool

  -- a mark that the effective mark of a due session is not after is not before the effective mark of the session sent from
  over : (μ : DueMark) → mark_before μ (effective_mark t j) ≡ false → mark_before μ (effective_mark t k) ≡ false
  over μ e = late_trans μ (effective_mark t j) (effective_mark t k) e (h.earliest j d)

  -- the session sent from, or its pool if that is another, has a mark not later than the own mark of a due session
  pub ahead_of_session : (mark_before (own_mark t j) (own_mark t k) ≡ false) ⊎ ((pool_of k ≡ pool_of j → ⊥) × (mark_before (own_mark t j) (pool_mark t (pool_of k)) ≡ false))
  ahead_of_session =
      let mine = over (own_mark t j) (earlier_first (own_mark t j) (pool_mark t (pool_of j))) in
      ⊎_elim
      (λ r.
      ⊎_elim
      (λ (same : pool_of k ≡ pool_of j).
      let e : effective_mark t k ≡ pool_mark t (pool_of j) = r.1 ∙ ap (pool_mark t) same in
      inl (h.own j d (ap (λ μ. mark_before μ (effective_mark t j)) e ∙ earlier_second (own_mark t j) (pool_mark t (pool_of j)))))
      (λ other. inr (other, sym (ap (mark_before (own_mark t j)) r.1) ∙ mine))
      (cases_eq (pool_of k) (pool_of j)))
      (λ r. inl (sym (ap (mark_before (own_mark t j)) r.1) ∙ mine))
      (earlier_cases (own_mark t k) (pool_mark t (pool_of k)))

  -- or than the mark of its pool
  pub ahead_of_pool : (mark_before (pool_mark t (pool_of j)) (own_mark t k) ≡ false) ⊎ (mark_before (pool_mark t (pool_of j)) (pool_mark t (pool_of k)) ≡ false)
  ahead_of_pool =
      let π = pool_mark t (pool_of j) in
      let its = over π (earlier_second (own_mark t j) π) in
      ⊎_elim
      (λ r. inr (sym (ap (mark_before π) r.1) ∙ its))
      (λ r. inl (sym (ap (mark_before π) r.1) ∙ its))
      (earlier_cases (own_mark t k) (pool_mark t (pool_of k)))

-- ---- who is due

-- a free session whose own mark, or whose pool's, has come is due by its effective mark
pub due_by_own : (m : Moment) (j : ℕ) → j < 64 → free_to_go m j ≡ true → is_due m.tables (own_mark m.tables j) ≡ true → Due (view_of m) j
due_by_own m j l f e =
    let t = m.tables in
    let own = own_mark t j in
    record {
      free = record { inside = l; goes = f };
      come = come_sooner t.latest own (effective_mark t j) e (earlier_first own (pool_mark t (session t j).pool));
    }

pub due_by_pool : (m : Moment) (j : ℕ) → j < 64 → free_to_go m j ≡ true → is_due m.tables (pool_mark m.tables (session m.tables j).pool) ≡ true → Due (view_of m) j
due_by_pool m j l f e =
    let t = m.tables in
    let π = pool_mark t (session t j).pool in
    record {
      free = record { inside = l; goes = f };
      come = come_sooner t.latest π (effective_mark t j) e (earlier_second (own_mark t j) π);
    }
