-- The choice of the definition is right.
use Rattle.std.proofs.Common.{◌≡◌, ℕ, zero, suc, ◌<◌, Bool, true, false, ◌&&◌, eqb, ltb, Some, None, MatchBool, Option, sym, refl, ap, ◌∙◌, subst, ⊎_elim, arith}
use Rattle.account.specs.Accounts.{is_sound, free_at}
use Rattle.choosing.proofs.Orders.{ranks_marks, ranks_level, then_parts, not_above}
use Rattle.choosing.proofs.Passing.{never, passed, given}
use Rattle.choosing.proofs.Placing.{Goes, Placed, least_placed}
use Rattle.choosing.specs.Chosen.{in_pool, level_choice, mark_or_level, chosen}
use Rattle.choosing.specs.Due.{own_mark, effective_mark, due_key, due_choice}
use Rattle.choosing.specs.Free.{lets_go, pool_lets_go, has_head, is_free_to_go}
use Rattle.choosing.specs.Picks.{some_of}
use Rattle.choosing.specs.Right.{Moment, Free, comes, Due, ByMark, ByLevel, RightChoice, InTable, CanSend, Sendable}
use Rattle.choosing.specs.declared.choose.Choice.{Choice}
use Rattle.choosing.specs.Spare.{is_free_in, pool_has_free, pool_level, session_level, pool_key, session_key, pool_choice, session_choice}
use Rattle.order.specs.Keys.{mark_before, level_before}
use Rattle.order.specs.Order.{then_by}
use Rattle.order.specs.declared.keys.DueMark.{DueMark}
use Rattle.service.specs.Rows.{session, pool}
use Rattle.service.specs.declared.rows.Tables.{Tables}
use Rattle.std.proofs.lemmas.Bool.{cases_Bool, cases_eq, both_ways, and_parts, and_from, or_cases, or_left, or_right, eq-eqb, eqb-true, ltb-true}
use Rattle.usage.specs.declared.ServiceRecord.{ServiceRecord}

-- one of the first n places passes
some_at : (n : ℕ) (test : ℕ → Bool) → some_of n test ≡ true → (k : ℕ) × (k < n) × (test k ≡ true)
unfolding some_of
some_at zero test e = absurd (both_ways false refl e)
some_at (suc n) test e = ⊎_elim (λ h. let r = some_at n test h in (r.0, omega (arith, r.1), r.2)) (λ h. (n, omega arith, h)) (or_cases (some_of n test) (test n) e)

at_some : (n : ℕ) (test : ℕ → Bool) (k : ℕ) → k < n → test k ≡ true → some_of n test ≡ true
unfolding some_of
at_some zero test k l e = absurd (omega arith)
at_some (suc n) test k l e =
    ⊎_elim (λ (z : k ≡ n). or_right (some_of n test) (test n) (subst (λ j. test j ≡ true) z e))
    (λ ne. or_left (some_of n test) (test n) (at_some n test k (omega arith) e)) (cases_eq k n)

module _ (level : ServiceRecord → ℕ) (m : Moment) where
  abbrev t : Tables
  t = m.tables

  abbrev free : ℕ → Bool
  free = is_free_to_go t m.heads m.micros

  abbrev pool_of : ℕ → ℕ
  pool_of k = (session t k).pool

  -- a free session has one of the pools
  pool_in_lem : (k : ℕ) → Free m k → pool_of k < 16
  pool_in_lem k h =
      let a = and_parts (has_head t m.heads k) (lets_go m.micros (session t k).account && pool_lets_go t m.micros (pool_of k)) h.goes in
      let b = and_parts (lets_go m.micros (session t k).account) (pool_lets_go t m.micros (pool_of k)) a.1 in
      ltb-true (pool_of k) 16 (and_parts (ltb (pool_of k) 16) (lets_go m.micros (pool t (pool_of k)).account) b.1).0

  -- the keys of the choice by mark
  abbrev marks : ℕ → DueMark × DueMark
  marks k = (effective_mark t k, own_mark t k)

  mark_key : (k : ℕ) → Due m k → due_key t free m.micros k ≡ Some (marks k)
  mark_key k d = given (free k && comes m k) (marks k) (and_from (free k) (comes m k) d.free.goes d.come)

  right_mark : (k : ℕ) → Goes (then_by mark_before mark_before) 64 (due_key t free m.micros) k → ByMark m k
  right_mark k g =
      let r = passed (free k && comes m k) (marks k) g.best g.has in
      let q = and_parts (free k) (comes m k) r.0 in
      let least : (j : ℕ) → Due m j → then_by mark_before mark_before (marks j) (marks k) ≡ false =
      λ j d. subst (λ x. then_by mark_before mark_before (marks j) x ≡ false) (sym r.1) (g.first j (marks j) d.free.inside (mark_key j d)) in
      record {
        due = record { free = record { inside = g.inside; goes = q.0 }; come = q.1 };
        earliest = λ j d. (then_parts mark_before mark_before (marks j) (marks k) (least j d)).0;
        own = λ j d. (then_parts mark_before mark_before (marks j) (marks k) (least j d)).1;
      }

  -- the keys of the choice by level
  pool_key_lem : (k : ℕ) → Free m k → pool_key level t free m.micros (pool_of k) ≡ Some (pool_level level t m.micros (pool_of k))
  pool_key_lem k h =
      given (pool_has_free t free (pool_of k)) (pool_level level t m.micros (pool_of k))
      (at_some 64 (is_free_in t free (pool_of k)) k h.inside (and_from (free k) (eqb (pool_of k) (pool_of k)) h.goes (eq-eqb (pool_of k) (pool_of k) refl)))

  session_key_lem : (p k : ℕ) → Free m k → pool_of k ≡ p → session_key level t free m.micros p k ≡ Some (session_level level t m.micros k)
  session_key_lem p k h e = given (is_free_in t free p k) (session_level level t m.micros k) (and_from (free k) (eqb (pool_of k) p) h.goes (eq-eqb (pool_of k) p e))

  module _ (none : (k : ℕ) → k < 64 → due_key t free m.micros k ≡ None) where
    none_come : (j : ℕ) → Free m j → comes m j ≡ false
    none_come j h = ⊎_elim (λ c. never (marks j) (sym (none j h.inside) ∙ mark_key j (record { free = h; come = c }))) (λ c. c) (cases_Bool (comes m j))

    -- no pool has a free session
    idle : ((p : ℕ) → p < 16 → pool_key level t free m.micros p ≡ None) → (k : ℕ) → Free m k → ⊥
    idle h k f = never (pool_level level t m.micros (pool_of k)) (sym (h (pool_of k) (pool_in_lem k f)) ∙ pool_key_lem k f)

    module _ (p : ℕ) (g : Goes level_before 16 (pool_key level t free m.micros) p) where
      of_pool : (pool_has_free t free p ≡ true) × (pool_level level t m.micros p ≡ g.best)
      of_pool = passed (pool_has_free t free p) (pool_level level t m.micros p) g.best g.has

      -- the pool has a free session, so one is found
      found : ((k : ℕ) → k < 64 → session_key level t free m.micros p k ≡ None) → ⊥
      found no_one =
          let r = some_at 64 (is_free_in t free p) of_pool.0 in
          never (session_level level t m.micros r.0) (sym (no_one r.0 r.1) ∙ given (is_free_in t free p r.0) (session_level level t m.micros r.0) r.2)

      right_level : (k : ℕ) → Goes level_before 64 (session_key level t free m.micros p) k → ByLevel level m k
      right_level k h =
          let r = passed (is_free_in t free p k) (session_level level t m.micros k) h.best h.has in
          let q = and_parts (free k) (eqb (pool_of k) p) r.0 in
          let mine : pool_of k ≡ p = eqb-true (pool_of k) p q.1 in
          let best : pool_level level t m.micros (pool_of k) ≡ g.best = ap (pool_level level t m.micros) mine ∙ of_pool.1 in
          record {
            free = record { inside = h.inside; goes = q.0 };
            none_come = none_come;
            lowest_pool = λ j f. not_above (pool_level level t m.micros (pool_of k)) (pool_level level t m.micros (pool_of j)) (subst (λ x. level_before (pool_level level t m.micros (pool_of j)) x ≡ false) (sym best) (g.first (pool_of j) (pool_level level t m.micros (pool_of j)) (pool_in_lem j f) (pool_key_lem j f)));
            lowest_session = λ j f e. not_above (session_level level t m.micros k) (session_level level t m.micros j) (subst (λ x. level_before (session_level level t m.micros j) x ≡ false) (sym r.1) (h.first j (session_level level t m.micros j) f.inside (session_key_lem p j f (e ∙ mine))));
          }

      in_the_pool : (o : Option ℕ) → Placed level_before 64 (session_key level t free m.micros p) o → RightChoice level m (mark_or_level None o)
      in_the_pool None h = λ k f. found h
      in_the_pool (Some k) h = right_level k h

    by_level : (o : Option ℕ) → Placed level_before 16 (pool_key level t free m.micros) o → RightChoice level m (mark_or_level None (in_pool (session_choice level t free m.micros) o))
    by_level None h = idle h
    by_level (Some p) h = in_the_pool p h (session_choice level t free m.micros p) (least_placed level_before ranks_level 64 (session_key level t free m.micros p))

  either : (o : Option ℕ) → Placed (then_by mark_before mark_before) 64 (due_key t free m.micros) o → RightChoice level m (mark_or_level o (level_choice level t free m.micros))
  either (Some k) h = right_mark k h
  either None h = by_level h (pool_choice level t free m.micros) (least_placed level_before ranks_level 16 (pool_key level t free m.micros))

  rightly : RightChoice level m (chosen level t m.heads m.micros)
  rightly = either (due_choice t free m.micros) (least_placed (then_by mark_before mark_before) ranks_marks 64 (due_key t free m.micros))

  -- what is equal to that choice is right
  pub is_right : (r : Option Choice) → r ≡ chosen level t m.heads m.micros → RightChoice level m r
  is_right r e = subst (RightChoice level m) (sym e) rightly

  is_free : (b : Bool) (k : ℕ) → MatchBool b (ByMark m k) (ByLevel level m k) → Free m k
  is_free true k h = h.due.free
  is_free false k h = h.free

  -- and its place is one of the table's
  pub in_table : (r : Option Choice) → RightChoice level m r → InTable r
  in_table None h = tt
  in_table (Some c) h = (is_free c.due c.place h).inside

  can_send : (k : ℕ) → Free m k → CanSend t m.heads k
  can_send k h =
      let a = and_parts (has_head t m.heads k) (lets_go m.micros (session t k).account && pool_lets_go t m.micros (pool_of k)) h.goes in
      let b = and_parts (lets_go m.micros (session t k).account) (pool_lets_go t m.micros (pool_of k)) a.1 in
      let d = and_parts (ltb (pool_of k) 16) (lets_go m.micros (pool t (pool_of k)).account) b.1 in
      record {
        inside = h.inside;
        head = a.0;
        of_pool = pool_in_lem k h;
        own_sound = (and_parts (is_sound (session t k).account) (free_at m.micros (session t k).account) b.0).0;
        pool_sound = (and_parts (is_sound (pool t (pool_of k)).account) (free_at m.micros (pool t (pool_of k)).account) d.1).0;
      }

  -- and a run can be sent from it
  pub sendable : (r : Option Choice) → RightChoice level m r → Sendable t m.heads r
  sendable None h = tt
  sendable (Some c) h = can_send c.place (is_free c.due c.place h)
