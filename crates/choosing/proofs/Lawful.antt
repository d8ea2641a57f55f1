-- The laws of choices and wake-ups.
use Rattle.std.proofs.Common.{◌≡◌, ℕ, Bool, true, false, cond, ◌&&◌, is_some, Some, None, MatchBool, Option, sym, refl, ap, arith, rules}
use Rattle.choosing.proofs.Agreeing.{same_chosen}
use Rattle.choosing.proofs.Filling.{same_map}
use Rattle.choosing.specs.Chosen.{chosen}
use Rattle.choosing.specs.Due.{own_mark, effective_mark}
use Rattle.choosing.specs.Free.{usable_head, lets_go, pool_lets_go, is_free_to_go}
use Rattle.choosing.specs.Laws.{Apart, SameHeads, ChoiceLaws}
use Rattle.choosing.specs.Right.{Moment, Free, comes, ByMark, ByLevel, NotAbove, RightChoice}
use Rattle.choosing.specs.Spare.{pool_level, session_level}
use Rattle.choosing.specs.Wake.{earlier_of, after, release_instant, wake_key, earliest, wake_at}
use Rattle.choosing.specs.declared.choose.Choice.{Choice}
use Rattle.heads.specs.Heads.{HeadRun}
use Rattle.order.specs.Keys.{mark_before}
use Rattle.order.specs.Least.{TiesShareName}
use Rattle.order.specs.declared.keys.DueMark.{DueMark}
use Rattle.order.specs.declared.keys.Level.{Level}
use Rattle.service.specs.Rows.{session}
use Rattle.service.specs.declared.rows.Tables.{Tables}
use Rattle.std.proofs.lemmas.Bool.{both_ways}
use Rattle.usage.specs.declared.ServiceRecord.{ServiceRecord}

choice_by_places : (level : ServiceRecord → ℕ) (t : Tables) (f g : ℕ → Option HeadRun) (micros : ℕ) → SameHeads f g → chosen level t f micros ≡ chosen level t g micros
choice_by_places level t f g micros e =
    same_chosen level t (is_free_to_go t f micros) (is_free_to_go t g micros)
    (λ k l. ap (λ h. is_some (usable_head (session t k) h) && (lets_go micros (session t k).account && pool_lets_go t micros (session t k).pool)) (e k l)) micros

wake_by_places : (t : Tables) (f g : ℕ → Option HeadRun) (micros : ℕ) → SameHeads f g → wake_at t f micros ≡ wake_at t g micros
wake_by_places t f g micros e =
    ap earliest (same_map None 64 (wake_key t f micros) (wake_key t g micros)
    (λ k l. ap (λ h. cond (is_some (usable_head (session t k) h)) (earlier_of (after micros (release_instant t micros k)) (after micros (effective_mark t k).at)) None) (e k l)))

ties_mark : TiesShareName mark_before (λ (x : DueMark). x.number)
ties_mark = search rules

-- two levels that are not above one another have one name
one_name : (x y : Level) → NotAbove x y → NotAbove y x → x.name ≡ y.name
one_name x y p q =
    let e : x.level ≡ y.level = omega (arith, p.0, q.0) in
    omega (arith, p.1 e, q.1 (sym e))

module _ (level : ServiceRecord → ℕ) (m : Moment) (apart : Apart m) where
  abbrev t : Tables
  t = m.tables

  abbrev Goes : Bool → ℕ → Type 0
  Goes b k = MatchBool b (ByMark m k) (ByLevel level m k)

  by_mark : (j k : ℕ) → ByMark m j → ByMark m k → j ≡ k
  by_mark j k a b =
      let one = b.earliest j a.due in
      let other = a.earliest k b.due in
      apart.marks j k a.due.free b.due.free (ties_mark (own_mark t j) (own_mark t k) (b.own j a.due other) (a.own k b.due one))

  by_level : (j k : ℕ) → ByLevel level m j → ByLevel level m k → j ≡ k
  by_level j k a b =
      let pools : (session t j).pool ≡ (session t k).pool = one_name (pool_level level t m.micros (session t j).pool) (pool_level level t m.micros (session t k).pool) (a.lowest_pool k b.free) (b.lowest_pool j a.free) in
      apart.names j k a.free b.free (one_name (session_level level t m.micros j) (session_level level t m.micros k) (a.lowest_session k b.free (sym pools)) (b.lowest_session j a.free pools))

  -- no session goes by level while one goes by its mark
  not_both : (j k : ℕ) → ByMark m j → ByLevel level m k → ⊥
  not_both j k a b = both_ways (comes m j) (b.none_come j a.due.free) a.due.come

  one_place : (b e : Bool) (j k : ℕ) → Goes b j → Goes e k → (j ≡ k) × (b ≡ e)
  one_place true true j k p q = (by_mark j k p q, refl)
  one_place false false j k p q = (by_level j k p q, refl)
  one_place true false j k p q = absurd (not_both j k p q)
  one_place false true j k p q = absurd (not_both k j q p)

  is_free : (b : Bool) (k : ℕ) → Goes b k → Free m k
  is_free true k p = p.due.free
  is_free false k p = p.free

  only : (r s : Option Choice) → RightChoice level m r → RightChoice level m s → r ≡ s
  only None None p q = refl
  only None (Some d) p q = absurd (p d.place (is_free d.due d.place q))
  only (Some c) None p q = absurd (q c.place (is_free c.due c.place p))
  only (Some c) (Some d) p q = let e = one_place c.due d.due c.place d.place p q in λ i. Some (record { place = e.0 i; due = e.1 i })

pub choice_laws : ChoiceLaws
choice_laws = record { choice_by_places = choice_by_places; wake_by_places = wake_by_places; only = only }
