-- Until the wake-up nothing changes by itself.
use Rattle.std.proofs.Common.{◌≡◌, ℕ, ◌+◌, ◌-◌, ◌<◌, ◌≤◌, max, true, false, cond, ◌&&◌, ltb, leb, Some, None, Option, sym, refl, subst, inl, inr, ⊎_elim, arith}
use Rattle.account.specs.Accounts.{is_sound, free_at, released_from}
use Rattle.account.specs.declared.row.Account.{Account}
use Rattle.bucket.proofs.Pairs.{settled_twice}
use Rattle.bucket.proofs.Waiting.{wait_from}
use Rattle.bucket.specs.Buckets.{is_pair, may_send, run_cost, settled_limit, settled_units}
use Rattle.bucket.specs.Due.{release_at}
use Rattle.choosing.proofs.Waking.{wakes_right}
use Rattle.choosing.specs.Due.{effective_mark, has_come}
use Rattle.choosing.specs.Free.{has_head, lets_go, pool_lets_go, is_free_to_go}
use Rattle.choosing.specs.Quiet.{Before, Settled, SameAt, QuietUntil}
use Rattle.choosing.specs.Right.{Moment}
use Rattle.choosing.specs.Wake.{later_of, release_instant, wake_at}
use Rattle.choosing.specs.Woken.{Awaits, RightWake}
use Rattle.service.specs.Rows.{session, pool}
use Rattle.service.specs.declared.rows.Tables.{Tables}
use Rattle.std.proofs.lemmas.Bool.{both_ways, and_parts, and_from, cases_lt, leb-true, le-leb}
use Rattle.std.proofs.Math.Nat.{le-max_left, le-max_right, max-le}
use Rattle.std.specs.Cmp.{both_ways as same_bool}
use Rattle.values.specs.Rates.{limit_allowed, rates_allowed}

-- ---- one account

-- some microseconds on, a limit bucket lets a run go exactly from its release on
limit_goes : (reserve : ℕ) (limit : Option ℕ) (burst units : ℕ) (held : Option ℕ) (first second micros : ℕ) → rates_allowed reserve limit burst ≡ true → is_pair burst limit units held ≡ true → (may_send (settled_limit limit burst held (first + second)) ≡ true → release_at limit (settled_limit limit burst held first) micros ≤ micros + second) × (release_at limit (settled_limit limit burst held first) micros ≤ micros + second → may_send (settled_limit limit burst held (first + second)) ≡ true)
limit_goes reserve None burst units None first second micros r p = (λ _. omega arith, λ _. refl)
limit_goes reserve None burst units (Some h) first second micros r p = absurd (both_ways false refl p)
limit_goes reserve (Some rate) burst units None first second micros r p = absurd (both_ways false refl p)
limit_goes reserve (Some rate) burst units (Some h) first second micros r p =
    let a = and_parts (leb reserve 100000) (limit_allowed reserve (Some rate) && (leb 1 burst && leb burst 64)) r in
    let b = and_parts (limit_allowed reserve (Some rate)) (leb 1 burst && leb burst 64) a.1 in
    let d = leb-true 1 rate (and_parts (leb 1 rate) (leb rate 100000 && leb reserve rate) b.0).0 in
    let e = leb-true 1 burst (and_parts (leb 1 burst) (leb burst 64) b.1).0 in
    let held = settled_units rate burst h first in
    let w = wait_from run_cost rate burst held micros d (omega arith) in
    let twice : settled_units rate burst held second ≡ settled_units rate burst h (first + second) = settled_twice rate burst h first second in (
      (λ g. (w.1 second).0 (subst (λ x. run_cost ≤ x) (sym twice) (leb-true run_cost (settled_units rate burst h (first + second)) g))),
      (λ l. le-leb run_cost (settled_units rate burst h (first + second)) (subst (λ x. run_cost ≤ x) twice ((w.1 second).1 l))),
    )

module _ (a : Account) (sound : is_sound a ≡ true) (micros u : ℕ) (before : a.settled_at ≤ micros) (on : micros ≤ u) where
  abbrev first : ℕ
  first = micros - a.settled_at

  abbrev second : ℕ
  second = u - micros

  goes : (may_send (settled_limit a.limit a.burst a.limit_units (first + second)) ≡ true → released_from micros a ≤ micros + second) × (released_from micros a ≤ micros + second → may_send (settled_limit a.limit a.burst a.limit_units (first + second)) ≡ true)
  goes =
      let s = and_parts (rates_allowed a.reserve a.limit a.burst) (is_pair a.burst a.limit a.reserve_units a.limit_units) sound in
      limit_goes a.reserve a.limit a.burst a.reserve_units a.limit_units first second micros s.0 s.1

  whole : first + second ≡ u - a.settled_at
  whole = omega arith

  then : micros + second ≡ u
  then = omega arith

  released : free_at u a ≡ true → released_from micros a ≤ u
  released f = subst (λ x. released_from micros a ≤ x) then (goes.0 (subst (λ x. may_send (settled_limit a.limit a.burst a.limit_units x) ≡ true) (sym whole) f))

  frees : released_from micros a ≤ u → free_at u a ≡ true
  frees l = subst (λ x. may_send (settled_limit a.limit a.burst a.limit_units x) ≡ true) whole (goes.1 (subst (λ x. released_from micros a ≤ x) (sym then) l))

-- ---- one place

module _ (m : Moment) (settled : Settled m) (u : ℕ) (on : m.micros ≤ u) (quiet : Before u (wake_at m.tables m.heads m.micros)) where
  abbrev t : Tables
  t = m.tables

  abbrev own : ℕ → Account
  own k = (session t k).account

  abbrev pool_of : ℕ → ℕ
  pool_of k = (session t k).pool

  abbrev all : ℕ → Account
  all k = (pool t (pool_of k)).account

  -- what a session awaits is past every instant before the wake-up
  still : (o : Option ℕ) → RightWake m o → Before u o → (k at : ℕ) → Awaits m k at → u < at
  still None h b k at a = absurd (h k at a)
  still (Some w) h b k at a = let l = h.first k at a in omega (arith, b, l)

  waits : (k at : ℕ) → Awaits m k at → u < at
  waits = still (wake_at t m.heads m.micros) (wakes_right m (wake_at t m.heads m.micros) refl) quiet

  -- what is asked of a session that is free at an instant
  record Parts (k v : ℕ) : Type 0 where
    head : has_head t m.heads k ≡ true
    own_sound : is_sound (own k) ≡ true
    inside : ltb (pool_of k) 16 ≡ true
    all_sound : is_sound (all k) ≡ true
    own_free : released_from m.micros (own k) ≤ v
    all_free : released_from m.micros (all k) ≤ v

  parts : (k v : ℕ) → m.micros ≤ v → is_free_to_go t m.heads v k ≡ true → Parts k v
  parts k v l f =
      let a = and_parts (has_head t m.heads k) (lets_go v (own k) && pool_lets_go t v (pool_of k)) f in
      let b = and_parts (lets_go v (own k)) (pool_lets_go t v (pool_of k)) a.1 in
      let c = and_parts (is_sound (own k)) (free_at v (own k)) b.0 in
      let d = and_parts (ltb (pool_of k) 16) (lets_go v (all k)) b.1 in
      let e = and_parts (is_sound (all k)) (free_at v (all k)) d.1 in
      record {
        head = a.0;
        own_sound = c.0;
        inside = d.0;
        all_sound = e.0;
        own_free = released (own k) c.0 m.micros v (settled.own k) l c.1;
        all_free = released (all k) e.0 m.micros v (settled.pools (pool_of k)) l e.1;
      }

  together : (k v : ℕ) → m.micros ≤ v → Parts k v → is_free_to_go t m.heads v k ≡ true
  together k v l p =
      and_from (has_head t m.heads k) (lets_go v (own k) && pool_lets_go t v (pool_of k)) p.head
      (and_from (lets_go v (own k)) (pool_lets_go t v (pool_of k))
      (and_from (is_sound (own k)) (free_at v (own k)) p.own_sound (frees (own k) p.own_sound m.micros v (settled.own k) l p.own_free))
      (and_from (ltb (pool_of k) 16) (lets_go v (all k)) p.inside
      (and_from (is_sound (all k)) (free_at v (all k)) p.all_sound (frees (all k) p.all_sound m.micros v (settled.pools (pool_of k)) l p.all_free))))

  -- the release of a session whose two accounts are sound
  release_is : (k v : ℕ) → Parts k v → release_instant t m.micros k ≡ Some (max (released_from m.micros (own k)) (released_from m.micros (all k)))
  release_is k v p = λ i. later_of (cond (p.own_sound i) (Some (released_from m.micros (own k))) None) (cond (p.inside i) (cond (p.all_sound i) (Some (released_from m.micros (all k))) None) None)

  -- one that is free before the wake-up is free at present
  earlier : (k : ℕ) → k < 64 → Parts k u → Parts k m.micros
  earlier k l p =
      let x = released_from m.micros (own k) in
      let y = released_from m.micros (all k) in
      ⊎_elim
      (λ (past : m.micros < max x y).
      let w = waits k (max x y) (record { inside = l; head = p.head; later = past; either = inl (release_is k u p) }) in
      let z = max-le p.own_free p.all_free in
      absurd (omega (arith, w, z)))
      (λ (come : max x y ≤ m.micros). record { head = p.head; own_sound = p.own_sound; inside = p.inside; all_sound = p.all_sound; own_free = omega (arith, le-max_left x y, come); all_free = omega (arith, le-max_right x y, come) })
      (cases_lt m.micros (max x y))

  later : (k : ℕ) → Parts k m.micros → Parts k u
  later k p = record { head = p.head; own_sound = p.own_sound; inside = p.inside; all_sound = p.all_sound; own_free = (let x = p.own_free in omega arith); all_free = (let x = p.all_free in omega arith) }

  same_free : (k : ℕ) → k < 64 → is_free_to_go t m.heads u k ≡ is_free_to_go t m.heads m.micros k
  same_free k l =
      same_bool (is_free_to_go t m.heads u k) (is_free_to_go t m.heads m.micros k)
      (λ f. together k m.micros (omega arith) (earlier k l (parts k u on f)))
      (λ f. together k u on (later k (parts k m.micros (omega arith) f)))

  same_come : (k : ℕ) → k < 64 → has_head t m.heads k ≡ true → (o : Option ℕ) → (effective_mark t k).at ≡ o → has_come u o ≡ has_come m.micros o
  same_come k l h None e = refl
  same_come k l h (Some at) e =
      same_bool (leb at u) (leb at m.micros)
      (λ f. let g = leb-true at u f in ⊎_elim
      (λ (past : m.micros < at). let w = waits k at (record { inside = l; head = h; later = past; either = inr e }) in absurd (omega (arith, w, g)))
      (λ (come : at ≤ m.micros). le-leb at m.micros come)
      (cases_lt m.micros at))
      (λ f. let g = leb-true at m.micros f in le-leb at u (omega arith))

  same_at : (k : ℕ) → k < 64 → SameAt m u k
  same_at k l = record { free = same_free k l; come = λ h. same_come k l h (effective_mark t k).at refl }

pub quiet_until : QuietUntil
quiet_until = same_at
