-- What the place that an accepted call found says.
use Rattle.std.proofs.Common.{◌≡◌, ℕ, zero, suc, ◌+◌, ◌<◌, ◌≤◌, Bool, true, false, cond, eqb, ltb, leb, List, [], ◌∷◌, length, get_or, Some, None, Ok, Err, Option, refl, subst, arith}
use Rattle.service.proofs.Finding.{found_within, found_fits}
use Rattle.service.specs.Calls.{Place, place_for, open_place, arrival_at, arrival_place, close_at, close_place}
use Rattle.service.specs.Faults.{refused}
use Rattle.service.specs.Rows.{session, pool, blank_session, fits, first_from, first_fit, is_free, is_open, is_ended, is_present, reserves_in, Wanted, OpenAs, EndedAs, PresentAs, FreePlace}
use Rattle.service.specs.declared.fault.ServiceFault.{ServiceFault}
use Rattle.service.specs.declared.fault.ServiceWhy.TheVariants.{InstantBefore, NoSuchPool, NoReserve, CountedOut, WaitingLineFull, NotHandedBack}
use Rattle.service.specs.declared.rows.Session.{Session}
use Rattle.service.specs.declared.rows.State.{State}
use Rattle.service.specs.declared.rows.State.TheVariants.{Free, Open, Ended}
use Rattle.service.specs.declared.rows.Tables.{Tables}
use Rattle.std.proofs.lemmas.Bool.{and_parts, and_from, both_ways, ltb-false}
use Rattle.values.specs.declared.io.Io.{Io}
use Rattle.values.specs.declared.rates.Rates.{Rates}
use Rattle.whereabouts.proofs.Sums.{Stands}

-- what is accepted was not refused
not_refused : (b : Bool) (fault : ServiceFault) (o : Place) (i : ℕ) → cond b (Err fault) o ≡ Ok i → (b ≡ false) × (o ≡ Ok i)
not_refused true fault o i e = absurd (let z : ◌≡◌ {A = ℕ} 0 1 = cc in omega arith)
not_refused false fault o i e = (refl, e)

same_place : (j i : ℕ) → ◌≡◌ {A = Place} (Ok j) (Ok i) → j ≡ i
same_place j i e = cc

-- where none is found, no row fits
none_from : (wanted : Wanted) (rows : List Session) (j : ℕ) → first_from wanted rows j ≡ None → (k : ℕ) → k < length rows → fits wanted (get_or rows k blank_session) ≡ false
none_from wanted [] j e k l = absurd (omega arith)
none_from wanted (r ∷ rows) j e k l = by (fits wanted r) refl e (none_from wanted rows (j + 1)) k l
  where
    by : (b : Bool) → fits wanted r ≡ b → cond b (Some j) (first_from wanted rows (j + 1)) ≡ None → (first_from wanted rows (j + 1) ≡ None → (k : ℕ) → k < length rows → fits wanted (get_or rows k blank_session) ≡ false) → (k : ℕ) → k < length (r ∷ rows) → fits wanted (get_or (r ∷ rows) k blank_session) ≡ false
    by true h q on k l = absurd (let z : ◌≡◌ {A = ℕ} 0 1 = cc in omega arith)
    by false h q on zero l = h
    by false h q on (suc k) l = on q k (omega arith)

pub none_found : (wanted : Wanted) (rows : List Session) → first_fit wanted rows ≡ None → (k : ℕ) → k < length rows → fits wanted (get_or rows k blank_session) ≡ true → ⊥
none_found wanted rows e k l h = both_ways _ (none_from wanted rows 0 e k l) h

-- a session that was found is present
open_present : (state : State) → is_open state ≡ true → is_present state ≡ true
open_present Free e = e
open_present Open e = refl
open_present Ended e = refl

ended_present : (state : State) → is_ended state ≡ true → is_present state ≡ true
ended_present Free e = e
ended_present Open e = absurd (both_ways false refl e)
ended_present Ended e = refl

free_absent : (state : State) → is_free state ≡ true → is_present state ≡ false
free_absent Free e = refl
free_absent Open e = absurd (both_ways false refl e)
free_absent Ended e = absurd (both_ways false refl e)

module _ (name : ℕ) (rows : List Session) (i : ℕ) where
  pub open_stands : first_fit (OpenAs name) rows ≡ Some i → Stands rows i name
  open_stands e =
      let r = get_or rows i blank_session in
      let p = and_parts (is_open r.state) (eqb r.name name) (found_fits (OpenAs name) rows i e) in
      record { within = found_within (OpenAs name) rows i e; is = and_from (is_present r.state) (eqb r.name name) (open_present r.state p.0) p.1 }

  pub ended_stands : first_fit (EndedAs name) rows ≡ Some i → Stands rows i name
  ended_stands e =
      let r = get_or rows i blank_session in
      let p = and_parts (is_ended r.state) (eqb r.name name) (found_fits (EndedAs name) rows i e) in
      record { within = found_within (EndedAs name) rows i e; is = and_from (is_present r.state) (eqb r.name name) (ended_present r.state p.0) p.1 }

  pub present_stands : first_fit (PresentAs name) rows ≡ Some i → Stands rows i name
  present_stands e = record { within = found_within (PresentAs name) rows i e; is = found_fits (PresentAs name) rows i e }

-- ---- an opening found a free place

pub record OpenedAt (t : Tables) (i : ℕ) : Type 0 where
  pub within : i < length t.sessions
  pub free : is_present (session t i).state ≡ false

pub opened_at : (micros number : ℕ) (rates : Rates) (t : Tables) (i : ℕ) → open_place micros number rates t ≡ Ok i → OpenedAt t i
opened_at micros number rates t i e =
    let a = not_refused (ltb micros t.latest) (refused InstantBefore) _ i e in
    let b = not_refused (leb t.made number) (refused NoSuchPool) _ i a.1 in
    by (first_fit FreePlace t.sessions) refl b.1
  where
    by : (o : Option ℕ) → first_fit FreePlace t.sessions ≡ o → place_for number rates t o ≡ Ok i → OpenedAt t i
    by None h q = absurd (let z : ◌≡◌ {A = ℕ} 0 1 = cc in omega arith)
    by (Some j) h q =
        let c = not_refused (ltb (pool t number).account.reserve (reserves_in number t.sessions + rates.reserve)) (refused NoReserve) _ i q in
        let d = not_refused (leb 4000000000 t.opened) (refused CountedOut) (Ok j) i c.1 in
        let same : j ≡ i = same_place j i d.1 in
        subst (OpenedAt t) same (record { within = found_within FreePlace t.sessions j h; free = free_absent (session t j).state (found_fits FreePlace t.sessions j h) })

-- ---- an arrival found its session, and room in the line

pub record ArrivedAt (full : Bool) (io : Io) (t : Tables) (i : ℕ) : Type 0 where
  pub room : full ≡ false
  pub stands : Stands t.sessions i io.session

pub arrived_at : (full : Bool) (io : Io) (t : Tables) (i : ℕ) → arrival_place full io t ≡ Ok i → ArrivedAt full io t i
arrived_at full io t i e = by (first_fit (OpenAs io.session) t.sessions) refl e
  where
    by : (o : Option ℕ) → first_fit (OpenAs io.session) t.sessions ≡ o → arrival_at full t o ≡ Ok i → ArrivedAt full io t i
    by None h q = absurd (let z : ◌≡◌ {A = ℕ} 0 1 = cc in omega arith)
    by (Some j) h q =
        let a = not_refused full (refused WaitingLineFull) _ i q in
        let b = not_refused (leb 4000000000 t.arrivals) (refused CountedOut) (Ok j) i a.1 in
        let same : j ≡ i = same_place j i b.1 in
        subst (ArrivedAt full io t) same (record { room = a.0; stands = open_stands io.session t.sessions j h })

-- ---- a closing found its session with nothing unsent and nothing inside

pub record ClosedAt (name : ℕ) (t : Tables) (i : ℕ) : Type 0 where
  pub stands : Stands t.sessions i name
  pub all_back : (session t i).unsent + (session t i).inside ≤ 0

pub closed_at : (name : ℕ) (t : Tables) (i : ℕ) → close_place name t ≡ Ok i → ClosedAt name t i
closed_at name t i e = by (first_fit (EndedAs name) t.sessions) refl e
  where
    by : (o : Option ℕ) → first_fit (EndedAs name) t.sessions ≡ o → close_at t o ≡ Ok i → ClosedAt name t i
    by None h q = absurd (let z : ◌≡◌ {A = ℕ} 0 1 = cc in omega arith)
    by (Some j) h q =
        let a = not_refused (ltb 0 ((session t j).unsent + (session t j).inside)) (refused NotHandedBack) (Ok j) i q in
        let same : j ≡ i = same_place j i a.1 in
        subst (ClosedAt name t) same (record { stands = ended_stands name t.sessions j h; all_back = ltb-false 0 ((session t j).unsent + (session t j).inside) a.0 })
