-- Every step keeps the ledgers, and so every course stays within the limits.
use Rattle.std.proofs.Common.{◌≡◌, ℕ, ◌+◌, ◌<◌, Bool, true, false, cond, ◌&&◌, eqb, ltb, leb, List, [], ◌∷◌, map, length, set, Some, None, Ok, Err, filter, Option, sym, refl, ap, ◌∙◌, subst, arith}
use Rattle.account.specs.Accounts.{is_sound, free_at}
use Rattle.choosing.specs.Free.{lets_go, pool_lets_go, has_head}
use Rattle.history.specs.Histories.{Starts}
use Rattle.history.specs.Logs.{sends_in, sent_for, sent_in, instant_of, openings_in, pools_in}
use Rattle.history.specs.Steps.{Event, Accepting, Making, Opening, Arriving, Sending, Working, Collecting, Ending, Closing, SendStep, Step, Course, begins, goes_on}
use Rattle.scheduling.proofs.Choosing.{free_choice, usable_is}
use Rattle.scheduling.specs.Scheduling.{Sent}
use Rattle.scheduling.specs.Sending.{head_at}
use Rattle.service.proofs.Finding.{found_within, found_fits}
use Rattle.service.specs.Calls.{Place, pool_place, pool_made, session_opened, open_place, place_for, arrival_place, arrival_at, accepted_row, ended, ended_row, close_place, close_at, closed, arrived, hand_back_at, hand_back, handed_row, with_sessions}
use Rattle.service.specs.Faults.{refused}
use Rattle.service.specs.Moments.{Moment, full_at}
use Rattle.service.specs.Rows.{session, pool, free_place, is_present, is_open, first_fit, reserves_made, reserves_in, OpenAs, EndedAs, PresentAs, FreePlace}
use Rattle.service.specs.declared.fault.ServiceFault.{ServiceFault}
use Rattle.service.specs.declared.fault.ServiceWhy.TheVariants.{InstantBefore, NoSuchPool, NoPlace, NoReserve, CountedOut, WaitingLineFull, NotHandedBack}
use Rattle.service.specs.declared.rows.HandedBack.{HandedBack}
use Rattle.service.specs.declared.rows.State.{State}
use Rattle.service.specs.declared.rows.State.TheVariants.{Free, Open, Ended}
use Rattle.service.specs.declared.rows.Tables.{Tables}
use Rattle.std.proofs.lemmas.Bool.{and_parts, both_ways, cond-true, cond-false, cond_both, eq-eqb, ne_eqb, leb-false, ltb-true}
use Rattle.usage.specs.declared.ServiceRecord.{ServiceRecord}
use Rattle.values.specs.declared.io.Io.{Io}
use Rattle.values.specs.declared.io.Run.{Run}
use Rattle.values.specs.declared.rates.Rates.{Rates}
use Rattle.windows.proofs.Kept.{Kept, start_keeps, accept_keeps, row_keeps, make_keeps, open_keeps, send_keeps}
use Rattle.windows.proofs.Ledger.{limits}
use Rattle.windows.specs.Law.{instants_for, WithinLimits}

-- ---- places that calls find

-- what was not refused
granted : (b : Bool) (fault : ServiceFault) (r : Place) (i : ℕ) → cond b (Err fault) r ≡ Ok i → (b ≡ false) × (r ≡ Ok i)
granted false fault r i e = (refl, e)
granted true fault r i e = absurd (let z : ◌≡◌ {A = ℕ} 0 1 = cc in omega arith)

same_place : (i j : ℕ) → ◌≡◌ {A = Place} (Ok i) (Ok j) → i ≡ j
same_place i j e = cc

refused_place : {Y : Type 0} (fault : ServiceFault) (i : ℕ) → ◌≡◌ {A = Place} (Err fault) (Ok i) → Y
refused_place fault i e = absurd (let z : ◌≡◌ {A = ℕ} 0 1 = cc in omega arith)

module _ (t : Tables) where
  -- a pool gets the next number, one of 16
  pool_placed : (micros : ℕ) (rates : Rates) (number : ℕ) → pool_place micros rates t ≡ Ok number → (t.made ≡ number) × (t.made < 16)
  pool_placed micros rates number e =
      let last : Place = Ok t.made in
      let third : Place = cond (ltb t.throughput (reserves_made t + rates.reserve)) (Err (refused NoReserve)) last in
      let second : Place = cond (leb 16 t.made) (Err (refused NoPlace)) third in
      let a = granted (ltb micros t.latest) (refused InstantBefore) second number e in
      let b = granted (leb 16 t.made) (refused NoPlace) third number a.1 in
      let c = granted (ltb t.throughput (reserves_made t + rates.reserve)) (refused NoReserve) last number b.1 in
      (same_place t.made number c.1, leb-false 16 t.made b.0)

  -- a session gets a place of the table
  placed_for : (number : ℕ) (rates : Rates) (i : ℕ) (o : Option ℕ) → place_for number rates t o ≡ Ok i → o ≡ Some i
  placed_for number rates i None e = refused_place (refused NoPlace) i e
  placed_for number rates i (Some j) e =
      let last : Place = Ok j in
      let second : Place = cond (leb 4000000000 t.opened) (Err (refused CountedOut)) last in
      let a = granted (ltb (pool t number).account.reserve (reserves_in number t.sessions + rates.reserve)) (refused NoReserve) second i e in
      let b = granted (leb 4000000000 t.opened) (refused CountedOut) last i a.1 in
      ap Some (same_place j i b.1)

  -- in a pool that was made
  open_placed : (micros number : ℕ) (rates : Rates) (i : ℕ) → open_place micros number rates t ≡ Ok i → (number < t.made) × (i < length t.sessions)
  open_placed micros number rates i e =
      let last = place_for number rates t (first_fit FreePlace t.sessions) in
      let second : Place = cond (leb t.made number) (Err (refused NoSuchPool)) last in
      let a = granted (ltb micros t.latest) (refused InstantBefore) second i e in
      let b = granted (leb t.made number) (refused NoSuchPool) last i a.1 in
      (leb-false t.made number b.0, found_within FreePlace t.sessions i (placed_for number rates i (first_fit FreePlace t.sessions) b.1))

  arrival_placed : (full : Bool) (i : ℕ) (o : Option ℕ) → arrival_at full t o ≡ Ok i → o ≡ Some i
  arrival_placed full i None e = refused_place _ i e
  arrival_placed full i (Some j) e =
      let last : Place = Ok j in
      let second : Place = cond (leb 4000000000 t.arrivals) (Err (refused CountedOut)) last in
      let a = granted full (refused WaitingLineFull) second i e in
      let b = granted (leb 4000000000 t.arrivals) (refused CountedOut) last i a.1 in
      ap Some (same_place j i b.1)

  close_placed : (i : ℕ) (o : Option ℕ) → close_at t o ≡ Ok i → o ≡ Some i
  close_placed i None e = refused_place _ i e
  close_placed i (Some j) e = ap Some (same_place j i (granted (ltb 0 ((session t j).unsent + (session t j).inside)) (refused NotHandedBack) (Ok j) i e).1)

-- ---- the sends of a log with one more

module _ (account : Sent → ℕ) (sent : Sent) (sends : List Sent) (x now : ℕ) (for : account sent ≡ x) (at : instant_of sent ≡ now) where
  send_here : (y : ℕ) → x ≡ y → instants_for account (sent ∷ sends) y ≡ now ∷ instants_for account sends x
  send_here y e =
      ap (map instant_of) (cond-true (eqb (account sent) y) (sent ∷ filter (λ s. eqb (account s) y) sends) (filter (λ s. eqb (account s) y) sends) (eq-eqb (account sent) y (for ∙ e)))
      ∙ (ap (λ n. n ∷ instants_for account sends y) at ∙ ap (λ z. now ∷ instants_for account sends z) (sym e))

  send_other : (y : ℕ) → (x ≡ y → ⊥) → instants_for account (sent ∷ sends) y ≡ instants_for account sends y
  send_other y ne = ap (map instant_of) (cond-false (eqb (account sent) y) (sent ∷ filter (λ s. eqb (account s) y) sends) (filter (λ s. eqb (account s) y) sends) (ne_eqb (account sent) y (λ e. ne (sym for ∙ e))))

-- ---- each step

-- what is kept of the tables, after a log
abbrev KeptAt : List Event → Tables → Type 0
KeptAt log t = Kept (instants_for sent_for (sends_in log)) (instants_for sent_in (sends_in log)) (openings_in log) (pools_in log) t

open_present : (state : State) → is_open state ≡ true → is_present state ≡ true
open_present Free e = e
open_present Open e = refl
open_present Ended e = refl

module _ (log : List Event) (t : Tables) (k : KeptAt log t) where
  making : (number : ℕ) (rates : Rates) → pool_place t.latest rates t ≡ Ok number → KeptAt (Making number rates ∷ log) (pool_made t.latest rates t number)
  making number rates e =
      let p = pool_placed t t.latest rates number e in
      subst (λ n. KeptAt (Making n rates ∷ log) (pool_made t.latest rates t n)) p.0 (make_keeps t k rates p.1)

  opening : (name number : ℕ) (rates : Rates) (i : ℕ) → open_place t.latest number rates t ≡ Ok i → name ≡ t.opened → KeptAt (Opening name number rates ∷ log) (session_opened t.latest number rates t i)
  opening name number rates i e named =
      let p = open_placed t t.latest number rates i e in
      subst (λ n. KeptAt (Opening n number rates ∷ log) (session_opened t.latest number rates t i)) (sym named) (open_keeps t k number i rates p.1 p.0)

  arriving : (full : Bool) (io : Io) (i : ℕ) → arrival_place full io t ≡ Ok i → KeptAt log (arrived t i)
  arriving full io i e =
      let found = arrival_placed t full i (first_fit (OpenAs io.session) t.sessions) e in
      row_keeps t k (t.arrivals + 1) i (accepted_row (session t i)) (found_within (OpenAs io.session) t.sessions i found) (λ p. (p, refl, refl, refl))

  ending : (name i : ℕ) → first_fit (OpenAs name) t.sessions ≡ Some i → KeptAt log (ended t i)
  ending name i e =
      row_keeps t k t.arrivals i (ended_row (session t i)) (found_within (OpenAs name) t.sessions i e)
      (λ p. (open_present (session t i).state (and_parts (is_open (session t i).state) (eqb (session t i).name name) (found_fits (OpenAs name) t.sessions i e)).0, refl, refl, refl))

  closing : (name i : ℕ) → close_place name t ≡ Ok i → KeptAt log (closed t i)
  closing name i e =
      row_keeps t k t.arrivals i free_place (found_within (EndedAs name) t.sessions i (close_placed t i (first_fit (EndedAs name) t.sessions) e)) (λ p. absurd (both_ways false refl p))

  collecting : (run : Run) → KeptAt log (hand_back run t).1
  collecting run = by (first_fit (PresentAs run.session) t.sessions) refl
    where
      by : (o : Option ℕ) → first_fit (PresentAs run.session) t.sessions ≡ o → KeptAt log (hand_back_at run t o).1
      by None e = k
      by (Some i) e =
          let less = row_keeps t k t.arrivals i (handed_row run.count (session t i)) (found_within (PresentAs run.session) t.sessions i e) (λ p. (p, refl, refl, refl)) in
          cond_both (ltb (session t i).inside run.count) (record { run = run; foreign = true }, t) (record { run = run; foreign = false }, with_sessions t t.arrivals (set t.sessions i (handed_row run.count (session t i)))) (λ (o : HandedBack × Tables). KeptAt log o.1) (λ e. k) (λ e. less)

module _ (level : ServiceRecord → ℕ) (log : List Event) (m : Moment) (k : KeptAt log m.tables) where
  sending : (sent : Sent) (n : Moment) → SendStep level m sent n → KeptAt (Sending sent ∷ log) n.tables
  sending sent n s =
      let t = m.tables in
      let at = sent.choice.place in
      let free = free_choice level m sent.choice s.sends.goes in
      let present = (usable_is (session t at) (head_at m at) s.sends.head s.sends.usable).present in
      let a = and_parts (has_head t (head_at m) at) (lets_go t.latest (session t at).account && pool_lets_go t t.latest (session t at).pool) free.goes in
      let b = and_parts (lets_go t.latest (session t at).account) (pool_lets_go t t.latest (session t at).pool) a.1 in
      let c = and_parts (ltb (session t at).pool 16) (lets_go t.latest (pool t (session t at).pool).account) b.1 in
      let own = and_parts (is_sound (session t at).account) (free_at t.latest (session t at).account) b.0 in
      let shared = and_parts (is_sound (pool t (session t at).pool).account) (free_at t.latest (pool t (session t at).pool).account) c.1 in
      let for : sent_for sent ≡ (session t at).name = s.sends.sent_as.session_is in
      let within : sent_in sent ≡ (session t at).pool = ap (λ (x : Moment). (session x.tables at).pool) s.before_is in
      let when : instant_of sent ≡ t.latest = ap (λ (x : Moment). x.tables.latest) s.before_is in
      subst (λ (x : Moment). KeptAt (Sending sent ∷ log) x.tables) (sym s.sends.leaves)
      (send_keeps t k at sent.choice.due s.sends.head.count present own.1 (ltb-true _ _ c.0) shared.1
      (instants_for sent_for (sent ∷ sends_in log)) (instants_for sent_in (sent ∷ sends_in log))
      (send_here sent_for sent (sends_in log) (session t at).name t.latest for when)
      (send_other sent_for sent (sends_in log) (session t at).name t.latest for when)
      (send_here sent_in sent (sends_in log) (session t at).pool t.latest within when)
      (send_other sent_in sent (sends_in log) (session t at).pool t.latest within when))

  -- the tables of the moment reached
  reached : (after : List Event) (n o : Moment) → n ≡ o → KeptAt after o.tables → KeptAt after n.tables
  reached after n o e h = subst (λ (x : Moment). KeptAt after x.tables) (sym e) h

  step_keeps : (event : Event) (n : Moment) → Step level m event n → KeptAt (event ∷ log) n.tables
  step_keeps (Accepting micros) n s = reached (Accepting micros ∷ log) n _ s.leaves (accept_keeps m.tables k micros s.later)
  step_keeps (Making number rates) n s = reached (Making number rates ∷ log) n _ s.1 (making log m.tables k number rates s.0)
  step_keeps (Opening name number rates) n s = reached (Opening name number rates ∷ log) n _ s.3 (opening log m.tables k name number rates s.0 s.1 s.2)
  step_keeps (Arriving io number) n s = reached (Arriving io number ∷ log) n _ s.3 (arriving log m.tables k (full_at m) io s.0 s.1)
  step_keeps (Sending sent) n s = sending sent n s
  step_keeps (Working count) n s = reached (Working count ∷ log) n _ s.leaves k
  step_keeps (Collecting back) n s = reached (Collecting back ∷ log) n _ s.leaves (collecting log m.tables k back.run)
  step_keeps (Ending name) n s = reached (Ending name ∷ log) n _ s.3 (ending log m.tables k name s.0 s.1)
  step_keeps (Closing name) n s = reached (Closing name ∷ log) n _ s.3 (closing log m.tables k name s.0 s.1)

-- ---- courses

course_keeps : {level : ServiceRecord → ℕ} {start : Moment} {log : List Event} {m : Moment} → KeptAt [] start.tables → Course level start log m → KeptAt log m.tables
course_keeps k begins = k
course_keeps {level} k (goes_on {log = log} {m = m} {event = event} {n = n} c s) = step_keeps level log m (course_keeps k c) event n s

pub windows_of_course : (level : ServiceRecord → ℕ) (start : Moment) → Starts start → (log : List Event) (m : Moment) → Course level start log m → WithinLimits log
windows_of_course level start starts log m c =
    let k = course_keeps (subst (KeptAt []) (sym starts.tables) (start_keeps starts.throughput starts.most)) c in
    record { sessions = limits k.own; pools = limits k.shared }
