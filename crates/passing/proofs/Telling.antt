-- A course told by what it does to the tables: steps that send nothing, and sends.
use Rattle.std.proofs.Common.{◌≡◌, ℕ, ◌+◌, ◌<◌, ◌≤◌, Bool, true, false, cond, eqb, ltb, leb, List, [], ◌∷◌, length, set, Some, None, Ok, Err, Option, sym, refl, ap, ◌∙◌, subst, arith}
use mathlib.Core.Logic.{∥∥₁_elim}
use native.Mathlib.Bridge.{le_prop}
use native.Mathlib.Nat.{ℕ_set}
use Rattle.history.specs.Logs.{sends_in}
use Rattle.history.specs.Steps.{Event, Accepting, Making, Opening, Arriving, Sending, Working, Collecting, Ending, Closing, SendStep, Course, begins, goes_on}
use Rattle.scheduling.specs.Scheduling.{Sent, latest_at}
use Rattle.service.proofs.Finding.{found_within, found_fits}
use Rattle.service.proofs.Sounding.{Kin}
use Rattle.service.specs.Calls.{Place, pool_place, pool_made, session_opened, with_sessions, open_place, place_for, arrival_place, arrival_at, arrived, accepted_row, ended, ended_row, close_place, close_at, closed, handed_row, hand_back_at, hand_back}
use Rattle.service.specs.Faults.{refused}
use Rattle.service.specs.Moments.{Moment, full_at}
use Rattle.service.specs.Rows.{session, pool, free_place, first_fit, is_open, is_present, reserves_in, reserves_made, OpenAs, EndedAs, PresentAs, FreePlace}
use Rattle.service.specs.Sound.{Sound, Present, Made, name_at, session_number, pool_number, Below, Apart, Numbers}
use Rattle.service.specs.declared.fault.ServiceFault.{ServiceFault}
use Rattle.service.specs.declared.fault.ServiceWhy.TheVariants.{InstantBefore, NoSuchPool, NoSuchSession, NoPlace, NoReserve, WaitingLineFull, CountedOut, NotHandedBack}
use Rattle.service.specs.declared.rows.HandedBack.{HandedBack}
use Rattle.service.specs.declared.rows.Session.{Session}
use Rattle.service.specs.declared.rows.State.{State}
use Rattle.service.specs.declared.rows.State.TheVariants.{Free, Open, Ended}
use Rattle.service.specs.declared.rows.Tables.{Tables}
use Rattle.std.proofs.lemmas.Bool.{both_ways, and_parts, leb-false}
use Rattle.usage.specs.declared.ServiceRecord.{ServiceRecord}
use Rattle.values.specs.declared.io.Io.{Io}
use Rattle.values.specs.declared.io.Run.{Run}
use Rattle.values.specs.declared.rates.Rates.{Rates}

-- ---- what of the tables' soundness is needed

pub record Facts (t : Tables) : Type 0 where
  pub wide : length t.sessions ≡ 64
  pub deep : length t.pools ≡ 16
  pub places : t.made ≤ 16
  pub names_below : Below (Present t) (name_at t) t.opened
  pub names_apart : Apart (Present t) (name_at t)
  pub marks_below : Below (Present t) (session_number t) t.orders
  pub pool_marks_below : Below (Made t) (pool_number t) t.orders
  pub housed : (k : ℕ) → Present t k → (session t k).pool < t.made

pub facts : (t : Tables) → Numbers t → Facts t
facts t f = record {
  wide = f.wide;
  deep = f.deep;
  places = f.places;
  names_below = λ k p. ∥∥₁_elim f.sound le_prop (λ (s : Sound t). s.names_below k p);
  names_apart = λ j k p q e. ∥∥₁_elim f.sound (ℕ_set j k) (λ (s : Sound t). s.names_apart j k p q e);
  marks_below = λ k p. ∥∥₁_elim f.sound le_prop (λ (s : Sound t). s.marks_below k p);
  pool_marks_below = λ k p. ∥∥₁_elim f.sound le_prop (λ (s : Sound t). s.pool_marks_below k p);
  housed = λ k p. ∥∥₁_elim f.sound le_prop (λ (s : Sound t). s.housed k p);
}

-- ---- steps that send nothing

pub data Quiet (t u : Tables) : Type 0 where
  -- a later instant
  later : (micros : ℕ) → t.latest ≤ micros → u ≡ latest_at micros t → Quiet t u
  -- a pool made
  makes : (rates : Rates) → t.made < 16 → u ≡ pool_made t.latest rates t t.made → Quiet t u
  -- a session opened
  opens : (number i : ℕ) (rates : Rates) → i < length t.sessions → u ≡ session_opened t.latest number rates t i → Quiet t u
  -- a row changed that keeps its name, pool and account, or is free
  changes : (n i : ℕ) (y : Session) → i < length t.sessions → Kin y (session t i) → u ≡ with_sessions t n (set t.sessions i y) → Quiet t u
  -- nothing
  stays : u ≡ t → Quiet t u

-- what was refused was not answered
not_ok : {Y : Type 0} (fault : ServiceFault) (n : ℕ) → ◌≡◌ {A = Place} (Err fault) (Ok n) → Y
not_ok fault n e = absurd (let z : ◌≡◌ {A = ℕ} 0 1 = cc in omega arith)

-- a test before which a call is refused
past : (b : Bool) (fault : ServiceFault) (r : Place) (n : ℕ) → cond b (Err fault) r ≡ Ok n → (b ≡ false) × (r ≡ Ok n)
past true fault r n e = not_ok fault n e
past false fault r n e = (refl, e)

same_ok : (i n : ℕ) → ◌≡◌ {A = Place} (Ok i) (Ok n) → i ≡ n
same_ok i n e = cc

-- a pool gets the next number, and there was a place for it
pool_quiet : (t u : Tables) (number : ℕ) (rates : Rates) → pool_place t.latest rates t ≡ Ok number → u ≡ pool_made t.latest rates t number → Quiet t u
pool_quiet t u number rates p e =
    let short = ltb t.throughput (reserves_made t + rates.reserve) in
    let a = past (ltb t.latest t.latest) (refused InstantBefore) (cond (leb 16 t.made) (Err (refused NoPlace)) (cond short (Err (refused NoReserve)) (Ok t.made))) number p in
    let b = past (leb 16 t.made) (refused NoPlace) (cond short (Err (refused NoReserve)) (Ok t.made)) number a.1 in
    let c = past short (refused NoReserve) (Ok t.made) number b.1 in
    makes rates (leb-false 16 t.made b.0) (e ∙ ap (pool_made t.latest rates t) (sym (same_ok t.made number c.1)))

-- a session's place was free
open_place_lem : (number : ℕ) (rates : Rates) (t : Tables) (o : Option ℕ) (i : ℕ) → place_for number rates t o ≡ Ok i → o ≡ Some i
open_place_lem number rates t None i e = not_ok (refused NoPlace) i e
open_place_lem number rates t (Some j) i e =
    let out = leb 4000000000 t.opened in
    let short = ltb (pool t number).account.reserve (reserves_in number t.sessions + rates.reserve) in
    let a = past short (refused NoReserve) (cond out (Err (refused CountedOut)) (Ok j)) i e in
    let b = past out (refused CountedOut) (Ok j) i a.1 in
    ap Some (same_ok j i b.1)

open_quiet : (t u : Tables) (number : ℕ) (rates : Rates) (i : ℕ) → open_place t.latest number rates t ≡ Ok i → u ≡ session_opened t.latest number rates t i → Quiet t u
open_quiet t u number rates i p e =
    let found = place_for number rates t (first_fit FreePlace t.sessions) in
    let a = past (ltb t.latest t.latest) (refused InstantBefore) (cond (leb t.made number) (Err (refused NoSuchPool)) found) i p in
    let b = past (leb t.made number) (refused NoSuchPool) found i a.1 in
    opens number i rates (found_within FreePlace t.sessions i (open_place_lem number rates t (first_fit FreePlace t.sessions) i b.1)) e

-- the places of an arrival, an ending and a closing are those of the sessions found
arrival_place_lem : (full : Bool) (t : Tables) (o : Option ℕ) (i : ℕ) → arrival_at full t o ≡ Ok i → o ≡ Some i
arrival_place_lem full t None i e = not_ok (refused NoSuchSession) i e
arrival_place_lem full t (Some j) i e =
    let out = leb 4000000000 t.arrivals in
    let a = past full (refused WaitingLineFull) (cond out (Err (refused CountedOut)) (Ok j)) i e in
    ap Some (same_ok j i (past out (refused CountedOut) (Ok j) i a.1).1)

arrival_quiet : (full : Bool) (io : Io) (t u : Tables) (i : ℕ) → arrival_place full io t ≡ Ok i → u ≡ arrived t i → Quiet t u
arrival_quiet full io t u i p e =
    changes (t.arrivals + 1) i (accepted_row (session t i)) (found_within (OpenAs io.session) t.sessions i (arrival_place_lem full t (first_fit (OpenAs io.session) t.sessions) i p)) (λ h. (h, refl, refl, refl)) e

open_present : (s : State) → is_open s ≡ true → is_present s ≡ true
open_present Free h = h
open_present Open h = refl
open_present Ended h = refl

end_quiet : (name : ℕ) (t u : Tables) (i : ℕ) → first_fit (OpenAs name) t.sessions ≡ Some i → u ≡ ended t i → Quiet t u
end_quiet name t u i p e =
    let fit = and_parts (is_open (session t i).state) (eqb (session t i).name name) (found_fits (OpenAs name) t.sessions i p) in
    changes t.arrivals i (ended_row (session t i)) (found_within (OpenAs name) t.sessions i p) (λ h. (open_present (session t i).state fit.0, refl, refl, refl)) e

close_place_lem : (t : Tables) (o : Option ℕ) (i : ℕ) → close_at t o ≡ Ok i → o ≡ Some i
close_place_lem t None i e = not_ok (refused NoSuchSession) i e
close_place_lem t (Some j) i e = ap Some (same_ok j i (past (ltb 0 ((session t j).unsent + (session t j).inside)) (refused NotHandedBack) (Ok j) i e).1)

close_quiet : (name : ℕ) (t u : Tables) (i : ℕ) → close_place name t ≡ Ok i → u ≡ closed t i → Quiet t u
close_quiet name t u i p e =
    changes t.arrivals i free_place (found_within (EndedAs name) t.sessions i (close_place_lem t (first_fit (EndedAs name) t.sessions) i p)) (λ h. absurd (both_ways false refl h)) e

-- a collection writes one row, or none if the run is foreign
collect_quiet : (run : Run) (t : Tables) → Quiet t (hand_back run t).1
collect_quiet run t = by (first_fit (PresentAs run.session) t.sessions) refl
  where
    at : (i : ℕ) → i < length t.sessions → (b : Bool) → Quiet t (cond {A = HandedBack × Tables} b (record { run = run; foreign = true }, t) (record { run = run; foreign = false }, with_sessions t t.arrivals (set t.sessions i (handed_row run.count (session t i))))).1
    at i l true = stays refl
    at i l false = changes t.arrivals i (handed_row run.count (session t i)) l (λ h. (h, refl, refl, refl)) refl

    by : (o : Option ℕ) → first_fit (PresentAs run.session) t.sessions ≡ o → Quiet t (hand_back_at run t o).1
    by None e = stays refl
    by (Some i) e = at i (found_within (PresentAs run.session) t.sessions i e) (ltb (session t i).inside run.count)

-- ---- courses

-- the sends of a course, the newest first, with what holds of the tables before each step
pub data Tale (level : ServiceRecord → ℕ) (m : Moment) : List Sent → Moment → Type 0 where
  still : Tale level m [] m
  quiet : {sends : List Sent} {n o : Moment} → Tale level m sends n → Facts n.tables → Quiet n.tables o.tables → Tale level m sends o
  send : {sends : List Sent} {n o : Moment} {sent : Sent} → Tale level m sends n → Facts n.tables → SendStep level n sent o → Tale level m (sent ∷ sends) o

module _ (level : ServiceRecord → ℕ) (m : Moment) (sound : (log : List Event) (n : Moment) → Course level m log n → Numbers n.tables) where
  -- each event of the course by what it does
  pub told : {log : List Event} {n : Moment} → Course level m log n → Tale level m (sends_in log) n
  told begins = still
  told (goes_on {log = log} {m = o} {event = Accepting micros} c s) = quiet (told c) (facts o.tables (sound log o c)) (later micros s.later (ap (λ (x : Moment). x.tables) s.leaves))
  told (goes_on {log = log} {m = o} {event = Making number rates} {n = n} c s) = quiet (told c) (facts o.tables (sound log o c)) (pool_quiet o.tables n.tables number rates s.0 (ap (λ (x : Moment). x.tables) s.1))
  told (goes_on {log = log} {m = o} {event = Opening name number rates} {n = n} c s) = quiet (told c) (facts o.tables (sound log o c)) (open_quiet o.tables n.tables number rates s.0 s.1 (ap (λ (x : Moment). x.tables) s.3))
  told (goes_on {log = log} {m = o} {event = Arriving io number} {n = n} c s) = quiet (told c) (facts o.tables (sound log o c)) (arrival_quiet (full_at o) io o.tables n.tables s.0 s.1 (ap (λ (x : Moment). x.tables) s.3))
  told (goes_on {log = log} {m = o} {event = Sending sent} c s) = send (told c) (facts o.tables (sound log o c)) s
  told (goes_on {log = log} {m = o} {event = Working count} c s) = quiet (told c) (facts o.tables (sound log o c)) (stays (ap (λ (x : Moment). x.tables) s.leaves))
  told (goes_on {log = log} {m = o} {event = Collecting back} c s) = quiet (told c) (facts o.tables (sound log o c)) (subst (Quiet o.tables) (sym (ap (λ (x : Moment). x.tables) s.leaves)) (collect_quiet back.run o.tables))
  told (goes_on {log = log} {m = o} {event = Ending name} {n = n} c s) = quiet (told c) (facts o.tables (sound log o c)) (end_quiet name o.tables n.tables s.0 s.1 (ap (λ (x : Moment). x.tables) s.3))
  told (goes_on {log = log} {m = o} {event = Closing name} {n = n} c s) = quiet (told c) (facts o.tables (sound log o c)) (close_quiet name o.tables n.tables s.0 s.1 (ap (λ (x : Moment). x.tables) s.3))
