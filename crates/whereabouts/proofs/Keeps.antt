-- From step to step, and so over whole runs.
use Rattle.std.proofs.Common.{◌≡◌, ℕ, zero, suc, ◌+◌, ◌-◌, ◌<◌, ◌≤◌, min, true, false, cond, ◌&&◌, eqb, ltb, leb, List, [], ◌∷◌, ◌++◌, length, get_or, drop, set, replicate, Some, None, Ok, sum_by, Option, sym, refl, ap, ◌∙◌, subst, ⊎_elim, arith}
use Rattle.device.specs.Meaning.{Meaning, Same, Put, Worked, Took}
use Rattle.heads.specs.Heads.{of_session, head_of}
use Rattle.history.proofs.Running.{every_history}
use Rattle.history.specs.Histories.{Starts}
use Rattle.history.specs.Logs.{arrivals_in, backs_in}
use Rattle.history.specs.Steps.{Event, Collects, Accepting, Making, Opening, Arriving, Sending, Working, Collecting, Ending, Closing, Step, Course, begins, goes_on}
use Rattle.choosing.specs.declared.choose.Choice.{Choice}
use Rattle.line.specs.Line.{without}
use Rattle.scheduling.proofs.Choosing.{head_present, usable_is}
use Rattle.scheduling.specs.Sending.{head_at, used_of, owner_of, sent_row, sent_line, Sends}
use Rattle.service.specs.Calls.{open_place, arrival_place, close_place, opened_row, accepted_row, ended_row, handed_row, hand_back, hand_back_at, with_sessions}
use Rattle.service.specs.Moments.{Moment, full_at, arrived_moment}
use Rattle.service.specs.Rows.{session, blank_session, free_place, first_fit, is_present, PresentAs, OpenAs}
use Rattle.service.specs.declared.rows.HandedBack.{HandedBack}
use Rattle.service.specs.declared.rows.Session.{Session}
use Rattle.service.specs.declared.rows.Tables.{Tables}
use Rattle.std.proofs.lemmas.List.{length-append, get_or_past, take_all, drop_at}
use Rattle.std.proofs.ByRecursion.{All-weaker}
use Rattle.std.proofs.lemmas.List.Sums.{sum_by-cons, sum_by-append}
use Rattle.std.proofs.lemmas.Bool.{cases_lt, both_ways, cond-false, and_from, and_parts, leb-false, le-ltb, eq-eqb}
use Rattle.std.proofs.lemmas.Bool.Decides.{nat_tests}
use Rattle.std.specs.List.{AllByRecursion as All}
use Rattle.usage.specs.declared.ServiceRecord.{ServiceRecord}
use Rattle.values.specs.declared.io.Io.{Io}
use Rattle.values.specs.declared.io.Run.{Run}
use Rattle.values.specs.declared.rates.Rates.{Rates}
use Rattle.whereabouts.proofs.Finding.{none_found, open_stands, present_stands, opened_at, arrived_at, closed_at}
use Rattle.whereabouts.proofs.Kept.{OwnMade, Kept, start_keeps, same_keeps, open_keeps, end_keeps, close_keeps, arrive_keeps, send_keeps, its_session, enough_inside, return_keeps, my_accepts, my_waits, my_holds}
use Rattle.whereabouts.proofs.Lines.{times_counted}
use Rattle.whereabouts.proofs.Sums.{Stands, at, one, none_at, somewhere}
use Rattle.whereabouts.specs.Law.{StandsAt, MadeFor, Whereabouts, SessionLaw, AllFound, WhereaboutsLaw, AlwaysFound, SessionAlwaysFound}
use Rattle.whereabouts.specs.Places.{accepted, accepted_of, AnsweredRightly, has_number, held_in, handed_back, times_waiting, times_inside, times_back, MadeOf, count_for}

-- ---- what a device has inside, after each of its calls

put_held : (m : Meaning) (run : Run) (n : Meaning) → Put m run n → Same (run ∷ held_in m) (held_in n)
put_held m run n h f = omega (arith, sum_by-cons f run (held_in m), sum_by-append f m.working m.done, sum_by-append f n.working n.done, h.working f, h.done f, sum_by-append f m.working (run ∷ []), sum_by-cons f run [])

worked_held : (m n : Meaning) (k : ℕ) → Worked m n k → Same (held_in m) (held_in n)
worked_held m n k h f = omega (arith, sum_by-append f m.working m.done, sum_by-append f n.working n.done, h.working f, h.done f, sum_by-append f h.moved n.working, sum_by-append f m.done h.moved)

took_held : (m : Meaning) (run : Run) (n : Meaning) → Took m run n → Same (held_in m) (run ∷ held_in n)
took_held m run n h f = omega (arith, sum_by-append f m.working m.done, sum_by-append f n.working n.done, h.working f, h.done f, sum_by-cons f run (held_in n), sum_by-cons f run n.done)

-- ---- what holds at a moment, after this log

abbrev KeptOver : List Event → Tables → List Io → List Run → Type 0
KeptOver log t line held = Kept (accepted log) (handed_back (backs_in log)) t.sessions t.opened line held

pub record KeptAt (log : List Event) (m : Moment) : Type 0 where
  pub kept : KeptOver log m.tables m.waiting (held_in m.device)
  pub answered : (name : ℕ) → AnsweredRightly name (arrivals_in log)
  pub none_foreign : All (λ b. b.foreign ≡ false) (backs_in log)

-- a step that adds nothing to what is accepted and handed back, and leaves the rows, the line and what is inside
again : (log : List Event) (event : Event) (m n o : Moment) → n ≡ o → KeptAt log m → arrivals_in (event ∷ log) ≡ arrivals_in log → backs_in (event ∷ log) ≡ backs_in log → Kept (accepted log) (handed_back (backs_in log)) o.tables.sessions o.tables.opened o.waiting (held_in o.device) → KeptAt (event ∷ log) n
again log event m n o e k a b kept =
    subst (KeptAt (event ∷ log)) (sym e)
    (record {
      kept = subst (λ arrivals. Kept (accepted_of arrivals) (handed_back (backs_in (event ∷ log))) o.tables.sessions o.tables.opened o.waiting (held_in o.device)) (sym a) (subst (λ backs. Kept (accepted log) (handed_back backs) o.tables.sessions o.tables.opened o.waiting (held_in o.device)) (sym b) kept);
      answered = λ name. subst (AnsweredRightly name) (sym a) (k.answered name);
      none_foreign = subst (All (λ (x : HandedBack). x.foreign ≡ false)) (sym b) k.none_foreign;
    })

-- a present session's place is one of the table's
absent_past : (rows : List Session) (place : ℕ) → length rows ≤ place → is_present (get_or rows place blank_session).state ≡ true → ⊥
absent_past rows place l p = both_ways _ (ap (λ (r : Session). is_present r.state) (get_or_past rows place blank_session l)) p

stands_present : (rows : List Session) (place : ℕ) → is_present (get_or rows place blank_session).state ≡ true → Stands rows place (get_or rows place blank_session).name
stands_present rows place p =
    let r = get_or rows place blank_session in
    record {
      within = ⊎_elim (λ l. l) (λ l. absurd (absent_past rows place l p)) (cases_lt place (length rows));
      is = and_from (is_present r.state) (eqb r.name r.name) p (eq-eqb r.name r.name refl);
    }

module _ (log : List Event) (m : Moment) (k : KeptAt log m) where
  abbrev A : ℕ → List Io
  A = accepted log

  abbrev B : List Run
  B = handed_back (backs_in log)

  abbrev t : Tables
  t = m.tables

  open_step : (micros number : ℕ) (rates : Rates) (i : ℕ) → open_place micros number rates t ≡ Ok i → Kept A B (set t.sessions i (opened_row micros number rates t)) (t.opened + 1) m.waiting (held_in m.device)
  open_step micros number rates i e =
      let f = opened_at micros number rates t i e in
      open_keeps A B t.sessions t.opened m.waiting (held_in m.device) k.kept i (opened_row micros number rates t) f.within f.free (eq-eqb t.opened t.opened refl) refl refl refl

  arrive_step : (io : Io) (number i : ℕ) (n : Moment) → arrival_place (full_at m) io t ≡ Ok i → number ≡ (session t i).accepted → n ≡ arrived_moment m io i → KeptAt (Arriving io number ∷ log) n
  arrive_step io number i n e a leaves =
      let f = arrived_at (full_at m) io t i e in
      let free : length m.waiting < min m.places 4096 = leb-false _ _ f.room in
      let mine = my_accepts A B t.sessions t.opened m.waiting (held_in m.device) k.kept io.session i f.stands in
      subst (KeptAt (Arriving io number ∷ log)) (sym leaves)
      (record {
        kept = arrive_keeps A B t.sessions t.opened m.waiting (held_in m.device) k.kept io i f.stands (omega arith) (accepted_row (session t i)) f.stands.is refl refl refl;
        answered = λ name. ((λ same. a ∙ (mine ∙ ap (λ x. length (A x)) same)), k.answered name);
        none_foreign = k.none_foreign;
      })

  end_step : (name i : ℕ) → first_fit (OpenAs name) t.sessions ≡ Some i → Kept A B (set t.sessions i (ended_row (session t i))) t.opened m.waiting (held_in m.device)
  end_step name i e =
      let s = open_stands name t.sessions i e in
      let p = and_parts (is_present (session t i).state) (eqb (session t i).name name) s.is in
      end_keeps A B t.sessions t.opened m.waiting (held_in m.device) k.kept name i s (ended_row (session t i)) p.1 refl refl refl

  close_step : (name i : ℕ) → close_place name t ≡ Ok i → Kept A B (set t.sessions i free_place) t.opened m.waiting (held_in m.device)
  close_step name i e =
      let f = closed_at name t i e in
      close_keeps A B t.sessions t.opened m.waiting (held_in m.device) k.kept name i f.stands free_place refl (omega (arith, f.all_back)) (omega (arith, f.all_back))

  -- in such a run all of the line is used
  all_used : used_of m.waiting ≡ m.waiting
  all_used = take_all 4096 m.waiting k.kept.short

  send_step : (level : ServiceRecord → ℕ) (choice : Choice) (run : Run) (n : Moment) (s : Sends level m choice run n) → Kept A B (set t.sessions choice.place (sent_row t.latest t.orders choice.due s.head.count (session t choice.place))) t.opened (sent_line m choice.place s.head.count) (held_in n.device)
  send_step level choice run n s =
      let r = session t choice.place in
      let u = usable_is r (head_at m choice.place) s.head s.usable in
      let stands = stands_present t.sessions choice.place u.present in
      let head-is : head_of r.name m.waiting ≡ Some s.head = ap (head_of r.name) (sym all_used) ∙ (sym (head_present m choice.place u.present) ∙ u.is) in
      let sent : Kept A B (set t.sessions choice.place (sent_row t.latest t.orders choice.due s.head.count r)) t.opened (without owner_of r.name s.head.count m.waiting) (run ∷ held_in m.device) =
      send_keeps A B t.sessions t.opened m.waiting (held_in m.device) k.kept r.name choice.place stands s.head head-is u.enough run s.sent_as (sent_row t.latest t.orders choice.due s.head.count r) stands.is refl refl refl in
      same_keeps (held_in n.device) (put_held m.device run n.device s.put)
      (subst (λ line. Kept A B (set t.sessions choice.place (sent_row t.latest t.orders choice.due s.head.count r)) t.opened (without owner_of r.name s.head.count line) (run ∷ held_in m.device)) (sym all_used) sent)

  -- a run that is taken off the device is its session's, and is counted as handed back
  module _ (run : Run) (d : Meaning) (took : Took m.device run d) where
    with_run : Kept A B t.sessions t.opened m.waiting (run ∷ held_in d)
    with_run = same_keeps (run ∷ held_in d) (took_held m.device run d took) k.kept

    abbrev Returned : HandedBack × Tables → Type 0
    Returned o = (o.0.foreign ≡ false) × (o.0.run ≡ run) × Kept A (run ∷ B) o.1.sessions o.1.opened m.waiting (held_in d)

    returned : Returned (hand_back run t)
    returned = by (first_fit (PresentAs run.session) t.sessions) refl
      where
        by : (o : Option ℕ) → first_fit (PresentAs run.session) t.sessions ≡ o → Returned (hand_back_at run t o)
        by None e =
            let f = its_session A B t.sessions t.opened m.waiting run (held_in d) with_run in
            absurd (none_found (PresentAs run.session) t.sessions e f.0 f.1.within f.1.is)
        by (Some i) e =
            let s = present_stands run.session t.sessions i e in
            let enough = enough_inside A B t.sessions t.opened m.waiting run (held_in d) with_run i s in
            subst Returned (sym (cond-false (ltb (session t i).inside run.count) (record { run = run; foreign = true }, t) (record { run = run; foreign = false }, with_sessions t t.arrivals (set t.sessions i (handed_row run.count (session t i)))) (le-ltb _ _ enough)))
            (refl, refl, return_keeps A B t.sessions t.opened m.waiting run (held_in d) with_run i s (handed_row run.count (session t i)) s.is refl refl refl)

  collect_step : (back : HandedBack) (n : Moment) → Collects m back n → KeptAt (Collecting back ∷ log) n
  collect_step back n c =
      let r = returned back.run n.device c.took in
      let o : Moment = record { tables = (hand_back back.run t).1; places = m.places; waiting = m.waiting; device = n.device } in
      let after : KeptAt (Collecting back ∷ log) o = record { kept = r.2; answered = k.answered; none_foreign = (ap (λ (b : HandedBack). b.foreign) c.back_is ∙ r.0, k.none_foreign) } in
      subst (KeptAt (Collecting back ∷ log)) (sym c.leaves) after

  step_keeps : (level : ServiceRecord → ℕ) (event : Event) (n : Moment) → Step level m event n → KeptAt (event ∷ log) n
  step_keeps level (Accepting micros) n s = again log (Accepting micros) m n _ s.leaves k refl refl k.kept
  step_keeps level (Making number rates) n s = again log (Making number rates) m n _ s.1 k refl refl k.kept
  step_keeps level (Opening name number rates) n s = again log (Opening name number rates) m n _ s.3 k refl refl (open_step t.latest number rates s.0 s.1)
  step_keeps level (Arriving io number) n s = arrive_step io number s.0 n s.1 s.2 s.3
  step_keeps level (Sending sent) n s = again log (Sending sent) m n _ s.sends.leaves k refl refl (send_step level sent.choice sent.run n s.sends)
  step_keeps level (Working count) n s = again log (Working count) m n _ s.leaves k refl refl (same_keeps (held_in n.device) (worked_held m.device n.device count s.worked) k.kept)
  step_keeps level (Collecting back) n s = collect_step back n s
  step_keeps level (Ending name) n s = again log (Ending name) m n _ s.3 k refl refl (end_step name s.0 s.1)
  step_keeps level (Closing name) n s = again log (Closing name) m n _ s.3 k refl refl (close_step name s.0 s.1)

-- ---- from the making on

none_there : (n : ℕ) → All (λ (r : Session). is_present r.state ≡ false) (replicate n free_place)
none_there zero = tt
none_there (suc n) = (refl, none_there n)

start_kept : (m : Moment) → Starts m → KeptAt [] m
start_kept m s = record {
  kept =
      subst (λ (u : Tables). Kept (λ n. []) [] u.sessions u.opened m.waiting (held_in m.device)) (sym s.tables)
      (subst (λ line. Kept (λ n. []) [] (replicate 64 free_place) 0 line (held_in m.device)) (sym s.waiting)
      (subst (λ runs. Kept (λ n. []) [] (replicate 64 free_place) 0 [] (runs ++ m.device.done)) (sym s.working)
      (subst (λ runs. Kept (λ n. []) [] (replicate 64 free_place) 0 [] runs) (sym s.done) (start_keeps (replicate 64 free_place) (none_there 64)))));
  answered = λ name. tt;
  none_foreign = tt;
}

kept_at : {level : ServiceRecord → ℕ} {start : Moment} {log : List Event} {m : Moment} → KeptAt [] start → Course level start log m → KeptAt log m
kept_at k begins = k
kept_at {level} k (goes_on {log = log} {m = m} {event = event} {n = n} c s) = step_keeps log m (kept_at k c) level event n s

-- ---- what is kept is the law

-- sent or waiting
halves : (a w k : ℕ) → w ≤ a → cond (leb (a - w) k && ltb k (a - w + w)) 1 0 + cond (ltb k (a - w)) 1 0 ≡ cond (ltb k a) 1 0
halves a w k h = grind (arith, nat_tests)

-- a run has none of a session's I/Os if it counts none for it
sum_under : (f g : Run → ℕ) → ((run : Run) → f run ≤ g run) → (xs : List Run) → sum_by f xs ≤ sum_by g xs
sum_under f g h [] = omega arith
sum_under f g h (x ∷ xs) = omega (arith, sum_by-cons f x xs, sum_by-cons g x xs, h x, sum_under f g h xs)

has_under : (n k : ℕ) (run : Run) → has_number n k run ≤ count_for n run
has_under n k run = grind (arith, nat_tests)

before : (a w k : ℕ) → w ≡ 0 → k < a → ◌≡◌ {A = ℕ} (cond (ltb k (a - w)) 1 0) 1
before a w k z l = grind (arith, nat_tests)

-- the runs of one session among them
made_for : (log : List Event) (name : ℕ) (runs : List Run) → All (OwnMade (accepted log)) runs → MadeFor log name runs
made_for log name runs h = All-weaker (OwnMade (accepted log)) (λ (run : Run). run.session ≡ name → MadeOf (accepted log name) run) (λ run made same. subst (λ x. MadeOf (accepted log x) run) same made) runs h

module _ (log : List Event) (m : Moment) (k : KeptAt log m) (name : ℕ) where
  abbrev all : List Io
  all = accepted log name

  abbrev left : List Io
  left = of_session name m.waiting

  -- the place of a present session is one of the table's
  standing : (place : ℕ) → StandsAt m name place → Stands m.tables.sessions place name
  standing place h =
      let p = and_parts (is_present (session m.tables place).state) (eqb (session m.tables place).name name) h in
      record { within = (stands_present m.tables.sessions place p.0).within; is = h }

  fewer : length left ≤ length all
  fewer = omega (arith, ap length (k.kept.sent name).1, length-append (k.kept.sent name).0 left)

  the_last : left ≡ drop (length all - length left) all
  the_last =
      let g = (k.kept.sent name).0 in
      let e = (k.kept.sent name).1 in
      let many : length g ≡ length all - length left = omega (arith, ap length e, length-append g left) in
      sym (ap (drop (length all - length left)) e ∙ drop_at g left (length all - length left) many)

  found_once : (number : ℕ) → times_waiting log m name number + (times_inside m name number + times_back log name number) ≡ cond (ltb number (length all)) 1 0
  found_once number = omega (arith, times_counted number (length all - length left) (length left), k.kept.covered name number, halves (length all) (length left) number fewer)

  all_back : ((place : ℕ) → StandsAt m name place → ⊥) → (number : ℕ) → number < length all → times_back log name number ≡ 1
  all_back gone number l =
      let none_there : at name one m.tables.sessions ≡ 0 = ⊎_elim (λ z. omega arith) (λ s. let found = somewhere name one m.tables.sessions s in absurd (gone found.0 found.1.is)) (cases_lt (at name one m.tables.sessions) 1) in
      let w : length left ≡ 0 = omega (arith, k.kept.waits name, none_at name (λ r. r.unsent) m.tables.sessions none_there) in
      let d : sum_by (has_number name number) (held_in m.device) ≡ 0 = omega (arith, k.kept.holds name, none_at name (λ r. r.inside) m.tables.sessions none_there, sum_under (has_number name number) (count_for name) (has_under name number) (held_in m.device)) in
      let b = before (length all) (length left) number w l in
      omega (arith, k.kept.covered name number, b)

  found : Whereabouts name log m
  found = record {
    once = found_once;
    answered = k.answered name;
    fewer = fewer;
    waiting = the_last;
    inside = made_for log name (held_in m.device) k.kept.inner;
    back = made_for log name (handed_back (backs_in log)) k.kept.outer;
    told = λ place h.
        let s = standing place h in
        record {
          accepts = my_accepts (accepted log) (handed_back (backs_in log)) m.tables.sessions m.tables.opened m.waiting (held_in m.device) k.kept name place s;
          waits = my_waits (accepted log) (handed_back (backs_in log)) m.tables.sessions m.tables.opened m.waiting (held_in m.device) k.kept name place s;
          holds = my_holds (accepted log) (handed_back (backs_in log)) m.tables.sessions m.tables.opened m.waiting (held_in m.device) k.kept name place s;
        };
    closed = all_back;
  }

all_found : (level : ServiceRecord → ℕ) (start : Moment) → Starts start → (log : List Event) (m : Moment) → Course level start log m → AllFound log m
all_found level start starts log m c = let k = kept_at (start_kept start starts) c in record { each = found log m k; none_foreign = k.none_foreign }

pub always_found : AlwaysFound
always_found = every_history WhereaboutsLaw all_found

pub session_always_found : SessionAlwaysFound
session_always_found name = every_history (SessionLaw name) (λ level start starts log m c. (all_found level start starts log m c).each name)
