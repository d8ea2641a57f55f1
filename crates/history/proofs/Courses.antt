-- Each call is a course of single steps, and so is every history.
use Rattle.std.proofs.Common.{◌≡◌, ℕ, ◌+◌, Bool, true, false, cond, ltb, leb, List, [], ◌++◌, map, Ok, Err, Result, sym, refl, ◌∙◌, subst, arith}
use Rattle.scheduling.specs.Scheduling.{Sent, Chain, none, more, latest_at, accepted_at, ScheduleStep}
use Rattle.scheduling.specs.declared.answer.Scheduled.{Scheduled}
use Rattle.service.specs.Calls.{Place, pool_place, open_place, place_for}
use Rattle.service.specs.Moments.{Moment, makes_pool, opens, arrives, ends, closes, collects, Call as ServiceCall, Answer as ServiceAnswer, Leads as ServiceLeads}
use Rattle.service.specs.Rows.{first_fit, reserves_made, FreePlace}
use Rattle.service.specs.Faults.{refused}
use Rattle.service.specs.declared.fault.ServiceFault.{ServiceFault}
use Rattle.service.specs.declared.fault.ServiceWhy.TheVariants.{InstantBefore, NoPlace, NoReserve, NoSuchPool}
use Rattle.service.specs.declared.rows.Tables.{Tables}
use Rattle.std.proofs.lemmas.Bool.{le-ltb, ltb-false, cond-false}
use Rattle.usage.specs.declared.ServiceRecord.{ServiceRecord}
use Rattle.values.specs.declared.instant.Instant.{Instant}
use Rattle.values.specs.declared.rates.Rates.{Rates}
use Rattle.history.specs.Calls.{Call, serves, schedules, works, Answer, Leads}
use Rattle.history.specs.Histories.{Made, History, making, next, service_events, schedule_events, events_of, log_of}
use Rattle.history.specs.Steps.{Event, Accepting, Sending, Step, Course, begins, goes_on}

-- a course, and then another
pub joined : {level : ServiceRecord → ℕ} {a m n : Moment} {early late : List Event} → Course level a early m → Course level m late n → Course level a (late ++ early) n
joined c begins = c
joined c (goes_on d s) = goes_on (joined c d) s

-- what is accepted was not refused first
accepted_then : (b : Bool) (fault : ServiceFault) (o : Place) (i : ℕ) → cond b (Err fault) o ≡ Ok i → (b ≡ false) × (o ≡ Ok i)
accepted_then true fault o i e = absurd (let z : ◌≡◌ {A = ℕ} 0 1 = cc in omega arith)
accepted_then false fault o i e = (refl, e)

module _ (level : ServiceRecord → ℕ) where
  -- the instant of a call that is not before the latest
  accepts : (m : Moment) (present : Instant) → ltb present.micros m.tables.latest ≡ false → Step level m (Accepting present.micros) (accepted_at present.micros m)
  accepts m present e = record { later = ltb-false _ _ e; lawful = present.lawful; leaves = refl }

  -- a pool made, or a session opened, right after the instant was accepted
  module _ (t : Tables) (micros : ℕ) (rates : Rates) where
    same_instant : ltb micros micros ≡ false
    same_instant = le-ltb micros micros (omega arith)

    pool_then : (number : ℕ) → pool_place micros rates t ≡ Ok number → (ltb micros t.latest ≡ false) × (pool_place micros rates (latest_at micros t) ≡ Ok number)
    pool_then number e =
        let rest : Place = cond (leb 16 t.made) (Err (refused NoPlace)) (cond (ltb t.throughput (reserves_made t + rates.reserve)) (Err (refused NoReserve)) (Ok t.made)) in
        let p = accepted_then (ltb micros t.latest) (refused InstantBefore) rest number e in
        (p.0, cond-false (ltb micros micros) (Err (refused InstantBefore)) rest same_instant ∙ p.1)

    open_then : (number i : ℕ) → open_place micros number rates t ≡ Ok i → (ltb micros t.latest ≡ false) × (open_place micros number rates (latest_at micros t) ≡ Ok i)
    open_then number i e =
        let rest : Place = cond (leb t.made number) (Err (refused NoSuchPool)) (place_for number rates t (first_fit FreePlace t.sessions)) in
        let p = accepted_then (ltb micros t.latest) (refused InstantBefore) rest i e in
        (p.0, cond-false (ltb micros micros) (Err (refused InstantBefore)) rest same_instant ∙ p.1)

  -- the single sends of a scheduling call
  chain_course : {m n : Moment} {sends : List Sent} → Chain level m sends n → Course level m (map Sending sends) n
  chain_course none = begins
  chain_course (more c s) = goes_on (chain_course c) (record { before_is = refl; sends = s })

  -- a refused call leads nowhere
  stays : (m n : Moment) → n ≡ m → Course level m [] n
  stays m n e = subst (Course level m []) (sym e) begins

  service_course : (call : ServiceCall) (answer : ServiceAnswer call) (m n : Moment) → ServiceLeads call answer m n → Course level m (service_events call answer) n
  service_course (makes_pool present rates) (Ok number) m n s =
      let p = pool_then m.tables present.micros rates number s.0 in
      goes_on (goes_on begins (accepts m present p.0)) (p.1, s.1)
  service_course (makes_pool present rates) (Err fault) m n s = stays m n s.1
  service_course (opens present number rates) (Ok name) m n s =
      let p = open_then m.tables present.micros rates number s.0 s.1 in
      goes_on (goes_on begins (accepts m present p.0)) (s.0, p.1, s.2, s.3)
  service_course (opens present number rates) (Err fault) m n s = stays m n s.1
  service_course (arrives io) (Ok number) m n s = goes_on begins s
  service_course (arrives io) (Err fault) m n s = stays m n s.1
  service_course (ends name) (Ok said) m n s = goes_on begins (s.0, s.1, refl, s.3)
  service_course (ends name) (Err fault) m n s = stays m n s.2
  service_course (closes name) (Ok said) m n s = goes_on begins (s.0, s.1, refl, s.3)
  service_course (closes name) (Err fault) m n s = stays m n s.1
  service_course (collects room line line') (Ok back) m n s = goes_on begins (record { took = s.1; back_is = s.2; leaves = s.3 })
  service_course (collects room line line') (Err fault) m n s = stays m n s.1

  schedule_course : (present : Instant) (answer : Result Scheduled ServiceFault) (m n : Moment) (s : ScheduleStep level present.micros answer m n) → Course level m (schedule_events level m n present.micros answer s) n
  schedule_course present (Ok answer) m n s = joined (goes_on begins (accepts m present s.lawful)) (chain_course s.chain)
  schedule_course present (Err fault) m n s = stays m n s.2

  call_course : (call : Call) (answer : Answer call) (m n : Moment) (s : Leads level call answer m n) → Course level m (events_of level m n call answer s) n
  call_course (serves call) answer m n s = service_course call answer m n s
  call_course (schedules present) answer m n s = schedule_course present answer m n s
  call_course works count m n s = goes_on begins s

pub course_of : {level : ServiceRecord → ℕ} {start : Moment} {past : List Made} {m : Moment} (h : History level start past m) → Course level start (log_of h) m
course_of making = begins
course_of {level} (next {m = m} {n = n} h made s) = joined (course_of h) (call_course level made.call made.answer m n s)
