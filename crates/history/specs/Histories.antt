-- Whole runs: any sequence of calls from the making on, each with its answer, refused ones among them.
use Rattle.std.specs.Prelude.{◌≡◌, ℕ, List, [], ◌∷◌, ◌++◌, map, Ok, Err, Result}
use Rattle.scheduling.specs.Scheduling.{ScheduleStep}
use Rattle.scheduling.specs.declared.answer.Scheduled.{Scheduled}
use Rattle.service.specs.Calls.{new_tables}
use Rattle.service.specs.Moments.{Moment, makes_pool, opens, arrives, ends, closes, collects, Call as ServiceCall, Answer as ServiceAnswer}
use Rattle.service.specs.declared.fault.ServiceFault.{ServiceFault}
use Rattle.usage.specs.declared.ServiceRecord.{ServiceRecord}
use Rattle.history.specs.Calls.{Call, serves, schedules, works, Answer, Leads}
use Rattle.history.specs.Steps.{Event, Accepting, Making, Opening, Arriving, Sending, Working, Collecting, Ending, Closing, Course, AtEvery}

-- a service just made, with nothing waiting and nothing inside the device
pub record Starts (m : Moment) : Type 0 where
  pub throughput : ℕ
  pub most : ℕ
  pub tables : m.tables ≡ new_tables throughput most
  pub waiting : m.waiting ≡ []
  pub working : m.device.working ≡ []
  pub done : m.device.done ≡ []

-- a call that was made, and what it answered
pub record Made : Type 0 where
  pub call : Call
  pub answer : Answer call

-- the calls made from a moment on, the newest first, and the moment that they led to
pub data History (level : ServiceRecord → ℕ) (start : Moment) : List Made → Moment → Type 0 where
  making : History level start [] start
  next : {past : List Made} {m n : Moment} → History level start past m → (made : Made) → Leads level made.call made.answer m n → History level start (made ∷ past) n

-- ---- the log of single steps, read off a history

-- what a call on the tables and lines adds to the log, the newest first; a refused one adds nothing
abbrev pub service_events : (call : ServiceCall) → ServiceAnswer call → List Event
service_events (makes_pool present rates) (Ok number) = Making number rates ∷ Accepting present.micros ∷ []
service_events (makes_pool present rates) (Err fault) = []
service_events (opens present number rates) (Ok name) = Opening name number rates ∷ Accepting present.micros ∷ []
service_events (opens present number rates) (Err fault) = []
service_events (arrives io) (Ok number) = Arriving io number ∷ []
service_events (arrives io) (Err fault) = []
service_events (ends name) (Ok said) = Ending name ∷ []
service_events (ends name) (Err fault) = []
service_events (closes name) (Ok said) = Closing name ∷ []
service_events (closes name) (Err fault) = []
service_events (collects room line line') (Ok back) = Collecting back ∷ []
service_events (collects room line line') (Err fault) = []

-- what a scheduling call adds: its instant, and then each single send
abbrev pub schedule_events : (level : ServiceRecord → ℕ) (m n : Moment) (micros : ℕ) (answer : Result Scheduled ServiceFault) → ScheduleStep level micros answer m n → List Event
schedule_events level m n micros (Ok answer) step = map Sending step.sends ++ Accepting micros ∷ []
schedule_events level m n micros (Err fault) step = []

abbrev pub events_of : (level : ServiceRecord → ℕ) (m n : Moment) (call : Call) (answer : Answer call) → Leads level call answer m n → List Event
events_of level m n (serves call) answer step = service_events call answer
events_of level m n (schedules present) answer step = schedule_events level m n present.micros answer step
events_of level m n works count step = Working count ∷ []

-- the log of a history, the newest first
abbrev pub log_of : {level : ServiceRecord → ℕ} {start : Moment} {past : List Made} {m : Moment} → History level start past m → List Event
log_of making = []
log_of {level} (next {m = m} {n = n} h made step) = events_of level m n made.call made.answer step ++ log_of h

-- ---- laws of whole runs

-- A law may speak of the sharing rule's meaning, the moment of the making, the log so far and the moment that it led to.
abbrev pub Law : Type 1
Law = (ServiceRecord → ℕ) → Moment → List Event → Moment → Type 0

-- The history is the course of single steps that its log tells, and the law holds at every moment of it, also between the
-- single sends of a call.
abbrev pub Keeps : Law → {level : ServiceRecord → ℕ} {start : Moment} {past : List Made} {m : Moment} → History level start past m → Type 0
Keeps law {level} {start} {m = m} h = (course : Course level start (log_of h) m) × AtEvery (law level start) course

-- every history from a making on keeps the law, whatever the sharing rule's meaning and the device
abbrev pub EveryHistoryKeeps : Law → Type 0
EveryHistoryKeeps law = (level : ServiceRecord → ℕ) (start : Moment) → Starts start → (past : List Made) (m : Moment) (h : History level start past m) → Keeps law h
