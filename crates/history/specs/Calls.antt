-- All the calls that a history is made of, each with what it answers and what it leads from and to.
use Rattle.std.specs.Prelude.{◌≡◌, ℕ, Result}
use Rattle.device.specs.Meaning.{Worked}
use Rattle.scheduling.specs.Scheduling.{ScheduleStep}
use Rattle.scheduling.specs.declared.answer.Scheduled.{Scheduled}
use Rattle.service.specs.Moments.{Moment, Call as ServiceCall, Answer as ServiceAnswer, Leads as ServiceLeads}
use Rattle.service.specs.declared.fault.ServiceFault.{ServiceFault}
use Rattle.usage.specs.declared.ServiceRecord.{ServiceRecord}
use Rattle.values.specs.declared.instant.Instant.{Instant}

-- a call on the tables and lines alone (making a pool, opening, arrival, ending, closing, collecting), scheduling, or the device's work
pub data Call : Type 0 where
  serves : ServiceCall → Call
  schedules : Instant → Call
  works : Call

abbrev pub Answer : Call → Type 0
Answer (serves call) = ServiceAnswer call
Answer (schedules present) = Result Scheduled ServiceFault
Answer works = ℕ

-- the device moved so many runs from at work to done, which ones is open; nothing else changed
pub record WorkStep (count : ℕ) (m n : Moment) : Type 0 where
  pub worked : Worked m.device n.device count
  pub leaves : n ≡ record { tables = m.tables; places = m.places; waiting = m.waiting; device = n.device }

-- this call, with this answer, leads from this moment to that one, under a sharing rule of this meaning
abbrev pub Leads : (ServiceRecord → ℕ) → (call : Call) → Answer call → Moment → Moment → Type 0
Leads level (serves call) answer m n = ServiceLeads call answer m n
Leads level (schedules present) answer m n = ScheduleStep level present.micros answer m n
Leads level works answer m n = WorkStep answer m n
