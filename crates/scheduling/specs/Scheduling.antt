-- The scheduling call: single sends, one after the other, until none can go.
use Rattle.std.specs.Prelude.{◌≡◌, ℕ, ◌+◌, true, false, if◌then◌else◌, List, [], ◌∷◌, length, None, Ok, Err, Result, nat_lt}
use Rattle.choosing.specs.Wake.{wake_at}
use Rattle.choosing.specs.declared.choose.Choice.{Choice}
use Rattle.service.specs.Faults.{refused}
use Rattle.service.specs.Moments.{Moment, with_tables}
use Rattle.service.specs.declared.fault.ServiceFault.{ServiceFault}
use Rattle.service.specs.declared.fault.ServiceWhy.TheVariants.{InstantBefore}
use Rattle.service.specs.declared.rows.Tables.{Tables}
use Rattle.usage.specs.declared.ServiceRecord.{ServiceRecord}
use Rattle.values.specs.declared.io.Run.{Run}
use Rattle.scheduling.specs.declared.answer.Scheduled.{Scheduled}
use Rattle.scheduling.specs.Sending.{next_choice, head_at, Sends}

-- the tables with another latest accepted instant, and the moment with them
abbrev pub latest_at : ℕ → Tables → Tables
latest_at micros t = record t { latest = micros }

abbrev pub accepted_at : ℕ → Moment → Moment
accepted_at micros m = with_tables m (latest_at micros m.tables)

-- a single send as a log has it: the moment just before, which session was chosen and how, and the run put on the device
pub record Sent : Type 0 where
  pub before : Moment
  pub choice : Choice
  pub run : Run

-- single sends from one moment to another, the newest first
pub data Chain (level : ServiceRecord → ℕ) (m : Moment) : List Sent → Moment → Type 0 where
  none : Chain level m [] m
  more : {sends : List Sent} {n o : Moment} {choice : Choice} {run : Run} → Chain level m sends n → Sends level n choice run o → Chain level m (record { before = n; choice = choice; run = run } ∷ sends) o

-- how many of some sends were due: chosen by effective mark
abbrev pub due_in : List Sent → ℕ
due_in [] = 0
due_in (s ∷ sends) = (if s.choice.due then 1 else 0) + due_in sends

-- An accepted scheduling call: its instant is accepted, then come its single sends until the device holds its most or no session is
-- free to go; it answers how many there were, how many of them due, and the wake-up after the last.
pub record Schedules (level : ServiceRecord → ℕ) (micros : ℕ) (answer : Scheduled) (m n : Moment) : Type 0 where
  pub lawful : nat_lt micros m.tables.latest ≡ false
  pub sends : List Sent
  pub chain : Chain level (accepted_at micros m) sends n
  pub over : next_choice level n ≡ None
  pub sent_is : answer.sent ≡ length sends
  pub due_is : answer.due ≡ due_in sends
  pub wake_is : answer.wake ≡ wake_at n.tables (head_at n) micros

-- the call by its answer: refused where the instant is before the latest accepted, and then nothing changes
abbrev pub ScheduleStep : (ServiceRecord → ℕ) → ℕ → Result Scheduled ServiceFault → Moment → Moment → Type 0
ScheduleStep level micros (Ok answer) m n = Schedules level micros answer m n
ScheduleStep level micros (Err fault) m n = (nat_lt micros m.tables.latest ≡ true) × (fault ≡ refused InstantBefore) × (n ≡ m)
