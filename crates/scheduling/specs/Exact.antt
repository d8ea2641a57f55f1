-- What the scheduling call does to its device and its lent line exactly, and to the head runs that it keeps while it sends.
use Rattle.std.specs.Prelude.{◌≡◌, ℕ, ◌<◌, Bool, true, List, [], ◌∷◌, length, drop, Some, None, Ok, Err, Option, Result, nat_lt}
use Rattle.choosing.specs.Free.{run_at}
use Rattle.choosing.specs.declared.choose.Choice.{Choice}
use Rattle.heads.specs.declared.head.Head.{Head}
use Rattle.service.specs.Faults.{refused}
use Rattle.service.specs.Moments.{Moment}
use Rattle.service.specs.declared.fault.ServiceFault.{ServiceFault}
use Rattle.service.specs.declared.fault.ServiceWhy.TheVariants.{InstantBefore}
use Rattle.usage.specs.declared.ServiceRecord.{ServiceRecord}
use Rattle.values.specs.declared.io.Io.{Io}
use Rattle.values.specs.declared.io.Run.{Run}
use Rattle.scheduling.specs.declared.answer.Scheduled.{Scheduled}
use Rattle.scheduling.specs.Scheduling.{Sent, Chain, due_in, Schedules}
use Rattle.scheduling.specs.Sending.{head_at, next_choice, Sends}

-- an array of heads has the head run of each place
abbrev pub HeadsRight : Moment → List (Option Head) → Type 0
HeadsRight m heads = (k : ℕ) → k < 64 → run_at heads k ≡ head_at m k

-- a lent table has as many places as before, and those past the 4,096th are as they were
abbrev pub PastKept : List Io → List Io → Type 0
PastKept places places' = (length places' ≡ length places) × (drop 4096 places' ≡ drop 4096 places)

-- the device was put the runs of these sends, one after the other in their order, and each exactly as it puts runs
abbrev pub PutInOrder : {D : Type 0} → (D → Run → D → Type 0) → D → List Sent → D → Type 0
PutInOrder puts d [] e = e ≡ d
PutInOrder {D} puts d (s ∷ sends) f = (e : D) × PutInOrder puts d sends e × puts e s.run f

-- one send, due or not
pub record OneSent {D : Type 0} (puts : D → Run → D → Type 0) (level : ServiceRecord → ℕ) (m n : Moment) (d e : D) (due : Bool) : Type 0 where
  pub choice : Choice
  pub run : Run
  pub sends : Sends level m choice run n
  pub due_is : due ≡ choice.due
  pub exact : puts d run e

-- the session that goes next was sent from; or none can go, and nothing changed
abbrev pub NextSent : {D : Type 0} → (D → Run → D → Type 0) → (ServiceRecord → ℕ) → Option Bool → Moment → Moment → D → D → Type 0
NextSent puts level None m n d e = (next_choice level m ≡ None) × (n ≡ m) × (e ≡ d)
NextSent puts level (Some due) m n d e = OneSent puts level m n d e due

-- some sends, from one moment to another, put on the device in this order
pub record SentSoFar {D : Type 0} (puts : D → Run → D → Type 0) (level : ServiceRecord → ℕ) (m n : Moment) (d e : D) (sent due : ℕ) : Type 0 where
  pub sends : List Sent
  pub chain : Chain level m sends n
  pub sent_is : sent ≡ length sends
  pub due_is : due ≡ due_in sends
  pub in_order : PutInOrder puts d sends e

-- The scheduling call by its answer, with the device: reached from the one it found by exactly the puts of its sends, in their order;
-- refused where the instant is before the latest accepted, and then nothing changed.
abbrev pub ScheduledOn : {D : Type 0} → (D → Run → D → Type 0) → (ServiceRecord → ℕ) → ℕ → Result Scheduled ServiceFault → Moment → Moment → D → D → Type 0
ScheduledOn puts level micros (Ok answer) m n d e = (step : Schedules level micros answer m n) × PutInOrder puts d step.sends e
ScheduledOn puts level micros (Err fault) m n d e = (nat_lt micros m.tables.latest ≡ true) × (fault ≡ refused InstantBefore) × (n ≡ m) × (e ≡ d)
