-- The single steps that calls are made of, and courses of them.
use Rattle.std.specs.Prelude.{◌≡◌, ℕ, ◌≤◌, List, [], ◌∷◌, Ok}
use Rattle.device.specs.Meaning.{Took}
use Rattle.scheduling.specs.Scheduling.{Sent, accepted_at}
use Rattle.scheduling.specs.Sending.{Sends}
use Rattle.service.specs.Calls.{hand_back}
use Rattle.service.specs.Moments.{Moment, PoolStep, OpenStep, ArrivalStep, EndStep, CloseStep}
use Rattle.service.specs.declared.rows.HandedBack.{HandedBack}
use Rattle.usage.specs.declared.ServiceRecord.{ServiceRecord}
use Rattle.values.specs.declared.io.Io.{Io}
use Rattle.values.specs.declared.rates.Rates.{Rates}
use Rattle.history.specs.Calls.{WorkStep}

-- what happened, as a log has it
pub data Event : Type 0 where
  -- the instant of a call was accepted: a step of its own, before what the call adds
  Accepting : (micros : ℕ) → Event
  -- the pool of this number was made, with these rates
  Making : (number : ℕ) → Rates → Event
  -- the session of this name was opened in the pool of this number, with these rates
  Opening : (name number : ℕ) → Rates → Event
  -- the I/O was accepted, and got this arrival number
  Arriving : Io → (number : ℕ) → Event
  -- a run was sent
  Sending : Sent → Event
  -- the device moved so many runs from at work to done
  Working : (count : ℕ) → Event
  -- a run was taken off the device and handed back
  Collecting : HandedBack → Event
  -- the session of this name was ended, or closed
  Ending : (name : ℕ) → Event
  Closing : (name : ℕ) → Event

-- an instant is accepted that is lawful and not before the latest
pub record Accepts (m : Moment) (micros : ℕ) (n : Moment) : Type 0 where
  pub later : m.tables.latest ≤ micros
  pub lawful : micros ≤ 1099511627775
  pub leaves : n ≡ accepted_at micros m

-- one done run leaves the device, and is counted as handed back unless it is foreign
pub record Collects (m : Moment) (back : HandedBack) (n : Moment) : Type 0 where
  pub took : Took m.device back.run n.device
  pub back_is : back ≡ (hand_back back.run m.tables).0
  pub leaves : n ≡ record { tables = (hand_back back.run m.tables).1; places = m.places; waiting = m.waiting; device = n.device }

-- a send, whose moment before is this one
pub record SendStep (level : ServiceRecord → ℕ) (m : Moment) (sent : Sent) (n : Moment) : Type 0 where
  pub before_is : sent.before ≡ m
  pub sends : Sends level m sent.choice sent.run n

-- What each event leads from and to: the steps of the calls themselves, at the latest accepted instant.
abbrev pub Step : (ServiceRecord → ℕ) → Moment → Event → Moment → Type 0
Step level m (Accepting micros) n = Accepts m micros n
Step level m (Making number rates) n = PoolStep m.tables.latest rates (Ok number) m n
Step level m (Opening name number rates) n = OpenStep m.tables.latest number rates (Ok name) m n
Step level m (Arriving io number) n = ArrivalStep io (Ok number) m n
Step level m (Sending sent) n = SendStep level m sent n
Step level m (Working count) n = WorkStep count m n
Step level m (Collecting back) n = Collects m back n
Step level m (Ending name) n = EndStep name (Ok name) m n
Step level m (Closing name) n = CloseStep name (Ok name) m n

-- one step after the other from a moment on: the log, the newest first, and the moment that it comes to
pub data Course (level : ServiceRecord → ℕ) (start : Moment) : List Event → Moment → Type 0 where
  begins : Course level start [] start
  goes_on : {log : List Event} {m : Moment} {event : Event} {n : Moment} → Course level start log m → Step level m event n → Course level start (event ∷ log) n

-- what is said of the log so far and the moment it led to holds at every moment of a course, its beginning among them
abbrev pub AtEvery : {level : ServiceRecord → ℕ} {start : Moment} {log : List Event} {m : Moment} → (List Event → Moment → Type 0) → Course level start log m → Type 0
AtEvery {start = start} Says begins = Says [] start
AtEvery {log = log} {m = m} Says (goes_on c s) = Says log m × AtEvery Says c
