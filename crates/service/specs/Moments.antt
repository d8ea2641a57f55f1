-- Moments of a service with its waiting line and device, and what each call, with its answer, leads from and to.
use Rattle.std.specs.Prelude.{◌≡◌, ℕ, min, Bool, false, List, [], ◌∷◌, ◌++◌, length, Some, None, Ok, Err, Result, ◌==◌, nat_le}
use Rattle.device.specs.Meaning.{Meaning, Took}
use Rattle.line.specs.Line.{records_of}
use Rattle.values.specs.declared.instant.Instant.{Instant}
use Rattle.values.specs.declared.io.Io.{Io}
use Rattle.values.specs.declared.rates.Rates.{Rates}
use Rattle.service.specs.declared.fault.ServiceFault.{ServiceFault}
use Rattle.service.specs.declared.fault.ServiceWhy.TheVariants.{NoSuchSession}
use Rattle.service.specs.Rows.{OpenAs, session, first_fit}
use Rattle.service.specs.declared.rows.HandedBack.{HandedBack}
use Rattle.service.specs.declared.rows.Tables.{Tables}
use Rattle.service.specs.Calls.{pool_place, pool_made, open_place, session_opened, arrival_place, arrived, ended, close_place, closed, hand_back, CollectRefused}
use Rattle.service.specs.Faults.{refused}

-- the service's tables, how many places the waiting line's table has, the records in line, and what the device means
pub record Moment : Type 0 where
  pub tables : Tables
  pub places : ℕ
  pub waiting : List Io
  pub device : Meaning

abbrev pub moment_at : Tables → ℕ → List Io → Meaning → Moment
moment_at t places waiting device = record { tables = t; places = places; waiting = waiting; device = device }

-- the moment with a waiting line over a lent table
abbrev pub moment_of : Tables → List Io → ℕ → Meaning → Moment
moment_of t places len device = record { tables = t; places = length places; waiting = records_of places len; device = device }

abbrev pub with_tables : Moment → Tables → Moment
with_tables m t = record { tables = t; places = m.places; waiting = m.waiting; device = m.device }

-- the waiting line is full
abbrev pub full_at : Moment → Bool
full_at m = nat_le (min m.places 4096) (length m.waiting)

-- ---- each call, by its answer: what it says and what it leaves; a refusal leaves everything

abbrev pub PoolStep : ℕ → Rates → Result ℕ ServiceFault → Moment → Moment → Type 0
PoolStep micros rates (Ok number) m m' = (pool_place micros rates m.tables ≡ Ok number) × (m' ≡ with_tables m (pool_made micros rates m.tables number))
PoolStep micros rates (Err fault) m m' = (pool_place micros rates m.tables ≡ Err fault) × (m' ≡ m)

abbrev pub OpenStep : ℕ → ℕ → Rates → Result ℕ ServiceFault → Moment → Moment → Type 0
OpenStep micros number rates (Ok name) m m' = (i : ℕ) × (open_place micros number rates m.tables ≡ Ok i) × (name ≡ m.tables.opened) × (m' ≡ with_tables m (session_opened micros number rates m.tables i))
OpenStep micros number rates (Err fault) m m' = (open_place micros number rates m.tables ≡ Err fault) × (m' ≡ m)

-- the I/O stands behind those in line
abbrev pub arrived_moment : Moment → Io → ℕ → Moment
arrived_moment m io i = record { tables = arrived m.tables i; places = m.places; waiting = m.waiting ++ io ∷ []; device = m.device }

abbrev pub ArrivalStep : Io → Result ℕ ServiceFault → Moment → Moment → Type 0
ArrivalStep io (Ok number) m m' = (i : ℕ) × (arrival_place (full_at m) io m.tables ≡ Ok i) × (number ≡ (session m.tables i).accepted) × (m' ≡ arrived_moment m io i)
ArrivalStep io (Err fault) m m' = (arrival_place (full_at m) io m.tables ≡ Err fault) × (m' ≡ m)

abbrev pub EndStep : ℕ → Result ℕ ServiceFault → Moment → Moment → Type 0
EndStep name (Ok said) m m' = (i : ℕ) × (first_fit (OpenAs name) m.tables.sessions ≡ Some i) × (said ≡ name) × (m' ≡ with_tables m (ended m.tables i))
EndStep name (Err fault) m m' = (first_fit (OpenAs name) m.tables.sessions ≡ None) × (fault ≡ refused NoSuchSession) × (m' ≡ m)

abbrev pub CloseStep : ℕ → Result ℕ ServiceFault → Moment → Moment → Type 0
CloseStep name (Ok said) m m' = (i : ℕ) × (close_place name m.tables ≡ Ok i) × (said ≡ name) × (m' ≡ with_tables m (closed m.tables i))
CloseStep name (Err fault) m m' = (close_place name m.tables ≡ Err fault) × (m' ≡ m)

-- one done run, which one is open, left the device; with the records of the hand-back line, whose table has so many places, before and after
abbrev pub CollectStep : ℕ → List HandedBack → List HandedBack → Result HandedBack ServiceFault → Moment → Moment → Type 0
CollectStep room line line' (Ok back) m m' =
    ((length line == room) ≡ false)
    × Took m.device back.run m'.device
    × (back ≡ (hand_back back.run m.tables).0)
    × (m' ≡ record { tables = (hand_back back.run m.tables).1; places = m.places; waiting = m.waiting; device = m'.device })
    × (line' ≡ line ++ back ∷ [])
CollectStep room line line' (Err fault) m m' = CollectRefused (length line == room) m.device.done fault × (m' ≡ m) × (line' ≡ line)

-- ---- any of the calls

pub data Call : Type 0 where
  makes_pool : Instant → Rates → Call
  opens : Instant → (number : ℕ) → Rates → Call
  arrives : Io → Call
  ends : (name : ℕ) → Call
  closes : (name : ℕ) → Call
  collects : (room : ℕ) → List HandedBack → List HandedBack → Call

-- what a call answers
abbrev pub Answer : Call → Type 0
Answer (makes_pool present rates) = Result ℕ ServiceFault
Answer (opens present number rates) = Result ℕ ServiceFault
Answer (arrives io) = Result ℕ ServiceFault
Answer (ends name) = Result ℕ ServiceFault
Answer (closes name) = Result ℕ ServiceFault
Answer (collects room line line') = Result HandedBack ServiceFault

-- this call, with this answer, leads from this moment to that one
abbrev pub Leads : (call : Call) → Answer call → Moment → Moment → Type 0
Leads (makes_pool present rates) r m m' = PoolStep present.micros rates r m m'
Leads (opens present number rates) r m m' = OpenStep present.micros number rates r m m'
Leads (arrives io) r m m' = ArrivalStep io r m m'
Leads (ends name) r m m' = EndStep name r m m'
Leads (closes name) r m m' = CloseStep name r m m'
Leads (collects room line line') r m m' = CollectStep room line line' r m m'
