-- The three places of an accepted I/O: waiting, inside the device, handed back.
use Rattle.std.specs.Prelude.{◌≡◌, ℕ, ◌+◌, ◌-◌, ◌≤◌, if◌then◌else◌, ◌&&◌, List, [], ◌∷◌, ◌++◌, map, length, take, drop, sum_by, count_by, ◌==◌, nat_eq, nat_le, nat_lt}
use Rattle.device.specs.Meaning.{Meaning}
use Rattle.heads.specs.Heads.{of_session}
use Rattle.history.specs.Logs.{Arrival, arrivals_in, backs_in}
use Rattle.history.specs.Steps.{Event}
use Rattle.service.specs.Moments.{Moment}
use Rattle.service.specs.declared.rows.HandedBack.{HandedBack}
use Rattle.std.specs.List.{range_with_len}
use Rattle.values.specs.Direction.{direction_number}
use Rattle.values.specs.declared.io.Io.{Io}
use Rattle.values.specs.declared.io.Run.{Run}

-- ---- accepted

-- the I/Os that a session's accepted arrivals gave, in their order: the one at place k has arrival number k
abbrev pub accepted_of : List Arrival → ℕ → List Io
accepted_of [] name = []
accepted_of (a ∷ arrivals) name = if a.io.session == name then accepted_of arrivals name ++ a.io ∷ [] else accepted_of arrivals name

abbrev pub accepted : List Event → ℕ → List Io
accepted log name = accepted_of (arrivals_in log) name

-- each arrival of the session was answered with its place among these
abbrev pub AnsweredRightly : ℕ → List Arrival → Type 0
AnsweredRightly name [] = Unit {0}
AnsweredRightly name (a ∷ arrivals) = (a.io.session ≡ name → a.number ≡ length (accepted_of arrivals name)) × AnsweredRightly name arrivals

-- ---- waiting

-- those of a session in the waiting line, in order, have its latest arrival numbers
abbrev pub waiting_numbers : List Io → List Io → List ℕ
waiting_numbers accepts waits = range_with_len (length accepts - length waits) (length waits)

-- how often the I/O of a session with a number waits
abbrev pub times_waiting : List Event → Moment → (name number : ℕ) → ℕ
times_waiting log m name number = count_by (λ k. nat_eq k number) (waiting_numbers (accepted log name) (of_session name m.waiting))

-- ---- in runs

-- a run has its session's I/Os from its first arrival number on, as many as its count
abbrev pub has_number : (name number : ℕ) → Run → ℕ
has_number name number run = if run.session == name && (nat_le run.first number && nat_lt number (run.first + run.count)) then 1 else 0

-- the runs inside a device, at work or done, and the runs that were handed back
abbrev pub held_in : Meaning → List Run
held_in d = d.working ++ d.done

abbrev pub handed_back : List HandedBack → List Run
handed_back backs = map (λ (b : HandedBack). b.run) backs

-- how often the I/O is in runs inside the device, and in runs handed back
abbrev pub times_inside : Moment → (name number : ℕ) → ℕ
times_inside m name number = sum_by (has_number name number) (held_in m.device)

abbrev pub times_back : List Event → (name number : ℕ) → ℕ
times_back log name number = sum_by (has_number name number) (handed_back (backs_in log))

-- ---- what a run is made of

-- these I/Os have this direction, the first begins at this address, and each other where the one before it ended
abbrev pub Adjoin : (direction address : ℕ) → List Io → Type 0
Adjoin direction address [] = Unit {0}
Adjoin direction address (io ∷ ios) = (direction_number io.direction ≡ direction) × (io.extent.address ≡ address) × Adjoin direction (address + io.extent.length) ios

-- so many I/Os, at least one, that adjoin and add up to so many sectors
pub record MakeUp (ios : List Io) (count direction address sectors : ℕ) : Type 0 where
  pub some : 1 ≤ count
  pub counted : length ios ≡ count
  pub adjoin : Adjoin direction address ios
  pub total : sum_by (λ (io : Io). io.extent.length) ios ≡ sectors

-- a run is made up of those I/Os of a session that have its numbers, each with the direction, address and length it was accepted with
abbrev pub MadeOf : List Io → Run → Type 0
MadeOf accepts run = MakeUp (take run.count (drop run.first accepts)) run.count (direction_number run.direction) run.extent.address run.extent.length

-- how many I/Os of a session a run has
abbrev pub count_for : ℕ → Run → ℕ
count_for name run = if run.session == name then run.count else 0
