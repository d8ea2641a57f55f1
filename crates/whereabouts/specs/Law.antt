-- Where every accepted I/O is, over whole runs.
use Rattle.std.specs.Prelude.{◌≡◌, ℕ, ◌+◌, ◌-◌, ◌<◌, ◌≤◌, true, false, if◌then◌else◌, List, length, drop, sum_by, nat_lt}
use Rattle.heads.specs.Heads.{of_session}
use Rattle.history.specs.Histories.{Law, EveryHistoryKeeps}
use Rattle.history.specs.Logs.{arrivals_in, backs_in}
use Rattle.history.specs.Steps.{Event}
use Rattle.service.specs.Moments.{Moment}
use Rattle.service.specs.Rows.{session, fits, PresentAs}
use Rattle.service.specs.declared.rows.Session.{Session}
use Rattle.std.specs.List.{AllByRecursion}
use Rattle.values.specs.declared.io.Run.{Run}
use Rattle.whereabouts.specs.Places.{accepted, AnsweredRightly, times_waiting, times_inside, times_back, held_in, handed_back, MadeOf, count_for}

-- the present session of a name stands at a place of the table
abbrev pub StandsAt : Moment → (name place : ℕ) → Type 0
StandsAt m name place = fits (PresentAs name) (session m.tables place) ≡ true

-- its row tells how many I/Os it had accepted, how many of these wait, and how many are inside
pub record RowTells (log : List Event) (m : Moment) (name : ℕ) (r : Session) : Type 0 where
  pub accepts : r.accepted ≡ length (accepted log name)
  pub waits : r.unsent ≡ length (of_session name m.waiting)
  pub holds : r.inside ≡ sum_by (count_for name) (held_in m.device)

-- the runs of a session among some runs are made up of its accepted I/Os
abbrev pub MadeFor : List Event → ℕ → List Run → Type 0
MadeFor log name runs = AllByRecursion (λ run. run.session ≡ name → MadeOf (accepted log name) run) runs

-- The I/Os of one session, present, closed or never opened.
pub record Whereabouts (name : ℕ) (log : List Event) (m : Moment) : Type 0 where
  -- every accepted I/O is waiting, inside the device or handed back, in exactly one of the three, once; and no other is in any
  pub once : (number : ℕ) → times_waiting log m name number + (times_inside m name number + times_back log name number) ≡ (if nat_lt number (length (accepted log name)) then 1 else 0)
  -- the arrivals were answered with the numbers that the I/Os are found under
  pub answered : AnsweredRightly name (arrivals_in log)
  -- those waiting are the last accepted, as they were accepted and in that order
  pub fewer : length (of_session name m.waiting) ≤ length (accepted log name)
  pub waiting : of_session name m.waiting ≡ drop (length (accepted log name) - length (of_session name m.waiting)) (accepted log name)
  -- those inside the device and handed back are in runs that are made up of them
  pub inside : MadeFor log name (held_in m.device)
  pub back : MadeFor log name (handed_back (backs_in log))
  -- the counts in a present session's row, and: of a session that is not present every accepted I/O is handed back
  pub told : (place : ℕ) → StandsAt m name place → RowTells log m name (session m.tables place)
  pub closed : ((place : ℕ) → StandsAt m name place → ⊥) → (number : ℕ) → number < length (accepted log name) → times_back log name number ≡ 1

-- the law of one session by itself
abbrev pub SessionLaw : ℕ → Law
SessionLaw name level start log m = Whereabouts name log m

-- and of all of them; beside that, no collected run was foreign
pub record AllFound (log : List Event) (m : Moment) : Type 0 where
  pub each : (name : ℕ) → Whereabouts name log m
  pub none_foreign : AllByRecursion (λ b. b.foreign ≡ false) (backs_in log)

abbrev pub WhereaboutsLaw : Law
WhereaboutsLaw level start log m = AllFound log m

-- at every moment of every history
abbrev pub AlwaysFound : Type 0
AlwaysFound = EveryHistoryKeeps WhereaboutsLaw

abbrev pub SessionAlwaysFound : Type 0
SessionAlwaysFound = (name : ℕ) → EveryHistoryKeeps (SessionLaw name)
