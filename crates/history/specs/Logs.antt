-- What a log says of sends, openings, pools made, arrivals and collections, each the newest first.
use Rattle.std.specs.Prelude.{ℕ, List, [], ◌∷◌}
use Rattle.scheduling.specs.Scheduling.{Sent}
use Rattle.service.specs.Rows.{session}
use Rattle.service.specs.declared.rows.HandedBack.{HandedBack}
use Rattle.values.specs.declared.io.Io.{Io}
use Rattle.values.specs.declared.rates.Rates.{Rates}
use Rattle.history.specs.Steps.{Event, Accepting, Making, Opening, Arriving, Sending, Working, Collecting, Ending, Closing}

-- ---- sends

abbrev pub sends_in : List Event → List Sent
sends_in [] = []
sends_in (Accepting micros ∷ log) = sends_in log
sends_in (Making number rates ∷ log) = sends_in log
sends_in (Opening name number rates ∷ log) = sends_in log
sends_in (Arriving io number ∷ log) = sends_in log
sends_in (Sending sent ∷ log) = sent ∷ sends_in log
sends_in (Working count ∷ log) = sends_in log
sends_in (Collecting back ∷ log) = sends_in log
sends_in (Ending name ∷ log) = sends_in log
sends_in (Closing name ∷ log) = sends_in log

-- the session whose run was sent, its pool, and the instant: that of the call, which is the latest accepted
abbrev pub sent_for : Sent → ℕ
sent_for s = s.run.session

abbrev pub sent_in : Sent → ℕ
sent_in s = (session s.before.tables s.choice.place).pool

abbrev pub instant_of : Sent → ℕ
instant_of s = s.before.tables.latest

-- ---- rates that were given

-- a session's name or a pool's number, and the rates that it was opened or made with
pub record Given : Type 0 where
  pub number : ℕ
  pub rates : Rates

abbrev pub openings_in : List Event → List Given
openings_in [] = []
openings_in (Accepting micros ∷ log) = openings_in log
openings_in (Making number rates ∷ log) = openings_in log
openings_in (Opening name number rates ∷ log) = record { number = name; rates = rates } ∷ openings_in log
openings_in (Arriving io number ∷ log) = openings_in log
openings_in (Sending sent ∷ log) = openings_in log
openings_in (Working count ∷ log) = openings_in log
openings_in (Collecting back ∷ log) = openings_in log
openings_in (Ending name ∷ log) = openings_in log
openings_in (Closing name ∷ log) = openings_in log

abbrev pub pools_in : List Event → List Given
pools_in [] = []
pools_in (Accepting micros ∷ log) = pools_in log
pools_in (Making number rates ∷ log) = record { number = number; rates = rates } ∷ pools_in log
pools_in (Opening name number rates ∷ log) = pools_in log
pools_in (Arriving io number ∷ log) = pools_in log
pools_in (Sending sent ∷ log) = pools_in log
pools_in (Working count ∷ log) = pools_in log
pools_in (Collecting back ∷ log) = pools_in log
pools_in (Ending name ∷ log) = pools_in log
pools_in (Closing name ∷ log) = pools_in log

-- ---- I/Os

-- an accepted I/O, and the arrival number that the call answered
pub record Arrival : Type 0 where
  pub io : Io
  pub number : ℕ

abbrev pub arrivals_in : List Event → List Arrival
arrivals_in [] = []
arrivals_in (Accepting micros ∷ log) = arrivals_in log
arrivals_in (Making number rates ∷ log) = arrivals_in log
arrivals_in (Opening name number rates ∷ log) = arrivals_in log
arrivals_in (Arriving io number ∷ log) = record { io = io; number = number } ∷ arrivals_in log
arrivals_in (Sending sent ∷ log) = arrivals_in log
arrivals_in (Working count ∷ log) = arrivals_in log
arrivals_in (Collecting back ∷ log) = arrivals_in log
arrivals_in (Ending name ∷ log) = arrivals_in log
arrivals_in (Closing name ∷ log) = arrivals_in log

-- the runs that were handed back
abbrev pub backs_in : List Event → List HandedBack
backs_in [] = []
backs_in (Accepting micros ∷ log) = backs_in log
backs_in (Making number rates ∷ log) = backs_in log
backs_in (Opening name number rates ∷ log) = backs_in log
backs_in (Arriving io number ∷ log) = backs_in log
backs_in (Sending sent ∷ log) = backs_in log
backs_in (Working count ∷ log) = backs_in log
backs_in (Collecting back ∷ log) = back ∷ backs_in log
backs_in (Ending name ∷ log) = backs_in log
backs_in (Closing name ∷ log) = backs_in log
