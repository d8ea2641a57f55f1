-- A history that leads through all three places, so that the law is not an empty one.
use Rattle.std.specs.Prelude.{◌≡◌, ℕ, ◌+◌, ◌≤◌, false, List, [], ◌∷◌, map, None, Ok, refl}
use Rattle.std.proofs.Common.{lit≤}
use Rattle.history.specs.Calls.{serves, schedules, works}
use Rattle.history.specs.Histories.{Starts, Made, History, log_of}
use Rattle.history.specs.Logs.{sends_in, backs_in}
use Rattle.scheduling.specs.Scheduling.{Sent}
use Rattle.service.specs.Moments.{Moment, Call as ServiceCall, Answer as ServiceAnswer, makes_pool, opens, arrives, ends, closes, collects}
use Rattle.service.specs.Rows.{session, is_present}
use Rattle.service.specs.declared.rows.HandedBack.{HandedBack}
use Rattle.sharing.specs.Levels.{even_level}
use Rattle.values.specs.declared.direction.Direction.TheVariants.{Write}
use Rattle.values.specs.declared.extent.Extent.{Extent}
use Rattle.values.specs.declared.instant.Instant.{Instant}
use Rattle.values.specs.declared.io.Io.{Io}
use Rattle.values.specs.declared.io.Run.{Run}
use Rattle.values.specs.declared.rates.Rates.{Rates}
use Rattle.whereabouts.specs.Places.{accepted, handed_back, times_back}

abbrev pub extent : (address length : ℕ) → 1 ≤ length → length ≤ 64 → address + length ≤ 4294967295 → Extent
extent address length some most lawful = record { address = address; length = length; some = some; most = most; ends = lawful }

abbrev pub writes : Extent → Io
writes e = record { session = 0; direction = Write; extent = e }

-- 32 sectors at 100, 32 that adjoin them, and one that adjoins these and would be the 65th
abbrev pub first : Io
first = writes (extent 100 32 (lit≤ tt) (lit≤ tt) (lit≤ tt))

abbrev pub second : Io
second = writes (extent 132 32 (lit≤ tt) (lit≤ tt) (lit≤ tt))

abbrev pub third : Io
third = writes (extent 164 1 (lit≤ tt) (lit≤ tt) (lit≤ tt))

-- the two runs that they are sent as
abbrev pub both : Run
both = record { session = 0; first = 0; count = 2; direction = Write; extent = extent 100 64 (lit≤ tt) (lit≤ tt) (lit≤ tt) }

abbrev pub alone : Run
alone = record { session = 0; first = 2; count = 1; direction = Write; extent = extent 164 1 (lit≤ tt) (lit≤ tt) (lit≤ tt) }

abbrev pub own : Run → HandedBack
own run = record { run = run; foreign = false }

-- no reserve, no limit
abbrev pub plain : Rates
plain = record { reserve = 0; limit = None; burst = 1; allowed = refl }

abbrev pub at_zero : Instant
at_zero = record { micros = 0; lawful = lit≤ tt }

abbrev pub call : (c : ServiceCall) → ServiceAnswer c → Made
call c answer = record { call = serves c; answer = answer }

-- the calls, the newest first: three I/Os of one session are sent as two runs, come back in the other order, and the session is closed
abbrev pub story : List Made
story =
    call (closes 0) (Ok 0)
    ∷ call (ends 0) (Ok 0)
    ∷ call (collects 1 [] (own both ∷ [])) (Ok (own both))
    ∷ call (collects 1 [] (own alone ∷ [])) (Ok (own alone))
    ∷ record { call = works; answer = 2 }
    ∷ record { call = schedules at_zero; answer = Ok (record { sent = 2; due = 0; wake = None }) }
    ∷ call (arrives third) (Ok 2)
    ∷ call (arrives second) (Ok 1)
    ∷ call (arrives first) (Ok 0)
    ∷ call (opens at_zero 0 plain) (Ok 0)
    ∷ call (makes_pool at_zero plain) (Ok 0)
    ∷ []

pub record ThroughAllPlaces : Type 0 where
  pub start : Moment
  pub starts : Starts start
  pub end : Moment
  pub history : History even_level start story end
  pub three : accepted (log_of history) 0 ≡ first ∷ second ∷ third ∷ []
  pub sent_so : map (λ (s : Sent). s.run) (sends_in (log_of history)) ≡ alone ∷ both ∷ []
  pub back_so : handed_back (backs_in (log_of history)) ≡ both ∷ alone ∷ []
  pub gone : is_present (session end.tables 0).state ≡ false
  pub each_back : (times_back (log_of history) 0 0 ≡ 1) × (times_back (log_of history) 0 1 ≡ 1) × (times_back (log_of history) 0 2 ≡ 1)
