-- A history in which the bound is reached, for a session that is closed at its end and for its pool.
use Rattle.std.specs.Prelude.{◌≡◌, ℕ, ◌+◌, ◌-◌, ◌*◌, ◌≤◌, false, List, [], ◌∷◌, Some, None, Ok, Err, Option, refl}
use Rattle.std.proofs.Common.{lit≤}
use Rattle.bucket.specs.Buckets.{capacity, run_cost}
use Rattle.bucket.specs.Windows.{within}
use Rattle.history.specs.Calls.{serves, schedules, works}
use Rattle.history.specs.Histories.{Starts, Made, History, log_of}
use Rattle.history.specs.Logs.{sends_in, sent_for, sent_in, openings_in, pools_in}
use Rattle.scheduling.specs.declared.answer.Scheduled.{Scheduled}
use Rattle.service.specs.Faults.{refused}
use Rattle.service.specs.Moments.{Moment, makes_pool, opens, arrives, ends, closes, collects}
use Rattle.service.specs.Sound.{Present}
use Rattle.service.specs.declared.fault.ServiceWhy.TheVariants.{NotHandedBack}
use Rattle.service.specs.declared.rows.HandedBack.{HandedBack}
use Rattle.usage.specs.declared.ServiceRecord.{ServiceRecord}
use Rattle.values.specs.declared.direction.Direction.TheVariants.{Read}
use Rattle.values.specs.declared.extent.Extent.{Extent}
use Rattle.values.specs.declared.instant.Instant.{Instant}
use Rattle.values.specs.declared.io.Io.{Io}
use Rattle.values.specs.declared.io.Run.{Run}
use Rattle.values.specs.declared.rates.Rates.{Rates}
use Rattle.windows.specs.Law.{IsGiven, instants_for}

-- two runs at once, and then two a second
abbrev pub two : Rates
two = record { reserve = 0; limit = Some 2; burst = 2; allowed = refl }

-- the level of a service record: its runs sent when not due
abbrev pub even : ServiceRecord → ℕ
even usage = usage.not_due

-- one second, and half a second more
abbrev pub early : Instant
early = record { micros = 1000000; lawful = lit≤ tt }

abbrev pub late : Instant
late = record { micros = 1500000; lawful = lit≤ tt }

-- one sector at an address
abbrev pub sector : (address : ℕ) → address + 1 ≤ 4294967295 → Extent
sector address fits = record { address = address; length = 1; some = lit≤ tt; most = lit≤ tt; ends = fits }

-- three reads of session 0, none of which adjoins another
abbrev pub read_at : Extent → Io
read_at extent = record { session = 0; direction = Read; extent = extent }

abbrev pub first : Extent
first = sector 100 (lit≤ tt)

abbrev pub second : Extent
second = sector 300 (lit≤ tt)

abbrev pub third : Extent
third = sector 500 (lit≤ tt)

-- and the runs that they are sent as
abbrev pub run_of : ℕ → Extent → Run
run_of number extent = record { session = 0; first = number; count = 1; direction = Read; extent = extent }

abbrev pub back_of : ℕ → Extent → HandedBack
back_of number extent = record { run = run_of number extent; foreign = false }

-- what scheduling answers: how many runs were sent, none of them due, and the wake-up
abbrev pub answered : ℕ → Option ℕ → Scheduled
answered sent wake = record { sent = sent; due = 0; wake = wake }

-- The calls and their answers, the newest first. The third run is collected before the other two; closing is refused until all are back.
abbrev pub story : List Made
story =
    record { call = serves (closes 0); answer = Ok 0 }
    ∷ record { call = serves (collects 3 (back_of 2 third ∷ back_of 0 first ∷ []) (back_of 2 third ∷ back_of 0 first ∷ back_of 1 second ∷ [])); answer = Ok (back_of 1 second) }
    ∷ record { call = serves (collects 3 (back_of 2 third ∷ []) (back_of 2 third ∷ back_of 0 first ∷ [])); answer = Ok (back_of 0 first) }
    ∷ record { call = serves (collects 3 [] (back_of 2 third ∷ [])); answer = Ok (back_of 2 third) }
    ∷ record { call = serves (closes 0); answer = Err (refused NotHandedBack) }
    ∷ record { call = serves (ends 0); answer = Ok 0 }
    ∷ record { call = works; answer = 3 }
    ∷ record { call = schedules late; answer = Ok (answered 1 None) }
    ∷ record { call = schedules early; answer = Ok (answered 2 (Some 1500000)) }
    ∷ record { call = serves (arrives (read_at third)); answer = Ok 2 }
    ∷ record { call = serves (arrives (read_at second)); answer = Ok 1 }
    ∷ record { call = serves (arrives (read_at first)); answer = Ok 0 }
    ∷ record { call = serves (opens early 0 two); answer = Ok 0 }
    ∷ record { call = serves (makes_pool early two); answer = Ok 0 }
    ∷ []

-- the instants of its sends, the newest first
abbrev pub instants : List ℕ
instants = 1500000 ∷ 1000000 ∷ 1000000 ∷ []

pub record BoundReached : Type 0 where
  pub start : Moment
  pub last : Moment
  pub starts : Starts start
  pub happens : History even start story last
  -- session 0 was opened and pool 0 made with these rates, and both have the three sends
  pub opened : IsGiven (openings_in (log_of happens)) 0 two
  pub made : IsGiven (pools_in (log_of happens)) 0 two
  pub session_sends : instants_for sent_for (sends_in (log_of happens)) 0 ≡ instants
  pub pool_sends : instants_for sent_in (sends_in (log_of happens)) 0 ≡ instants
  -- three runs in half a second: as many as the law allows, for the session and for the pool
  pub three : within 1000000 1500000 instants ≡ 3
  pub session_bound : run_cost * within 1000000 1500000 (instants_for sent_for (sends_in (log_of happens)) 0) ≡ capacity two.burst + 2 * (1500000 - 1000000)
  pub pool_bound : run_cost * within 1000000 1500000 (instants_for sent_in (sends_in (log_of happens)) 0) ≡ capacity two.burst + 2 * (1500000 - 1000000)
  -- so are two at one instant
  pub at_once : run_cost * within 1000000 1000000 (instants_for sent_for (sends_in (log_of happens)) 0) ≡ capacity two.burst
  -- and in the end no session is present
  pub none_present : (k : ℕ) → Present last.tables k → ⊥
