-- A history in which the bounds of the passing law are reached.
-- Pool 0 is made and session 0 opened in it, then pool 1 made and session 1 opened in it, all with the same rates at instant 0: their marks
-- fall on the same instant, and go first in that order. When it has come session 2 is opened in pool 0, and sends first, by its
-- pool's mark; then session 0, which had nothing waiting before, sends by its own.
use Rattle.std.proofs.Common.{◌≡◌, ℕ, true, false, List, [], ◌∷◌, None, Ok, count_by, refl, arith, lit≤}
use Rattle.choosing.specs.Picks.{some_of}
use Rattle.choosing.specs.declared.choose.Choice.{Choice}
use Rattle.history.proofs.Courses.{course_of}
use Rattle.history.specs.Calls.{serves, schedules, works}
use Rattle.history.specs.Histories.{Made, History, making, next, log_of}
use Rattle.passing.specs.Example.{BoundsReached}
use Rattle.passing.specs.Law.{passes_session, passes_pool}
use Rattle.scheduling.specs.Scheduling.{Sent, accepted_at, none, more}
use Rattle.scheduling.specs.Sending.{Sends, next_choice, sent_tables, sent_line}
use Rattle.service.specs.Calls.{new_tables, pool_made, session_opened, hand_back}
use Rattle.service.specs.Moments.{Moment, makes_pool, opens, arrives, collects, with_tables, arrived_moment}
use Rattle.service.specs.declared.rows.HandedBack.{HandedBack}
use Rattle.usage.specs.declared.ServiceRecord.{ServiceRecord}
use Rattle.values.specs.declared.direction.Direction.TheVariants.{Read}
use Rattle.values.specs.declared.extent.Extent.{Extent}
use Rattle.values.specs.declared.instant.Instant.{Instant}
use Rattle.values.specs.declared.io.Io.{Io}
use Rattle.values.specs.declared.io.Run.{Run}
use Rattle.values.specs.declared.rates.Rates.{Rates}

-- ---- numbers

-- by how many runs were sent when not due
abbrev even : ServiceRecord → ℕ
even u = u.not_due

-- a reserve of one run a second, and none
abbrev some_reserve : Rates
some_reserve = record { reserve = 1; limit = None; burst = 1; allowed = refl }

abbrev no_reserve : Rates
no_reserve = record { reserve = 0; limit = None; burst = 1; allowed = refl }

-- the beginning, and a second later
abbrev first : Instant
first = record { micros = 0; lawful = lit≤ tt }

abbrev second : Instant
second = record { micros = 1000000; lawful = lit≤ tt }

-- one sector
abbrev sector : Extent
sector = record { address = 0; length = 1; some = lit≤ tt; most = lit≤ tt; ends = lit≤ tt }

abbrev io_of : ℕ → Io
io_of name = record { session = name; direction = Read; extent = sector }

abbrev run_of : ℕ → Run
run_of name = record { session = name; first = 0; count = 1; direction = Read; extent = sector }

-- ---- moments

abbrev m0 : Moment
m0 = record { tables = new_tables 2 1; places = 4; waiting = []; device = record { working = []; done = []; depth = 1 } }

abbrev m1 : Moment
m1 = with_tables m0 (pool_made 0 some_reserve m0.tables 0)

abbrev m2 : Moment
m2 = with_tables m1 (session_opened 0 0 some_reserve m1.tables 0)

abbrev m3 : Moment
m3 = with_tables m2 (pool_made 0 some_reserve m2.tables 1)

abbrev m4 : Moment
m4 = with_tables m3 (session_opened 0 1 some_reserve m3.tables 1)

abbrev m5 : Moment
m5 = accepted_at 1000000 m4

abbrev m6 : Moment
m6 = with_tables m5 (session_opened 1000000 0 no_reserve m5.tables 2)

abbrev m7 : Moment
m7 = arrived_moment m6 (io_of 1) 1

abbrev m8 : Moment
m8 = arrived_moment m7 (io_of 2) 2

-- one run at work, and then done
abbrev m9 : Moment
m9 = record { tables = sent_tables m8.tables 2 true 1; places = 4; waiting = sent_line m8 2 1; device = record { working = run_of 2 ∷ []; done = []; depth = 1 } }

abbrev m10 : Moment
m10 = record { tables = m9.tables; places = 4; waiting = m9.waiting; device = record { working = []; done = run_of 2 ∷ []; depth = 1 } }

abbrev m11 : Moment
m11 = record { tables = (hand_back (run_of 2) m10.tables).1; places = 4; waiting = m10.waiting; device = record { working = []; done = []; depth = 1 } }

abbrev m12 : Moment
m12 = arrived_moment m11 (io_of 0) 0

abbrev m13 : Moment
m13 = record { tables = sent_tables m12.tables 0 true 1; places = 4; waiting = sent_line m12 0 1; device = record { working = run_of 0 ∷ []; done = []; depth = 1 } }

-- ---- the two sends

abbrev from_2 : Choice
from_2 = record { place = 2; due = true }

abbrev from_0 : Choice
from_0 = record { place = 0; due = true }

sends_2 : Sends even m8 from_2 (run_of 2) m9
sends_2 = record {
  goes = refl;
  head = record { count = 1; direction = 0; address = 0; length = 1 };
  usable = refl;
  sent_as = record { session_is = refl; first_is = refl; count_is = refl; direction_is = refl; address_is = refl; length_is = refl };
  put = record { room = lit≤ tt; working = λ weight. refl; done = λ weight. refl; depth = refl };
  leaves = refl;
}

sends_0 : Sends even m12 from_0 (run_of 0) m13
sends_0 = record {
  goes = refl;
  head = record { count = 1; direction = 0; address = 0; length = 1 };
  usable = refl;
  sent_as = record { session_is = refl; first_is = refl; count_is = refl; direction_is = refl; address_is = refl; length_is = refl };
  put = record { room = lit≤ tt; working = λ weight. refl; done = λ weight. refl; depth = refl };
  leaves = refl;
}

-- the same as the log has them
abbrev sent_2 : Sent
sent_2 = record { before = m8; choice = from_2; run = run_of 2 }

abbrev sent_0 : Sent
sent_0 = record { before = m12; choice = from_0; run = run_of 0 }

-- ---- the calls and what they answer

abbrev answers : (sent : ℕ) → Made
answers sent = record { call = schedules second; answer = Ok (record { sent = sent; due = sent; wake = None }) }

abbrev makes : (number : ℕ) → Made
makes number = record { call = serves (makes_pool first some_reserve); answer = Ok number }

abbrev opens_in : Instant → (number : ℕ) → Rates → (name : ℕ) → Made
opens_in present number rates name = record { call = serves (opens present number rates); answer = Ok name }

abbrev arrives_of : (name : ℕ) → Made
arrives_of name = record { call = serves (arrives (io_of name)); answer = Ok 0 }

abbrev works_one : Made
works_one = record { call = works; answer = 1 }

abbrev back : HandedBack
back = record { run = run_of 2; foreign = false }

abbrev collects_one : Made
collects_one = record { call = serves (collects 1 [] (back ∷ [])); answer = Ok back }

abbrev early_calls : List Made
early_calls = answers 0 ∷ opens_in first 1 some_reserve 1 ∷ makes 1 ∷ opens_in first 0 some_reserve 0 ∷ makes 0 ∷ []

-- nothing waits
idle : next_choice even m5 ≡ None
unfolding some_of
idle = refl

-- up to the moment at which all marks have come
abbrev before : History even m0 early_calls m5
before =
    next {m = m4} {n = m5}
    (next {m = m3} {n = m4}
    (next {m = m2} {n = m3}
    (next {m = m1} {n = m2}
    (next {m = m0} {n = m1} making
    (makes 0) (refl, refl))
    (opens_in first 0 some_reserve 0) (0, refl, refl, refl))
    (makes 1) (refl, refl))
    (opens_in first 1 some_reserve 1) (1, refl, refl, refl))
    (answers 0) (record { lawful = refl; sends = []; chain = none; over = idle; sent_is = refl; due_is = refl; wake_is = refl })

-- from there on
abbrev on : (start : Moment) (past : List Made) → History even start past m5 → History even start (answers 1 ∷ arrives_of 0 ∷ collects_one ∷ works_one ∷ answers 1 ∷ arrives_of 2 ∷ arrives_of 1 ∷ opens_in second 0 no_reserve 2 ∷ past) m13
on start past h =
    next {m = m12} {n = m13}
    (next {m = m11} {n = m12}
    (next {m = m10} {n = m11}
    (next {m = m9} {n = m10}
    (next {m = m8} {n = m9}
    (next {m = m7} {n = m8}
    (next {m = m6} {n = m7}
    (next {m = m5} {n = m6} h
    (opens_in second 0 no_reserve 2) (2, refl, refl, refl))
    (arrives_of 1) (1, refl, refl, refl))
    (arrives_of 2) (2, refl, refl, refl))
    (answers 1) (record { lawful = refl; sends = sent_2 ∷ []; chain = more none sends_2; over = refl; sent_is = refl; due_is = refl; wake_is = refl }))
    works_one (record { worked = record { moved = run_of 2 ∷ []; many = refl; working = λ weight. refl; done = λ weight. refl; depth = refl }; leaves = refl }))
    collects_one (refl, record { working = λ weight. refl; done = λ weight. refl; depth = refl }, refl, refl, refl))
    (arrives_of 0) (0, refl, refl, refl))
    (answers 1) (record { lawful = refl; sends = sent_0 ∷ []; chain = more none sends_0; over = refl; sent_is = refl; due_is = refl; wake_is = refl })

-- ---- who is passed

-- session 1, in pool 1, waits at both sends
passed_twice : count_by (passes_session 1) (sent_0 ∷ sent_2 ∷ []) ≡ 2
unfolding some_of
passed_twice = refl

pool_passed_twice : count_by (passes_pool 1) (sent_0 ∷ sent_2 ∷ []) ≡ 2
unfolding some_of
pool_passed_twice = refl

pub reached : BoundsReached
reached = record {
  level = even;
  start = m0;
  starts = record { throughput = 2; most = 1; tables = refl; waiting = refl; working = refl; done = refl };
  past = _;
  last = m13;
  history = on m0 early_calls before;
  late = log_of (on m5 [] making);
  early = log_of before;
  from = m5;
  parted = refl;
  came = course_of before;
  went = course_of (on m5 [] making);
  place = 1;
  stands = refl;
  due = refl;
  unsent = ((λ e. omega arith), ((λ e. omega arith), tt));
  one_session = refl;
  one_pool = refl;
  passed_twice = passed_twice;
  rival = 0;
  rival_stands = refl;
  rival_due = refl;
  rival_apart = λ e. omega arith;
  made = lit≤ tt;
  pool_due = refl;
  pool_unsent = ((λ e. omega arith), ((λ e. omega arith), tt));
  one_outside = refl;
  pool_passed_twice = pool_passed_twice;
}
