-- Each call of the story, done.
use Rattle.std.proofs.Common.{◌≡◌, ℕ, ◌+◌, false, List, [], ◌∷◌, replicate, Some, None, Ok, Err, refl, inl, arith, lit≤}
use Rattle.account.specs.declared.row.Account.{Account}
use Rattle.choosing.specs.Picks.{some_of}
use Rattle.choosing.specs.Wake.{wake_at}
use Rattle.choosing.specs.declared.choose.Choice.{Choice}
use Rattle.device.specs.Meaning.{Meaning}
use Rattle.heads.specs.Heads.{HeadRun}
use Rattle.history.specs.Calls.{serves, schedules, works, Leads}
use Rattle.history.specs.Histories.{making, next}
use Rattle.scheduling.specs.Scheduling.{Sent, none, more}
use Rattle.scheduling.specs.Sending.{head_at, next_choice, Sends}
use Rattle.service.specs.Calls.{new_tables}
use Rattle.service.specs.Faults.{refused}
use Rattle.service.specs.Moments.{Moment, makes_pool, opens, arrives, ends, closes, collects}
use Rattle.service.specs.Rows.{session, free_place, no_pool, is_present}
use Rattle.service.specs.declared.fault.ServiceWhy.TheVariants.{NotHandedBack}
use Rattle.service.specs.declared.rows.Session.{Session}
use Rattle.service.specs.declared.rows.State.{State}
use Rattle.service.specs.declared.rows.State.TheVariants.{Open, Ended}
use Rattle.service.specs.declared.rows.Tables.{Tables}
use Rattle.std.proofs.lemmas.Bool.{both_ways}
use Rattle.usage.specs.declared.ServiceRecord.{ServiceRecord}
use Rattle.values.specs.declared.extent.Extent.{Extent}
use Rattle.values.specs.declared.io.Io.{Io}
use Rattle.values.specs.declared.io.Run.{Run}
use Rattle.windows.proofs.Kept.{none_present}
use Rattle.windows.specs.Example.{BoundReached, even, two, early, late, first, second, third, read_at, run_of, back_of, answered}

-- ---- moments

-- what was sent: the runs of the present quarter second and of that two before
abbrev usage : (quarter now before : ℕ) → ServiceRecord
usage quarter now before = record { quarter = quarter; recent = now ∷ 0 ∷ before ∷ replicate 17 0; not_due = now + before }

-- the account of the session or of its pool: what its limit bucket holds, since when, its order number and its record
abbrev account : (units settled number : ℕ) → ServiceRecord → Account
account units settled number record' = record {
  reserve = 0;
  limit = Some 2;
  burst = 2;
  reserve_units = 0;
  limit_units = Some units;
  settled_at = settled;
  mark = record { at = None; number = number };
  usage = record';
}

abbrev row : State → Account → (accepted unsent inside : ℕ) → Session
row state a accepted unsent inside = record { state = state; name = 0; pool = 0; account = a; accepted = accepted; unsent = unsent; inside = inside }

-- one pool and the first place of the sessions; every other place is free
abbrev tables : (latest orders opened arrivals : ℕ) → Account → Session → Tables
tables latest orders opened arrivals shared own = record {
  throughput = 100;
  cap = 8;
  latest = latest;
  orders = orders;
  made = 1;
  opened = opened;
  arrivals = arrivals;
  pools = record { account = shared } ∷ replicate 15 no_pool;
  sessions = own ∷ replicate 63 free_place;
}

abbrev device : List Run → List Run → Meaning
device working done = record { working = working; done = done; depth = 8 }

abbrev moment : Tables → List Io → Meaning → Moment
moment t waiting d = record { tables = t; places = 8; waiting = waiting; device = d }

-- the accounts before the first send, by their order numbers, and after each send
abbrev full : ℕ → Account
full number = account 2000000 1000000 number (usage 4 0 0)

abbrev after_one : Account
after_one = account 1000000 1000000 2 (usage 4 1 0)

abbrev after_two : Account
after_two = account 0 1000000 3 (usage 4 2 0)

abbrev after_three : Account
after_three = account 0 1500000 4 (usage 6 1 2)

abbrev run_one : Run
run_one = run_of 0 first

abbrev run_two : Run
run_two = run_of 1 second

abbrev run_three : Run
run_three = run_of 2 third

abbrev begun : Moment
begun = moment (new_tables 100 8) [] (device [] [])

abbrev pooled : Moment
pooled = moment (tables 1000000 1 0 0 (full 0) free_place) [] (device [] [])

-- so many I/Os have arrived
abbrev arrived_in : ℕ → List Io → Moment
arrived_in n waiting = moment (tables 1000000 2 1 n (full 0) (row Open (full 1) n n 0)) waiting (device [] [])

abbrev waiting_all : Moment
waiting_all = arrived_in 3 (read_at first ∷ read_at second ∷ read_at third ∷ [])

abbrev sent_one_lem : Moment
sent_one_lem = moment (tables 1000000 3 1 3 after_one (row Open after_one 3 2 1)) (read_at second ∷ read_at third ∷ []) (device (run_one ∷ []) [])

-- two are sent, and the latest instant is this
abbrev sent_two : ℕ → Moment
sent_two latest = moment (tables latest 4 1 3 after_two (row Open after_two 3 1 2)) (read_at third ∷ []) (device (run_one ∷ run_two ∷ []) [])

-- all are sent, so many are inside, and the device has these
abbrev sent_all : State → ℕ → Meaning → Moment
sent_all state inside d = moment (tables 1500000 5 1 3 after_three (row state after_three 3 0 inside)) [] d

abbrev sent_three : Moment
sent_three = sent_all Open 3 (device (run_one ∷ run_two ∷ run_three ∷ []) [])

abbrev all_done : Meaning
all_done = device [] (run_one ∷ run_two ∷ run_three ∷ [])

-- the session is closed
abbrev left : Moment
left = moment (tables 1500000 5 1 3 after_three free_place) [] (device [] [])

-- ---- the calls

makes : Leads even (serves (makes_pool early two)) (Ok 0) begun pooled
makes = (refl, refl)

opening : Leads even (serves (opens early 0 two)) (Ok 0) pooled (arrived_in 0 [])
opening = (0, refl, refl, refl)

first_arrives : Leads even (serves (arrives (read_at first))) (Ok 0) (arrived_in 0 []) (arrived_in 1 (read_at first ∷ []))
first_arrives = (0, refl, refl, refl)

second_arrives : Leads even (serves (arrives (read_at second))) (Ok 1) (arrived_in 1 (read_at first ∷ [])) (arrived_in 2 (read_at first ∷ read_at second ∷ []))
second_arrives = (0, refl, refl, refl)

third_arrives : Leads even (serves (arrives (read_at third))) (Ok 2) (arrived_in 2 (read_at first ∷ read_at second ∷ [])) waiting_all
third_arrives = (0, refl, refl, refl)

-- the session at the first place goes, not by its mark
abbrev goes : Choice
goes = record { place = 0; due = false }

abbrev head : Extent → HeadRun
head extent = record { count = 1; direction = 0; address = extent.address; length = 1 }

sends_first : Sends even waiting_all goes run_one sent_one_lem
unfolding some_of
sends_first = record {
  goes = refl;
  head = head first;
  usable = refl;
  sent_as = record { session_is = refl; first_is = refl; count_is = refl; direction_is = refl; address_is = refl; length_is = refl };
  put = record { room = lit≤ tt; working = λ weight. refl; done = λ weight. refl; depth = refl };
  leaves = refl;
}

sends_second : Sends even sent_one_lem goes run_two (sent_two 1000000)
unfolding some_of
sends_second = record {
  goes = refl;
  head = head second;
  usable = refl;
  sent_as = record { session_is = refl; first_is = refl; count_is = refl; direction_is = refl; address_is = refl; length_is = refl };
  put = record { room = lit≤ tt; working = λ weight. refl; done = λ weight. refl; depth = refl };
  leaves = refl;
}

sends_third : Sends even (sent_two 1500000) goes run_three sent_three
unfolding some_of
sends_third = record {
  goes = refl;
  head = head third;
  usable = refl;
  sent_as = record { session_is = refl; first_is = refl; count_is = refl; direction_is = refl; address_is = refl; length_is = refl };
  put = record { room = lit≤ tt; working = λ weight. refl; done = λ weight. refl; depth = refl };
  leaves = refl;
}

-- a send as the log has it
abbrev sent : Moment → Run → Sent
sent m run = record { before = m; choice = goes; run = run }

-- then the limit stops it, until half a second later
stopped : next_choice even (sent_two 1000000) ≡ None
unfolding some_of
stopped = refl

wakes : Some 1500000 ≡ wake_at (sent_two 1000000).tables (head_at (sent_two 1000000)) 1000000
wakes = refl

abbrev schedules_two : Leads even (schedules early) (Ok (answered 2 (Some 1500000))) waiting_all (sent_two 1000000)
schedules_two = record {
  lawful = refl;
  sends = sent sent_one_lem run_two ∷ sent waiting_all run_one ∷ [];
  chain = more (more none sends_first) sends_second;
  over = stopped;
  sent_is = refl;
  due_is = refl;
  wake_is = wakes;
}

-- nothing is left to wake up for
nothing_waits : next_choice even sent_three ≡ None
unfolding some_of
nothing_waits = refl

never_wakes : None ≡ wake_at sent_three.tables (head_at sent_three) 1500000
never_wakes = refl

abbrev schedules_one : Leads even (schedules late) (Ok (answered 1 None)) (sent_two 1000000) sent_three
schedules_one = record {
  lawful = refl;
  sends = sent (sent_two 1500000) run_three ∷ [];
  chain = more none sends_third;
  over = nothing_waits;
  sent_is = refl;
  due_is = refl;
  wake_is = never_wakes;
}

working : Leads even works 3 sent_three (sent_all Open 3 all_done)
working = record {
  worked = record { moved = run_one ∷ run_two ∷ run_three ∷ []; many = refl; working = λ weight. refl; done = λ weight. refl; depth = refl };
  leaves = refl;
}

ending : Leads even (serves (ends 0)) (Ok 0) (sent_all Open 3 all_done) (sent_all Ended 3 all_done)
ending = (0, refl, refl, refl)

not_yet : Leads even (serves (closes 0)) (Err (refused NotHandedBack)) (sent_all Ended 3 all_done) (sent_all Ended 3 all_done)
not_yet = (refl, refl)

-- the order of the done runs is of no account
third_of : (x y z : ℕ) → 0 + x + y + z ≡ 0 + z + x + y
third_of x y z = omega arith

collects_third : Leads even (serves (collects 3 [] (back_of 2 third ∷ []))) (Ok (back_of 2 third)) (sent_all Ended 3 all_done) (sent_all Ended 2 (device [] (run_one ∷ run_two ∷ [])))
collects_third = (refl, record { working = λ weight. refl; done = λ weight. third_of (weight run_one) (weight run_two) (weight run_three); depth = refl }, refl, refl, refl)

collects_first : Leads even (serves (collects 3 (back_of 2 third ∷ []) (back_of 2 third ∷ back_of 0 first ∷ []))) (Ok (back_of 0 first)) (sent_all Ended 2 (device [] (run_one ∷ run_two ∷ []))) (sent_all Ended 1 (device [] (run_two ∷ [])))
collects_first = (refl, record { working = λ weight. refl; done = λ weight. refl; depth = refl }, refl, refl, refl)

collects_second : Leads even (serves (collects 3 (back_of 2 third ∷ back_of 0 first ∷ []) (back_of 2 third ∷ back_of 0 first ∷ back_of 1 second ∷ []))) (Ok (back_of 1 second)) (sent_all Ended 1 (device [] (run_two ∷ []))) (sent_all Ended 0 (device [] []))
collects_second = (refl, record { working = λ weight. refl; done = λ weight. refl; depth = refl }, refl, refl, refl)

closing : Leads even (serves (closes 0)) (Ok 0) (sent_all Ended 0 (device [] [])) left
closing = (0, refl, refl, refl)

-- ---- all of them

pub bound_reached : BoundReached
bound_reached = record {
  start = begun;
  last = left;
  starts = record { throughput = 100; most = 8; tables = refl; waiting = refl; working = refl; done = refl };
  happens =
      next (next (next (next (next (next (next (next (next (next (next (next (next (next making
      _ makes) _ opening) _ first_arrives) _ second_arrives) _ third_arrives)
      _ schedules_two) _ schedules_one) _ working) _ ending) _ not_yet)
      _ collects_third) _ collects_first) _ collects_second) _ closing;
  opened = inl (refl, refl);
  made = inl (refl, refl);
  session_sends = refl;
  pool_sends = refl;
  three = refl;
  session_bound = refl;
  pool_bound = refl;
  at_once = refl;
  none_present = λ k p. both_ways (is_present (session left.tables k).state) (none_present 64 k) p;
}
