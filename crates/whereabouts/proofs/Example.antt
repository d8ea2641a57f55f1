-- Each call of the story, done.
use Rattle.std.proofs.Common.{false, List, [], ◌∷◌, None, Ok, refl, arith, lit<}
use Rattle.choosing.specs.Picks.{some_of}
use Rattle.device.specs.Meaning.{Meaning}
use Rattle.history.specs.Calls.{Leads, serves, schedules, works}
use Rattle.history.specs.Histories.{History, making, next}
use Rattle.scheduling.specs.Scheduling.{none, more, accepted_at}
use Rattle.scheduling.specs.Sending.{Sends, sent_tables, sent_line}
use Rattle.service.specs.Calls.{new_tables, pool_made, session_opened, hand_back, ended, closed}
use Rattle.service.specs.Moments.{Moment, with_tables, arrived_moment, makes_pool, opens, arrives, ends, closes, collects}
use Rattle.service.specs.declared.rows.Tables.{Tables}
use Rattle.sharing.specs.Levels.{even_level}
use Rattle.values.specs.declared.io.Io.{Io}
use Rattle.values.specs.declared.io.Run.{Run}
use Rattle.whereabouts.specs.Example.{first, second, third, both, alone, own, plain, at_zero, story, ThroughAllPlaces}

abbrev device : List Run → List Run → Meaning
device working done = record { working = working; done = done; depth = 16 }

-- a moment with four places in the waiting line
abbrev at : Tables → List Io → Meaning → Moment
at t line d = record { tables = t; places = 4; waiting = line; device = d }

abbrev begun : Moment
begun = at (new_tables 100 2) [] (device [] [])

abbrev with_pool : Moment
with_pool = with_tables begun (pool_made 0 plain begun.tables 0)

abbrev with_session : Moment
with_session = with_tables with_pool (session_opened 0 0 plain with_pool.tables 0)

abbrev with_one_lem : Moment
with_one_lem = arrived_moment with_session first 0

abbrev with_two : Moment
with_two = arrived_moment with_one_lem second 0

abbrev with_three : Moment
with_three = arrived_moment with_two third 0

makes_pool_lem : Leads even_level (serves (makes_pool at_zero plain)) (Ok 0) begun with_pool
makes_pool_lem = (refl, refl)

opens_session : Leads even_level (serves (opens at_zero 0 plain)) (Ok 0) with_pool with_session
opens_session = (0, refl, refl, refl)

takes_first : Leads even_level (serves (arrives first)) (Ok 0) with_session with_one_lem
takes_first = (0, refl, refl, refl)

takes_second : Leads even_level (serves (arrives second)) (Ok 1) with_one_lem with_two
takes_second = (0, refl, refl, refl)

takes_third : Leads even_level (serves (arrives third)) (Ok 2) with_two with_three
takes_third = (0, refl, refl, refl)

-- the two sends
abbrev called : Moment
called = accepted_at 0 with_three

abbrev sent_both : Moment
sent_both = at (sent_tables called.tables 0 false 2) (sent_line called 0 2) (device (both ∷ []) [])

abbrev sent_all : Moment
sent_all = at (sent_tables sent_both.tables 0 false 1) (sent_line sent_both 0 1) (device (both ∷ alone ∷ []) [])

sends_both : Sends even_level called (record { place = 0; due = false }) both sent_both
unfolding some_of
sends_both = record {
  goes = refl;
  head = record { count = 2; direction = 1; address = 100; length = 64 };
  usable = refl;
  sent_as = record { session_is = refl; first_is = refl; count_is = refl; direction_is = refl; address_is = refl; length_is = refl };
  put = record { room = lit< tt; working = λ weight. refl; done = λ weight. refl; depth = refl };
  leaves = refl;
}

sends_alone : Sends even_level sent_both (record { place = 0; due = false }) alone sent_all
unfolding some_of
sends_alone = record {
  goes = refl;
  head = record { count = 1; direction = 1; address = 164; length = 1 };
  usable = refl;
  sent_as = record { session_is = refl; first_is = refl; count_is = refl; direction_is = refl; address_is = refl; length_is = refl };
  put = record { room = lit< tt; working = λ weight. refl; done = λ weight. refl; depth = refl };
  leaves = refl;
}

schedules_both : Leads even_level (schedules at_zero) (Ok (record { sent = 2; due = 0; wake = None })) with_three sent_all
unfolding some_of
schedules_both = record {
  lawful = refl;
  sends = _;
  chain = more (more none sends_both) sends_alone;
  over = refl;
  sent_is = refl;
  due_is = refl;
  wake_is = refl;
}

-- both are done, and come back the other way round
abbrev all_done : Moment
all_done = at sent_all.tables [] (device [] (both ∷ alone ∷ []))

abbrev one_back : Moment
one_back = at (hand_back alone all_done.tables).1 [] (device [] (both ∷ []))

abbrev both_back : Moment
both_back = at (hand_back both one_back.tables).1 [] (device [] [])

works_two : Leads even_level works 2 sent_all all_done
works_two = record { worked = record { moved = both ∷ alone ∷ []; many = refl; working = λ weight. refl; done = λ weight. refl; depth = refl }; leaves = refl }

collects_alone : Leads even_level (serves (collects 1 [] (own alone ∷ []))) (Ok (own alone)) all_done one_back
collects_alone = (refl, record { working = λ weight. refl; done = λ weight. omega arith; depth = refl }, refl, refl, refl)

collects_both : Leads even_level (serves (collects 1 [] (own both ∷ []))) (Ok (own both)) one_back both_back
collects_both = (refl, record { working = λ weight. refl; done = λ weight. refl; depth = refl }, refl, refl, refl)

abbrev ended_now : Moment
ended_now = with_tables both_back (ended both_back.tables 0)

abbrev closed_now : Moment
closed_now = with_tables ended_now (closed ended_now.tables 0)

ends_session : Leads even_level (serves (ends 0)) (Ok 0) both_back ended_now
ends_session = (0, refl, refl, refl)

closes_session : Leads even_level (serves (closes 0)) (Ok 0) ended_now closed_now
closes_session = (0, refl, refl, refl)

whole : History even_level begun story closed_now
whole =
    next (next (next (next (next (next (next (next (next (next (next making _ makes_pool_lem) _ opens_session) _ takes_first) _ takes_second) _ takes_third) _ schedules_both) _ works_two) _ collects_alone) _ collects_both) _ ends_session) _ closes_session

pub through_all_places : ThroughAllPlaces
unfolding whole schedules_both
through_all_places = record {
  start = begun;
  starts = record { throughput = 100; most = 2; tables = refl; waiting = refl; working = refl; done = refl };
  end = closed_now;
  history = whole;
  three = refl;
  sent_so = refl;
  back_so = refl;
  gone = refl;
  each_back = (refl, refl, refl);
}
