-- What each call answers and leaves, by the tables that it finds.
use Rattle.std.specs.Prelude.{◌≡◌, ℕ, ◌+◌, ◌-◌, min, Bool, true, false, if◌then◌else◌, List, [], length, replicate, Some, None, Ok, Err, Option, Result, ◌==◌, nat_le, nat_lt, slice_set}
use Rattle.account.specs.Accounts.{opened}
use Rattle.device.specs.Meaning.{Meaning, Took}
use Rattle.values.specs.declared.io.Io.{Io}
use Rattle.values.specs.declared.io.Run.{Run}
use Rattle.values.specs.declared.rates.Rates.{Rates}
use Rattle.service.specs.declared.fault.ServiceFault.{ServiceFault}
use Rattle.service.specs.declared.fault.ServiceWhy.TheVariants.{InstantBefore, NoSuchPool, NoSuchSession, NoPlace, NoReserve, WaitingLineFull, CountedOut, NotHandedBack, HandBackFull, NothingDone}
use Rattle.service.specs.Rows.{OpenAs, EndedAs, PresentAs, FreePlace, session, pool, no_pool, free_place, first_fit, reserves_made, reserves_in}
use Rattle.service.specs.declared.rows.HandedBack.{HandedBack}
use Rattle.service.specs.declared.rows.Session.{Session}
use Rattle.service.specs.declared.rows.State.TheVariants.{Open, Ended}
use Rattle.service.specs.declared.rows.Tables.{Tables}
use Rattle.service.specs.Faults.{refused}

-- a place or a number, or why the call is refused
abbrev pub Place : Type 0
Place = Result ℕ ServiceFault

-- the answer, and the tables that are left
abbrev pub Outcome : Type 0
Outcome = Result ℕ ServiceFault × Tables

-- ---- making a service

abbrev pub new_tables : ℕ → ℕ → Tables
new_tables throughput most = record {
  throughput = throughput;
  cap = most;
  latest = 0;
  orders = 0;
  made = 0;
  opened = 0;
  arrivals = 0;
  pools = replicate 16 no_pool;
  sessions = replicate 64 free_place;
}

-- ---- making a pool

-- its number: refused where the instant is before the latest accepted, 16 pools are made, or the reserves would exceed the throughput
abbrev pub pool_place : ℕ → Rates → Tables → Place
pool_place micros rates t =
    if nat_lt micros t.latest then Err (refused InstantBefore)
    else if nat_le 16 t.made then Err (refused NoPlace)
    else if nat_lt t.throughput (reserves_made t + rates.reserve) then Err (refused NoReserve)
    else Ok t.made

abbrev pub pool_made : ℕ → Rates → Tables → ℕ → Tables
pool_made micros rates t number = record t {
  latest = micros;
  orders = t.orders + 1;
  made = t.made + 1;
  pools = slice_set t.pools number (record { account = opened rates micros t.orders });
}

abbrev pub pool_in : ℕ → Rates → Tables → Place → Outcome
pool_in micros rates t (Err fault) = (Err fault, t)
pool_in micros rates t (Ok number) = (Ok number, pool_made micros rates t number)

abbrev pub pool_call : ℕ → Rates → Tables → Outcome
pool_call micros rates t = pool_in micros rates t (pool_place micros rates t)

-- ---- opening a session

-- the place of a new session of a pool that was made: refused where 64 sessions are present, the reserves of the pool's present
-- sessions would exceed the pool's, or all openings are counted out
abbrev pub place_for : ℕ → Rates → Tables → Option ℕ → Place
place_for number rates t None = Err (refused NoPlace)
place_for number rates t (Some i) =
    if nat_lt (pool t number).account.reserve (reserves_in number t.sessions + rates.reserve) then Err (refused NoReserve)
    else if nat_le 4000000000 t.opened then Err (refused CountedOut)
    else Ok i

-- refused before that where the instant is before the latest accepted, or the pool was not made
abbrev pub open_place : ℕ → ℕ → Rates → Tables → Place
open_place micros number rates t =
    if nat_lt micros t.latest then Err (refused InstantBefore)
    else if nat_le t.made number then Err (refused NoSuchPool)
    else place_for number rates t (first_fit FreePlace t.sessions)

abbrev pub opened_row : ℕ → ℕ → Rates → Tables → Session
opened_row micros number rates t = record free_place { state = Open; name = t.opened; pool = number; account = opened rates micros t.orders }

abbrev pub session_opened : ℕ → ℕ → Rates → Tables → ℕ → Tables
session_opened micros number rates t i = record t {
  latest = micros;
  orders = t.orders + 1;
  opened = t.opened + 1;
  sessions = slice_set t.sessions i (opened_row micros number rates t);
}

abbrev pub open_in : ℕ → ℕ → Rates → Tables → Place → Outcome
open_in micros number rates t (Err fault) = (Err fault, t)
open_in micros number rates t (Ok i) = (Ok t.opened, session_opened micros number rates t i)

abbrev pub open_call : ℕ → ℕ → Rates → Tables → Outcome
open_call micros number rates t = open_in micros number rates t (open_place micros number rates t)

-- ---- sessions alone

-- the tables with other sessions and another count of arrivals
abbrev pub with_sessions : Tables → ℕ → List Session → Tables
with_sessions t arrivals rows = record t { arrivals = arrivals; sessions = rows }

-- ---- an arrival

-- a waiting line is full when its length has reached the smaller of its places and 4,096
abbrev pub line_full : {X : Type 0} → List X → ℕ → Bool
line_full places len = nat_le (min (length places) 4096) len

-- the place of its session: refused where no open session has that name, the waiting line is full, or all arrivals are counted out
abbrev pub arrival_at : Bool → Tables → Option ℕ → Place
arrival_at full t None = Err (refused NoSuchSession)
arrival_at full t (Some i) =
    if full then Err (refused WaitingLineFull)
    else if nat_le 4000000000 t.arrivals then Err (refused CountedOut)
    else Ok i

abbrev pub arrival_place : Bool → Io → Tables → Place
arrival_place full io t = arrival_at full t (first_fit (OpenAs io.session) t.sessions)

abbrev pub accepted_row : Session → Session
accepted_row r = record r { accepted = r.accepted + 1; unsent = r.unsent + 1 }

abbrev pub arrived : Tables → ℕ → Tables
arrived t i = with_sessions t (t.arrivals + 1) (slice_set t.sessions i (accepted_row (session t i)))

abbrev pub arrival_in : Tables → Place → Outcome
arrival_in t (Err fault) = (Err fault, t)
arrival_in t (Ok i) = (Ok (session t i).accepted, arrived t i)

abbrev pub arrival_call : Bool → Io → Tables → Outcome
arrival_call full io t = arrival_in t (arrival_place full io t)

-- the waiting line afterwards: one record more, or nothing changed
abbrev pub LineAfter : {A X : Type 0} → Result A ServiceFault → X → List X → ℕ → List X → ℕ → Type 0
LineAfter (Ok answer) added places len places' len' = (places' ≡ slice_set places len added) × (len' ≡ len + 1)
LineAfter (Err fault) added places len places' len' = (places' ≡ places) × (len' ≡ len)

-- ---- ending

abbrev pub ended_row : Session → Session
ended_row r = record r { state = Ended }

abbrev pub ended : Tables → ℕ → Tables
ended t i = with_sessions t t.arrivals (slice_set t.sessions i (ended_row (session t i)))

-- refused where no open session has that name
abbrev pub end_at : ℕ → Tables → Option ℕ → Outcome
end_at name t None = (Err (refused NoSuchSession), t)
end_at name t (Some i) = (Ok name, ended t i)

abbrev pub end_call : ℕ → Tables → Outcome
end_call name t = end_at name t (first_fit (OpenAs name) t.sessions)

-- ---- closing

-- the session's place: refused where no ended session has that name, or it has I/Os not handed back
abbrev pub close_at : Tables → Option ℕ → Place
close_at t None = Err (refused NoSuchSession)
close_at t (Some i) = if nat_lt 0 ((session t i).unsent + (session t i).inside) then Err (refused NotHandedBack) else Ok i

abbrev pub close_place : ℕ → Tables → Place
close_place name t = close_at t (first_fit (EndedAs name) t.sessions)

-- the place is free again
abbrev pub closed : Tables → ℕ → Tables
closed t i = with_sessions t t.arrivals (slice_set t.sessions i free_place)

abbrev pub close_in : ℕ → Tables → Place → Outcome
close_in name t (Err fault) = (Err fault, t)
close_in name t (Ok i) = (Ok name, closed t i)

abbrev pub close_call : ℕ → Tables → Outcome
close_call name t = close_in name t (close_place name t)

-- ---- collecting

abbrev pub handed_row : ℕ → Session → Session
handed_row count r = record r { inside = r.inside - count }

-- a run taken off the device, with the place of the present session of its name: foreign, and then nothing changes,
-- where there is none or it has fewer I/Os inside
abbrev pub hand_back_at : Run → Tables → Option ℕ → HandedBack × Tables
hand_back_at run t None = (record { run = run; foreign = true }, t)
hand_back_at run t (Some i) =
    if nat_lt (session t i).inside run.count
    then (record { run = run; foreign = true }, t)
    else (record { run = run; foreign = false }, with_sessions t t.arrivals (slice_set t.sessions i (handed_row run.count (session t i))))

abbrev pub hand_back : Run → Tables → HandedBack × Tables
hand_back run t = hand_back_at run t (first_fit (PresentAs run.session) t.sessions)

-- a hand-back line is full when its length has reached its places
abbrev pub back_full : {X : Type 0} → List X → ℕ → Bool
back_full places len = len == length places

-- refused where the hand-back line is full, and else where nothing is done at the device
abbrev pub CollectRefused : Bool → List Run → ServiceFault → Type 0
CollectRefused true done fault = fault ≡ refused HandBackFull
CollectRefused false done fault = (fault ≡ refused NothingDone) × (done ≡ [])

-- a collection, by its answer: one done run was taken and counted, or nothing changed
abbrev pub Collected : Result HandedBack ServiceFault → Bool → Tables → Meaning → Tables → Meaning → Type 0
Collected (Ok back) full t m t' m' = (full ≡ false) × Took m back.run m' × (back ≡ (hand_back back.run t).0) × (t' ≡ (hand_back back.run t).1)
Collected (Err fault) full t m t' m' = CollectRefused full m.done fault × (t' ≡ t) × (m' ≡ m)

-- the hand-back line afterwards: the answer stands behind the others, or nothing changed
abbrev pub BackAfter : Result HandedBack ServiceFault → List HandedBack → ℕ → List HandedBack → ℕ → Type 0
BackAfter (Ok back) places len places' len' = (places' ≡ slice_set places len back) × (len' ≡ len + 1)
BackAfter (Err fault) places len places' len' = (places' ≡ places) × (len' ≡ len)

-- the device afterwards, exactly: by what its take says, or as it was
abbrev pub DeviceAfter : {D : Type 0} → (D → Run → D → Type 0) → Result HandedBack ServiceFault → D → D → Type 0
DeviceAfter takes (Ok back) d d' = takes d back.run d'
DeviceAfter takes (Err fault) d d' = d' ≡ d
