-- The rows of the tables, and looking through them.
use Rattle.std.specs.Prelude.{ℕ, ◌+◌, Bool, true, false, if◌then◌else◌, ◌&&◌, List, [], take, None, sum_by, Option, ◌==◌, nat_le, slice_index_or}
use Rattle.account.specs.declared.row.Account.{Account}
use Rattle.std.specs.List.{position_from}
use Rattle.usage.specs.Usage.{unused}
use Rattle.service.specs.declared.rows.Pool.{Pool}
use Rattle.service.specs.declared.rows.Session.{Session}
use Rattle.service.specs.declared.rows.State.{State}
use Rattle.service.specs.declared.rows.State.TheVariants.{Free, Open, Ended}
use Rattle.service.specs.declared.rows.Tables.{Tables}

-- ---- rows of zeros, which are read past a table's end

abbrev pub blank_account : Account
blank_account = record {
  reserve = 0;
  limit = None;
  burst = 0;
  reserve_units = 0;
  limit_units = None;
  settled_at = 0;
  mark = record { at = None; number = 0 };
  usage = record { quarter = 0; recent = []; not_due = 0 };
}

abbrev pub blank_pool : Pool
blank_pool = record { account = blank_account }

abbrev pub blank_session : Session
blank_session = record { state = Free; name = 0; pool = 0; account = blank_account; accepted = 0; unsent = 0; inside = 0 }

abbrev pub session : Tables → ℕ → Session
session t i = slice_index_or t.sessions i blank_session

abbrev pub pool : Tables → ℕ → Pool
pool t i = slice_index_or t.pools i blank_pool

-- ---- places with no pool or session

abbrev pub no_account : Account
no_account = record {
  reserve = 0;
  limit = None;
  burst = 1;
  reserve_units = 0;
  limit_units = None;
  settled_at = 0;
  mark = record { at = None; number = 0 };
  usage = unused 0;
}

abbrev pub no_pool : Pool
no_pool = record { account = no_account }

abbrev pub free_place : Session
free_place = record { state = Free; name = 0; pool = 0; account = no_account; accepted = 0; unsent = 0; inside = 0 }

-- ---- looking through the sessions

abbrev pub is_free : State → Bool
is_free Free = true
is_free Open = false
is_free Ended = false

abbrev pub is_open : State → Bool
is_open Free = false
is_open Open = true
is_open Ended = false

abbrev pub is_ended : State → Bool
is_ended Free = false
is_ended Open = false
is_ended Ended = true

abbrev pub is_present : State → Bool
is_present Free = false
is_present Open = true
is_present Ended = true

-- what is looked for: an open, an ended or a present session of a name, or a free place
pub data Wanted : Type 0 where
  OpenAs : (name : ℕ) → Wanted
  EndedAs : (name : ℕ) → Wanted
  PresentAs : (name : ℕ) → Wanted
  FreePlace : Wanted

-- a row is of that kind
abbrev pub fits : Wanted → Session → Bool
fits (OpenAs name) r = is_open r.state && r.name == name
fits (EndedAs name) r = is_ended r.state && r.name == name
fits (PresentAs name) r = is_present r.state && r.name == name
fits FreePlace r = is_free r.state

-- the place, counted from i, of the first row that fits
abbrev pub first_from : Wanted → List Session → ℕ → Option ℕ
first_from wanted rows i = position_from (fits wanted) i rows

abbrev pub first_fit : Wanted → List Session → Option ℕ
first_fit wanted rows = first_from wanted rows 0

-- ---- what is reserved

abbrev pub pool_reserve : Pool → ℕ
pool_reserve p = p.account.reserve

-- the reserves of the pools made
abbrev pub reserves_made : Tables → ℕ
reserves_made t = sum_by pool_reserve (take t.made t.pools)

-- what a row takes of a pool's reserve: its own, where it is a present session of the pool
abbrev pub takes_of : ℕ → Session → ℕ
takes_of number r = if is_present r.state && r.pool == number then r.account.reserve else 0

-- the reserves of a pool's present sessions
abbrev pub reserves_in : ℕ → List Session → ℕ
reserves_in number rows = sum_by (takes_of number) rows

-- ---- counts

-- a row's counts: those not sent and those inside are among those accepted, which are among all arrivals
abbrev pub counts_fit : ℕ → Session → Bool
counts_fit arrivals r = nat_le (r.unsent + r.inside) r.accepted && nat_le r.accepted arrivals

-- the I/Os accepted and not sent, of all sessions
abbrev pub unsent_in : List Session → ℕ
unsent_in rows = sum_by (λ r. r.unsent) rows
