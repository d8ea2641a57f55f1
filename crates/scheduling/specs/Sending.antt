-- A single send: which session's run goes next, and what sending it leaves.
use Rattle.std.specs.Prelude.{◌≡◌, ℕ, ◌+◌, ◌-◌, ◌<◌, ◌≤◌, min, Bool, true, if◌then◌else◌, List, take, Some, None, Option, nat_lt, slice_set}
use Rattle.account.specs.Accounts.{is_sound, sent_at}
use Rattle.choosing.specs.Chosen.{chosen}
use Rattle.choosing.specs.Free.{usable_head, is_free_to_go}
use Rattle.choosing.specs.declared.choose.Choice.{Choice}
use Rattle.device.specs.Meaning.{held_by, Put}
use Rattle.heads.specs.Heads.{HeadRun, head_for}
use Rattle.line.specs.Line.{without}
use Rattle.service.specs.Moments.{Moment}
use Rattle.service.specs.Rows.{session, pool, is_present}
use Rattle.service.specs.declared.rows.Pool.{Pool}
use Rattle.service.specs.declared.rows.Session.{Session}
use Rattle.service.specs.declared.rows.Tables.{Tables}
use Rattle.usage.specs.declared.ServiceRecord.{ServiceRecord}
use Rattle.values.specs.Direction.{direction_number}
use Rattle.values.specs.declared.io.Io.{Io}
use Rattle.values.specs.declared.io.Run.{Run}

-- ---- what waits

-- the waiting records: of a longer line only the first 4,096 are used
abbrev pub used_of : List Io → List Io
used_of line = take 4096 line

-- the session whose I/O it is
abbrev pub owner_of : Io → ℕ
owner_of io = io.session

-- the name of the session at a place, if one is present there
abbrev pub present_name : Session → Option ℕ
present_name r = if is_present r.state then Some r.name else None

-- its head run, whether or not it can be used
abbrev pub head_at : Moment → ℕ → Option HeadRun
head_at m k = head_for (present_name (session m.tables k)) (used_of m.waiting)

-- the session at a place is free to go, at the latest accepted instant
abbrev pub free_to_go : Moment → ℕ → Bool
free_to_go m k = is_free_to_go m.tables (head_at m) m.tables.latest k

-- ---- the next session to send

-- the most runs that the device may hold: its depth, or the cap if that is lower
abbrev pub most_runs : Moment → ℕ
most_runs m = min m.device.depth m.tables.cap

-- the choice among the sessions that are free to go; none if the device holds its most, or if no session is free
abbrev pub next_choice : (ServiceRecord → ℕ) → Moment → Option Choice
next_choice level m = if nat_lt (held_by m.device) (most_runs m) then chosen level m.tables (head_at m) m.tables.latest else None

-- ---- one send

-- the run that a session's head run is sent as: its first arrival number is that of the I/Os accepted less those accepted and not sent
pub record SentAs (r : Session) (head : HeadRun) (run : Run) : Type 0 where
  pub session_is : run.session ≡ r.name
  pub first_is : run.first ≡ r.accepted - r.unsent
  pub count_is : run.count ≡ head.count
  pub direction_is : direction_number run.direction ≡ head.direction
  pub address_is : run.extent.address ≡ head.address
  pub length_is : run.extent.length ≡ head.length

-- what a send of so many I/Os from a place asks for: a place and a pool of the tables, two sound accounts, that many I/Os accepted and
-- not sent, a lawful latest instant, and numbers that cannot overflow
pub record MaySend (t : Tables) (place count : ℕ) : Type 0 where
  pub inside : place < 64
  pub of_pool : (session t place).pool < 16
  pub own_sound : is_sound (session t place).account ≡ true
  pub pool_sound : is_sound (pool t (session t place).pool).account ≡ true
  pub enough : count ≤ (session t place).unsent
  pub lawful : t.latest ≤ 1099511627775
  pub few : (session t place).inside + count ≤ 4000000000
  pub given : t.orders < 9000000000

-- the session's row: the account charged and re-marked, and so many I/Os inside that were not sent before
abbrev pub sent_row : (micros number : ℕ) → Bool → (count : ℕ) → Session → Session
sent_row micros number due count r = record r { account = sent_at micros number due r.account; unsent = r.unsent - count; inside = r.inside + count }

-- the pool's row, with the same order number
abbrev pub sent_pool : (micros number : ℕ) → Bool → Pool → Pool
sent_pool micros number due p = record { account = sent_at micros number due p.account }

-- the tables after a run of so many I/Os was sent from a place, at the latest accepted instant
abbrev pub sent_tables : Tables → (place : ℕ) → Bool → (count : ℕ) → Tables
sent_tables t k due count = record t {
  orders = t.orders + 1;
  pools = slice_set t.pools (session t k).pool (sent_pool t.latest t.orders due (pool t (session t k).pool));
  sessions = slice_set t.sessions k (sent_row t.latest t.orders due count (session t k));
}

-- the waiting line without the first so many I/Os of the session at a place
abbrev pub sent_line : Moment → (place count : ℕ) → List Io
sent_line m k count = without owner_of (session m.tables k).name count (used_of m.waiting)

-- A single send from one moment to another: the session that goes next, its usable head run, moved from the waiting line onto the
-- device by one put as the run that it is sent as, and both accounts charged, re-marked and counted.
pub record Sends (level : ServiceRecord → ℕ) (m : Moment) (choice : Choice) (run : Run) (n : Moment) : Type 0 where
  pub goes : next_choice level m ≡ Some choice
  pub head : HeadRun
  pub usable : usable_head (session m.tables choice.place) (head_at m choice.place) ≡ Some head
  pub sent_as : SentAs (session m.tables choice.place) head run
  pub put : Put m.device run n.device
  pub leaves : n ≡ record {
    tables = sent_tables m.tables choice.place choice.due head.count;
    places = m.places;
    waiting = sent_line m choice.place head.count;
    device = n.device;
  }
