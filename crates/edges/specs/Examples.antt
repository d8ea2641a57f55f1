-- The rows, I/Os and runs that the edges speak of.
use Rattle.std.specs.Prelude.{ℕ, ◌+◌, ◌≤◌, List, [], ◌∷◌, replicate, Some, None, Option}
use Rattle.std.proofs.Common.{lit≤}
use Rattle.account.specs.declared.row.Account.{Account}
use Rattle.heads.specs.Heads.{HeadRun}
use Rattle.order.specs.declared.keys.DueMark.{DueMark}
use Rattle.service.specs.Rows.{no_pool, free_place}
use Rattle.service.specs.declared.rows.Session.{Session}
use Rattle.service.specs.declared.rows.State.TheVariants.{Open}
use Rattle.service.specs.declared.rows.Tables.{Tables}
use Rattle.usage.specs.Usage.{unused}
use Rattle.values.specs.declared.direction.Direction.TheVariants.{Read}
use Rattle.values.specs.declared.extent.Extent.{Extent}
use Rattle.values.specs.declared.io.Io.{Io}

-- an account settled at instant 0, by its rates and what its buckets hold
abbrev pub account_of : (reserve : ℕ) (limit : Option ℕ) (burst reserve_units : ℕ) (limit_units : Option ℕ) → DueMark → Account
account_of reserve limit burst reserve_units limit_units mark = record {
  reserve = reserve;
  limit = limit;
  burst = burst;
  reserve_units = reserve_units;
  limit_units = limit_units;
  settled_at = 0;
  mark = mark;
  usage = unused 0;
}

abbrev pub mark_at : ℕ → ℕ → DueMark
mark_at at number = record { at = Some at; number = number }

-- limit 3 and an empty limit bucket
abbrev pub emptied : Account
emptied = account_of 0 (Some 3) 1 0 (Some 0) (mark_at 0 0)

-- a limit bucket of burst 2, full, by its rate
abbrev pub filled : ℕ → Account
filled limit = account_of 0 (Some limit) 2 0 (Some 2000000) (mark_at 0 0)

-- a reserve bucket that holds 600,000
abbrev pub saving : Account
saving = account_of 10 None 1 600000 None (mark_at 0 0)

-- ---- I/Os of session 0

abbrev pub extent_of : (address length : ℕ) → 1 ≤ length → length ≤ 64 → address + length ≤ 4294967295 → Extent
extent_of address length some most ends = record { address = address; length = length; some = some; most = most; ends = ends }

abbrev pub reads : Extent → Io
reads e = record { session = 0; direction = Read; extent = e }

-- 32 sectors at 0 and 32 behind them; 33 at 0 and 32 behind them
abbrev pub two32 : List Io
two32 = reads (extent_of 0 32 (lit≤ tt) (lit≤ tt) (lit≤ tt)) ∷ reads (extent_of 32 32 (lit≤ tt) (lit≤ tt) (lit≤ tt)) ∷ []

abbrev pub one33then32 : List Io
one33then32 = reads (extent_of 0 33 (lit≤ tt) (lit≤ tt) (lit≤ tt)) ∷ reads (extent_of 33 32 (lit≤ tt) (lit≤ tt) (lit≤ tt)) ∷ []

abbrev pub head_run : (count address length : ℕ) → HeadRun
head_run count address length = record { count = count; direction = 0; address = address; length = length }

-- ---- two sessions of one pool, each with a read that waits, by their marks

abbrev pub session_with : ℕ → DueMark → Session
session_with name mark = record { state = Open; name = name; pool = 0; account = account_of 0 None 1 0 None mark; accepted = 1; unsent = 1; inside = 0 }

abbrev pub tables_with : DueMark → DueMark → Tables
tables_with x y = record {
  throughput = 100;
  cap = 32;
  latest = 40;
  orders = 10;
  made = 1;
  opened = 2;
  arrivals = 2;
  pools = no_pool ∷ replicate 15 no_pool;
  sessions = session_with 0 x ∷ session_with 1 y ∷ replicate 62 free_place;
}

abbrev pub each_one_read : ℕ → Option HeadRun
each_one_read place = Some (head_run 1 0 1)
