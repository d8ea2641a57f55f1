-- A history in which the bounds of the passing law are reached.
use Rattle.std.specs.Prelude.{◌≡◌, ℕ, ◌<◌, true, List, ◌++◌, count_by}
use Rattle.choosing.specs.Due.{own_mark}
use Rattle.history.specs.Histories.{Starts, Made, History, log_of}
use Rattle.history.specs.Logs.{sends_in, sent_for, sent_in}
use Rattle.history.specs.Steps.{Event, Course}
use Rattle.passing.specs.Law.{is_due, mark_of_pool, passes_session, passes_pool, NoneFor, others_present, other_pools}
use Rattle.service.specs.Moments.{Moment}
use Rattle.service.specs.Rows.{session}
use Rattle.service.specs.Sound.{Present}
use Rattle.usage.specs.declared.ServiceRecord.{ServiceRecord}

-- There is a history of calls from a making on, and a moment at which its log is parted, such that at that moment there are two pools
-- with one session each, both sessions due. Until the next send of one of them it is passed twice, and so is its pool, which is due
-- too: once for the other session and once for the other pool.
pub record BoundsReached : Type 0 where
  -- the history
  pub level : ServiceRecord → ℕ
  pub start : Moment
  pub starts : Starts start
  pub past : List Made
  pub last : Moment
  pub history : History level start past last
  -- the moment
  pub late : List Event
  pub early : List Event
  pub from : Moment
  pub parted : log_of history ≡ late ++ early
  pub came : Course level start early from
  pub went : Course level from late last
  -- the session that waits
  pub place : ℕ
  pub stands : Present from.tables place
  pub due : is_due from.tables (own_mark from.tables place) ≡ true
  pub unsent : NoneFor sent_for (session from.tables place).name (sends_in late)
  pub one_session : others_present (λ r. r.name) (session from.tables place).name from.tables ≡ 1
  pub one_pool : other_pools from.tables ≡ 1
  pub passed_twice : count_by (passes_session (session from.tables place).name) (sends_in late) ≡ 2
  -- the other session, in the other pool
  pub rival : ℕ
  pub rival_stands : Present from.tables rival
  pub rival_due : is_due from.tables (own_mark from.tables rival) ≡ true
  pub rival_apart : (session from.tables rival).pool ≡ (session from.tables place).pool → ⊥
  -- the pool of the session that waits
  pub made : (session from.tables place).pool < from.tables.made
  pub pool_due : is_due from.tables (mark_of_pool from.tables (session from.tables place).pool) ≡ true
  pub pool_unsent : NoneFor sent_in (session from.tables place).pool (sends_in late)
  pub one_outside : others_present (λ r. r.pool) (session from.tables place).pool from.tables ≡ 1
  pub pool_passed_twice : count_by (passes_pool (session from.tables place).pool) (sends_in late) ≡ 2
