-- What a choice means, in the words of the rules.
use Rattle.std.specs.Prelude.{◌≡◌, ℕ, ◌<◌, ◌≤◌, Bool, true, false, Some, None, MatchBool, Option}
use Rattle.account.specs.Accounts.{is_sound}
use Rattle.choosing.specs.Due.{own_mark, effective_mark, has_come}
use Rattle.choosing.specs.Free.{has_head, is_free_to_go}
use Rattle.choosing.specs.Spare.{pool_level, session_level}
use Rattle.choosing.specs.declared.choose.Choice.{Choice}
use Rattle.heads.specs.Heads.{HeadRun}
use Rattle.order.specs.Keys.{mark_before}
use Rattle.order.specs.declared.keys.Level.{Level}
use Rattle.service.specs.Rows.{session, pool}
use Rattle.service.specs.declared.rows.Tables.{Tables}
use Rattle.usage.specs.declared.ServiceRecord.{ServiceRecord}

-- the tables at an instant, and the head run of each place
pub record Moment : Type 0 where
  pub tables : Tables
  pub heads : ℕ → Option HeadRun
  pub micros : ℕ

-- the session at a place of the table is free to go
pub record Free (m : Moment) (k : ℕ) : Type 0 where
  pub inside : k < 64
  pub goes : is_free_to_go m.tables m.heads m.micros k ≡ true

-- the instant of its effective mark has come, or not
abbrev pub comes : Moment → ℕ → Bool
comes m k = has_come m.micros (effective_mark m.tables k).at

-- a free session whose effective mark has come
pub record Due (m : Moment) (k : ℕ) : Type 0 where
  pub free : Free m k
  pub come : comes m k ≡ true

-- it is due; no due session has an earlier effective mark, and none that has as early a one has an earlier own mark
pub record ByMark (m : Moment) (k : ℕ) : Type 0 where
  pub due : Due m k
  pub earliest : (j : ℕ) → Due m j → mark_before (effective_mark m.tables j) (effective_mark m.tables k) ≡ false
  pub own : (j : ℕ) → Due m j → mark_before (effective_mark m.tables k) (effective_mark m.tables j) ≡ false → mark_before (own_mark m.tables j) (own_mark m.tables k) ≡ false

-- the level is not above the other, and where they are equal the number or name is not
abbrev pub NotAbove : Level → Level → Type 0
NotAbove x y = (x.level ≤ y.level) × (x.level ≡ y.level → x.name ≤ y.name)

-- it is free, and no free session's mark has come; no free session's pool has a lower level, or an equal one and a lower number;
-- and no free session of its pool has a lower level, or an equal one and a lower name
pub record ByLevel (level : ServiceRecord → ℕ) (m : Moment) (k : ℕ) : Type 0 where
  pub free : Free m k
  pub none_come : (j : ℕ) → Free m j → comes m j ≡ false
  pub lowest_pool : (j : ℕ) → Free m j → NotAbove (pool_level level m.tables m.micros (session m.tables k).pool) (pool_level level m.tables m.micros (session m.tables j).pool)
  pub lowest_session : (j : ℕ) → Free m j → (session m.tables j).pool ≡ (session m.tables k).pool → NotAbove (session_level level m.tables m.micros k) (session_level level m.tables m.micros j)

-- none only if no session is free to go; and else as it says, by mark or by level
abbrev pub RightChoice : (ServiceRecord → ℕ) → Moment → Option Choice → Type 0
RightChoice level m None = (k : ℕ) → Free m k → ⊥
RightChoice level m (Some c) = MatchBool c.due (ByMark m c.place) (ByLevel level m c.place)

-- the place is one of the table's
abbrev pub InTable : Option Choice → Type 0
InTable None = Unit {0}
InTable (Some c) = c.place < 64

-- all that a send from the place asks for: a usable head run, one of the 16 pools, and two sound accounts
pub record CanSend (t : Tables) (heads : ℕ → Option HeadRun) (k : ℕ) : Type 0 where
  pub inside : k < 64
  pub head : has_head t heads k ≡ true
  pub of_pool : (session t k).pool < 16
  pub own_sound : is_sound (session t k).account ≡ true
  pub pool_sound : is_sound (pool t (session t k).pool).account ≡ true

abbrev pub Sendable : Tables → (ℕ → Option HeadRun) → Option Choice → Type 0
Sendable t heads None = Unit {0}
Sendable t heads (Some c) = CanSend t heads c.place
