-- The choice by levels, among the places that are free to go.
use Rattle.std.specs.Prelude.{ℕ, Bool, if◌then◌else◌, ◌&&◌, Some, None, Option, ◌==◌}
use Rattle.account.specs.declared.row.Account.{Account}
use Rattle.choosing.specs.Picks.{least_place, some_of}
use Rattle.order.specs.Keys.{level_before}
use Rattle.order.specs.declared.keys.Level.{Level}
use Rattle.service.specs.Rows.{session, pool}
use Rattle.service.specs.declared.rows.Session.{Session}
use Rattle.service.specs.declared.rows.Tables.{Tables}
use Rattle.usage.specs.Usage.{moved_to, quarter_of}
use Rattle.usage.specs.declared.ServiceRecord.{ServiceRecord}

-- the level of an account's service record, moved on to the instant's quarter
abbrev pub level_at : (ServiceRecord → ℕ) → ℕ → Account → ℕ
level_at level micros a = level (moved_to (quarter_of micros) a.usage)

-- the place has a free session of the pool
abbrev pub is_free_in : Tables → (ℕ → Bool) → ℕ → ℕ → Bool
is_free_in t free p k = free k && (session t k).pool == p

-- one of the pool's sessions is free
abbrev pub pool_has_free : Tables → (ℕ → Bool) → ℕ → Bool
pool_has_free t free p = some_of 64 (is_free_in t free p)

-- the level of an account, with the name of what has it
abbrev pub named_level : (ServiceRecord → ℕ) → ℕ → Account → ℕ → Level
named_level level micros a name = record { level = level_at level micros a; name = name }

-- the level of a pool, with its number
abbrev pub pool_level : (ServiceRecord → ℕ) → Tables → ℕ → ℕ → Level
pool_level level t micros p = named_level level micros (pool t p).account p

-- the level of a session, with its name, and so for the session at a place
abbrev pub row_level : (ServiceRecord → ℕ) → ℕ → Session → Level
row_level level micros r = named_level level micros r.account r.name

abbrev pub session_level : (ServiceRecord → ℕ) → Tables → ℕ → ℕ → Level
session_level level t micros k = row_level level micros (session t k)

-- the key of a pool that has a free session
abbrev pub pool_key : (ServiceRecord → ℕ) → Tables → (ℕ → Bool) → ℕ → ℕ → Option Level
pool_key level t free micros p = if pool_has_free t free p then Some (pool_level level t micros p) else None

-- the key of a free session of the pool
abbrev pub session_key : (ServiceRecord → ℕ) → Tables → (ℕ → Bool) → ℕ → ℕ → ℕ → Option Level
session_key level t free micros p k = if is_free_in t free p k then Some (session_level level t micros k) else None

-- the lowest level, and among equals the lower number or name
abbrev pub pool_choice : (ServiceRecord → ℕ) → Tables → (ℕ → Bool) → ℕ → Option ℕ
pool_choice level t free micros = least_place level_before 16 (pool_key level t free micros)

abbrev pub session_choice : (ServiceRecord → ℕ) → Tables → (ℕ → Bool) → ℕ → ℕ → Option ℕ
session_choice level t free micros p = least_place level_before 64 (session_key level t free micros p)
