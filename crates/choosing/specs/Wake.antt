-- When to look again.
use Rattle.std.specs.Prelude.{ℕ, min, max, if◌then◌else◌, List, map, is_some, Some, None, Option, nat_lt}
use Rattle.account.specs.Accounts.{is_sound, released_from}
use Rattle.account.specs.declared.row.Account.{Account}
use Rattle.choosing.specs.Due.{row_mark}
use Rattle.choosing.specs.Free.{usable_head}
use Rattle.heads.specs.Heads.{HeadRun}
use Rattle.order.specs.Least.{least_of, key_of}
use Rattle.service.specs.Rows.{session, pool}
use Rattle.service.specs.declared.rows.Session.{Session}
use Rattle.service.specs.declared.rows.Tables.{Tables}
use Rattle.std.specs.List.{range_with_len}

-- the instant from which an account's limit bucket lets a run go; one whose numbers are no pair of buckets has none
abbrev pub release_of : ℕ → Account → Option ℕ
release_of micros a = if is_sound a then Some (released_from micros a) else None

-- the same of a pool, by its number; past the 16 places there is none
abbrev pub pool_release : Tables → ℕ → ℕ → Option ℕ
pool_release t micros number = if nat_lt number 16 then release_of micros (pool t number).account else None

-- the later of two instants, if both are there
abbrev pub later_of : Option ℕ → Option ℕ → Option ℕ
later_of None y = None
later_of (Some x) None = None
later_of (Some x) (Some y) = Some (max x y)

-- the earlier of those of two instants that are there
abbrev pub earlier_of : Option ℕ → Option ℕ → Option ℕ
earlier_of None y = y
earlier_of (Some x) None = Some x
earlier_of (Some x) (Some y) = Some (min x y)

-- an instant, if it is after the present one
abbrev pub after : ℕ → Option ℕ → Option ℕ
after micros None = None
after micros (Some at) = if nat_lt micros at then Some at else None

-- a session's release instant: the later of its own account's and its pool's
abbrev pub row_release : Tables → ℕ → Session → Option ℕ
row_release t micros r = later_of (release_of micros r.account) (pool_release t micros r.pool)

-- the earlier of its release instant and its effective due instant, of those after the present one, if it has a usable head run
abbrev pub row_wake_key : Tables → ℕ → Session → Option HeadRun → Option ℕ
row_wake_key t micros r head = if is_some (usable_head r head) then earlier_of (after micros (row_release t micros r)) (after micros (row_mark t r).at) else None

-- so for the session at a place
abbrev pub release_instant : Tables → ℕ → ℕ → Option ℕ
release_instant t micros k = row_release t micros (session t k)

abbrev pub wake_key : Tables → (ℕ → Option HeadRun) → ℕ → ℕ → Option ℕ
wake_key t heads micros k = row_wake_key t micros (session t k) (heads k)

-- the earliest of some instants
abbrev pub earliest : List (Option ℕ) → Option ℕ
earliest times = key_of (least_of nat_lt times)

abbrev pub wake_at : Tables → (ℕ → Option HeadRun) → ℕ → Option ℕ
wake_at t heads micros = earliest (map (wake_key t heads micros) (range_with_len 0 64))
