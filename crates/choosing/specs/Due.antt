-- The choice by due marks, among the places that are free to go.
use Rattle.std.specs.Prelude.{ℕ, Bool, false, if◌then◌else◌, ◌&&◌, Some, None, Option, nat_le, nat_lt}
use Rattle.choosing.specs.Picks.{least_place}
use Rattle.order.specs.Keys.{mark_before}
use Rattle.order.specs.Order.{then_by}
use Rattle.order.specs.declared.keys.DueMark.{DueMark}
use Rattle.service.specs.Rows.{session, pool}
use Rattle.service.specs.declared.rows.Session.{Session}
use Rattle.service.specs.declared.rows.Tables.{Tables}

-- a session's own mark, and a pool's by its number; past the 16 places it is never
abbrev pub own_mark : Tables → ℕ → DueMark
own_mark t k = (session t k).account.mark

abbrev pub pool_mark : Tables → ℕ → DueMark
pool_mark t number = if nat_lt number 16 then (pool t number).account.mark else record { at = None; number = 0 }

-- the earlier of two marks
abbrev pub earlier_mark : DueMark → DueMark → DueMark
earlier_mark x y = if mark_before y x then y else x

-- the earlier of a session's own mark and its pool's, and so for the session at a place
abbrev pub row_mark : Tables → Session → DueMark
row_mark t r = earlier_mark r.account.mark (pool_mark t r.pool)

abbrev pub effective_mark : Tables → ℕ → DueMark
effective_mark t k = row_mark t (session t k)

-- a mark's instant has come
abbrev pub has_come : ℕ → Option ℕ → Bool
has_come micros None = false
has_come micros (Some at) = nat_le at micros

-- the key of a session, if it is free and its effective mark has come: that mark, and then its own
abbrev pub row_due_key : Tables → ℕ → Session → Bool → Option (DueMark × DueMark)
row_due_key t micros r free = if free && has_come micros (row_mark t r).at then Some (row_mark t r, r.account.mark) else None

-- so for the session at a place
abbrev pub due_key : Tables → (ℕ → Bool) → ℕ → ℕ → Option (DueMark × DueMark)
due_key t free micros k = row_due_key t micros (session t k) (free k)

-- the earliest effective mark, and among equals the earliest own mark
abbrev pub due_choice : Tables → (ℕ → Bool) → ℕ → Option ℕ
due_choice t free micros = least_place (then_by mark_before mark_before) 64 (due_key t free micros)
