-- What the wake-up is good for.
use Rattle.std.specs.Prelude.{◌≡◌, ℕ, ◌<◌, ◌≤◌, true, Some, None, Option}
use Rattle.choosing.specs.Due.{effective_mark, has_come}
use Rattle.choosing.specs.Free.{has_head, is_free_to_go}
use Rattle.choosing.specs.Right.{Moment}
use Rattle.choosing.specs.Wake.{wake_at}
use Rattle.service.specs.Rows.{session, pool}

-- before the wake-up; if there is none, every instant is
abbrev pub Before : ℕ → Option ℕ → Type 0
Before u None = Unit {0}
Before u (Some at) = u < at

-- no account was settled after the present instant
pub record Settled (m : Moment) : Type 0 where
  pub own : (k : ℕ) → (session m.tables k).account.settled_at ≤ m.micros
  pub pools : (p : ℕ) → (pool m.tables p).account.settled_at ≤ m.micros

-- with no call in between, the same sessions are free to go at a later instant, and the same effective marks have come
pub record SameAt (m : Moment) (u k : ℕ) : Type 0 where
  pub free : is_free_to_go m.tables m.heads u k ≡ is_free_to_go m.tables m.heads m.micros k
  pub come : has_head m.tables m.heads k ≡ true → has_come u (effective_mark m.tables k).at ≡ has_come m.micros (effective_mark m.tables k).at

-- so it is at every instant before the wake-up
abbrev pub QuietUntil : Type 0
QuietUntil = (m : Moment) → Settled m → (u : ℕ) → m.micros ≤ u → Before u (wake_at m.tables m.heads m.micros) → (k : ℕ) → k < 64 → SameAt m u k
