-- What a wake-up means, in the words of the rules.
use Rattle.std.specs.Prelude.{◌≡◌, ℕ, ◌<◌, ◌≤◌, true, ◌⊎◌, Some, None, Option}
use Rattle.choosing.specs.Due.{effective_mark}
use Rattle.choosing.specs.Free.{has_head}
use Rattle.choosing.specs.Right.{Moment}
use Rattle.choosing.specs.Wake.{release_instant}

-- the session at a place has a usable head run, and the instant, which is after the present one, is its release instant or its effective due instant
pub record Awaits (m : Moment) (k at : ℕ) : Type 0 where
  pub inside : k < 64
  pub head : has_head m.tables m.heads k ≡ true
  pub later : m.micros < at
  pub either : (release_instant m.tables m.micros k ≡ Some at) ⊎ ((effective_mark m.tables k).at ≡ Some at)

-- one session awaits the instant, and none awaits an earlier one
pub record Earliest (m : Moment) (at : ℕ) : Type 0 where
  pub place : ℕ
  pub awaited : Awaits m place at
  pub first : (k u : ℕ) → Awaits m k u → at ≤ u

-- none only if no session awaits an instant
abbrev pub RightWake : Moment → Option ℕ → Type 0
RightWake m None = (k at : ℕ) → Awaits m k at → ⊥
RightWake m (Some at) = Earliest m at
