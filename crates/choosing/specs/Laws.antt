-- What holds of every choice and wake-up.
use Rattle.std.specs.Prelude.{◌≡◌, ℕ, ◌<◌, Option}
use Rattle.choosing.specs.Chosen.{chosen}
use Rattle.choosing.specs.Due.{own_mark}
use Rattle.choosing.specs.Right.{Moment, Free, RightChoice}
use Rattle.choosing.specs.Wake.{wake_at}
use Rattle.choosing.specs.declared.choose.Choice.{Choice}
use Rattle.heads.specs.Heads.{HeadRun}
use Rattle.service.specs.Rows.{session}
use Rattle.service.specs.declared.rows.Tables.{Tables}
use Rattle.usage.specs.declared.ServiceRecord.{ServiceRecord}

-- different free sessions have different names, and different order numbers in their own marks
pub record Apart (m : Moment) : Type 0 where
  pub names : (j k : ℕ) → Free m j → Free m k → (session m.tables j).name ≡ (session m.tables k).name → j ≡ k
  pub marks : (j k : ℕ) → Free m j → Free m k → (own_mark m.tables j).number ≡ (own_mark m.tables k).number → j ≡ k

-- head runs that agree at each of the 64 places
abbrev pub SameHeads : (ℕ → Option HeadRun) → (ℕ → Option HeadRun) → Type 0
SameHeads f g = (k : ℕ) → k < 64 → f k ≡ g k

pub record ChoiceLaws : Type 0 where
  -- the choice and the wake-up ask for the head runs of the 64 places alone
  pub choice_by_places : (level : ServiceRecord → ℕ) (t : Tables) (f g : ℕ → Option HeadRun) (micros : ℕ) → SameHeads f g → chosen level t f micros ≡ chosen level t g micros
  pub wake_by_places : (t : Tables) (f g : ℕ → Option HeadRun) (micros : ℕ) → SameHeads f g → wake_at t f micros ≡ wake_at t g micros
  -- where different sessions have different names and marks, there is one right choice
  pub only : (level : ServiceRecord → ℕ) (m : Moment) → Apart m → (r s : Option Choice) → RightChoice level m r → RightChoice level m s → r ≡ s
