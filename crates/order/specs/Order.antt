-- Orders of keys, as tests: `before x y` says that x goes strictly first.
use Rattle.std.specs.Prelude.{Bool, true, false, if◌then◌else◌, Some, None, Option}

-- a missing key goes after every other
abbrev pub missing_last : {X : Type 0} → (X → X → Bool) → Option X → Option X → Bool
missing_last before None y = false
missing_last before (Some x) None = true
missing_last before (Some x) (Some y) = before x y

-- by the first part, and where that ties by the second
abbrev pub then_by : {X Y : Type 0} → (X → X → Bool) → (Y → Y → Bool) → X × Y → X × Y → Bool
then_by first second x y = if first x.0 y.0 then true else (if first y.0 x.0 then false else second x.1 y.1)
