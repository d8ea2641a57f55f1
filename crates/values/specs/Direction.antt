-- The number that stands for each direction.
use Rattle.std.specs.Prelude.{◌≡◌, ◌≢◌, ℕ, Ok, Err, Result}
use Rattle.values.specs.Refusals.{outside_stream}
use Rattle.values.specs.declared.direction.Direction.{Direction}
use Rattle.values.specs.declared.direction.Direction.TheVariants.{Read, Write}
use Rattle.values.specs.declared.fault.ValueFault.{ValueFault}

abbrev pub direction_number : Direction → ℕ
direction_number Read = 0
direction_number Write = 1

-- the direction that a number stands for; refused exactly where it stands for none
abbrev pub Decodes : ℕ → Result Direction ValueFault → Type 0
Decodes number (Ok d) = direction_number d ≡ number
Decodes number (Err f) = (f ≡ outside_stream) × ((d : Direction) → direction_number d ≢ number)
