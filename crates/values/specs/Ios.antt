-- I/Os from plain numbers.
use Rattle.std.specs.Prelude.{◌≡◌, ℕ}
use Rattle.values.specs.declared.direction.Direction.{Direction}
use Rattle.values.specs.declared.io.Io.{Io}
use Rattle.values.specs.Direction.{direction_number}

-- a number stands for a direction
abbrev pub IsDirection : ℕ → Type 0
IsDirection n = (d : Direction) × (direction_number d ≡ n)

-- an I/O says what four numbers say
pub record Says (session direction address length : ℕ) (io : Io) : Type 0 where
  pub session_is : io.session ≡ session
  pub direction_is : direction_number io.direction ≡ direction
  pub address_is : io.extent.address ≡ address
  pub length_is : io.extent.length ≡ length
