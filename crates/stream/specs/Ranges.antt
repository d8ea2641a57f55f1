-- Events turned into checked values.
use Rattle.std.specs.Prelude.{◌≡◌, ℕ, ◌+◌, Bool, true, false, Ok, Err, Result, MatchResult, is_ok, ◌&&◌, ◌||◌, ◌==◌, nat_le}
use Rattle.values.specs.declared.direction.Direction.TheVariants.{Read, Write}
use Rattle.values.specs.Direction.{direction_number}
use Rattle.values.specs.declared.fault.ValueFault.{ValueFault}
use Rattle.values.specs.Rates.{rates_allowed}
use Rattle.values.specs.Refusals.{outside_stream}
use Rattle.values.specs.declared.rates.Rates.{Rates}
use Rattle.values.specs.Settings.{settings_allowed}
use Rattle.stream.specs.declared.checked.Checked.{Checked}
use Rattle.stream.specs.declared.checked.Checked.TheVariants as checked
use Rattle.stream.specs.declared.event.Event.{Event}
use Rattle.stream.specs.declared.event.SpelledRates.{SpelledRates}
use Rattle.stream.specs.declared.event.Event.TheVariants.{Begin, Pool, Open, Arrival, Schedule, End, Close, Work, Collect}

-- an instant is at most 1,099,511,627,775
abbrev pub instant_lawful : ℕ → Bool
instant_lawful micros = nat_le micros 1099511627775

-- a direction is that of a read or of a write
abbrev pub direction_lawful : ℕ → Bool
direction_lawful number = number == direction_number Read || number == direction_number Write

-- 1 to 64 sectors, none of them past the last address
abbrev pub extent_lawful : ℕ → ℕ → Bool
extent_lawful address sectors = nat_le 1 sectors && (nat_le sectors 64 && nat_le (address + sectors) 4294967295)

-- every number of an event is in its range; pool numbers and session names have none
abbrev pub in_range : Event → Bool
in_range (Begin throughput most rule) = settings_allowed throughput most
in_range (Pool instant rates) = instant_lawful instant && rates_allowed rates.reserve rates.limit rates.burst
in_range (Open instant pool rates) = instant_lawful instant && rates_allowed rates.reserve rates.limit rates.burst
in_range (Arrival session direction address sectors) = direction_lawful direction && extent_lawful address sectors
in_range (Schedule instant) = instant_lawful instant
in_range (End session) = true
in_range (Close session) = true
in_range Work = true
in_range Collect = true

-- rates as a field spells them
abbrev pub spelled : Rates → SpelledRates
spelled rates = record { reserve = rates.reserve; burst = rates.burst; limit = rates.limit }

-- the rates that spelled numbers stand for; refused exactly where they are not allowed
abbrev pub RatesOf : SpelledRates → Result Rates ValueFault → Type 0
RatesOf rates (Ok x) = spelled x ≡ rates
RatesOf rates (Err f) = (f ≡ outside_stream) × (rates_allowed rates.reserve rates.limit rates.burst ≡ false)

-- the event that checked values say
abbrev pub checked_says : Checked → Event
checked_says (checked.Begin settings rule) = Begin settings.throughput settings.«cap» rule
checked_says (checked.Pool instant rates) = Pool instant.micros (spelled rates)
checked_says (checked.Open instant pool rates) = Open instant.micros pool (spelled rates)
checked_says (checked.Arrival io) = Arrival io.session (direction_number io.direction) io.extent.address io.extent.length
checked_says (checked.Schedule instant) = Schedule instant.micros
checked_says (checked.End session) = End session
checked_says (checked.Close session) = Close session
checked_says checked.Work = Work
checked_says checked.Collect = Collect

-- an event turned into checked values: they say what it says, and it is refused exactly where a number is out of its range
abbrev pub ValuesOf : Event → Result Checked ValueFault → Type 0
ValuesOf event result = (is_ok result ≡ in_range event) × MatchResult result (λ x. checked_says x ≡ event) (λ _. in_range event ≡ false)
