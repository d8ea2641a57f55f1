-- Events as bytes.
use Rattle.std.specs.Prelude.{◌≡◌, ℕ, ◌+◌, ◌^◌, ◌<◌, List, [], ◌∷◌, ◌++◌, length, Some, None, Option}
use Rattle.std.specs.List.{flat_map, AllByRecursion}
use Rattle.sharing.specs.Names.{rule_name}
use Rattle.stream.specs.declared.event.Event.{Event}
use Rattle.stream.specs.declared.event.Event.TheVariants.{Begin, Pool, Open, Arrival, Schedule, End, Close, Work, Collect}
use Rattle.stream.specs.declared.event.Spelled.{Spelled}
use Rattle.stream.specs.declared.event.SpelledRates.{SpelledRates}
use Rattle.stream.specs.declared.tag.Tag.{Tag}
use Rattle.stream.specs.declared.tag.Tag.TheVariants as tag
use Rattle.stream.specs.Numbers.{bytes_of}
use Rattle.stream.specs.Streams.{stream_of}
use Rattle.stream.specs.Tags.{tag_number}

-- the tag of an event's field
abbrev pub tag_in : Event → Tag
tag_in (Begin throughput most rule) = tag.Begin
tag_in (Pool instant rates) = tag.Pool
tag_in (Open instant pool rates) = tag.Open
tag_in (Arrival session direction address sectors) = tag.Arrival
tag_in (Schedule instant) = tag.Schedule
tag_in (End session) = tag.End
tag_in (Close session) = tag.Close
tag_in Work = tag.Work
tag_in Collect = tag.Collect

-- an absent limit has no bytes
abbrev pub limit_bytes : Option ℕ → List ℕ
limit_bytes None = []
limit_bytes (Some limit) = bytes_of 4 limit

-- reserve, burst and limit
abbrev pub rates_bytes : SpelledRates → List ℕ
rates_bytes rates = bytes_of 4 rates.reserve ++ (rates.burst ∷ limit_bytes rates.limit)

-- the value of an event's field
abbrev pub value_in : Event → List ℕ
value_in (Begin throughput most rule) = bytes_of 4 throughput ++ (most ∷ rule_name rule)
value_in (Pool instant rates) = bytes_of 8 instant ++ rates_bytes rates
value_in (Open instant pool rates) = bytes_of 8 instant ++ (pool ∷ rates_bytes rates)
value_in (Arrival session direction address sectors) = bytes_of 4 session ++ (direction ∷ (bytes_of 4 address ++ (sectors ∷ [])))
value_in (Schedule instant) = bytes_of 8 instant
value_in (End session) = bytes_of 4 session
value_in (Close session) = bytes_of 4 session
value_in Work = []
value_in Collect = []

-- an event's field: the tag, the length of the value in two bytes, and the value
abbrev pub spelling : Event → List ℕ
spelling event = tag_number (tag_in event) ∷ (bytes_of 2 (length (value_in event)) ++ value_in event)

-- a limit of four bytes, if there is one
abbrev pub LimitFits : Option ℕ → Type 0
LimitFits None = Unit {0}
LimitFits (Some limit) = limit < 2 ^ 32

-- rates whose numbers fit their bytes
abbrev pub RatesFit : SpelledRates → Type 0
RatesFit rates = (rates.reserve < 2 ^ 32) × (rates.burst < 256) × LimitFits rates.limit

-- the numbers of an event fit the bytes of their fields
abbrev pub NumbersFit : Event → Type 0
NumbersFit (Begin throughput most rule) = (throughput < 2 ^ 32) × (most < 256)
NumbersFit (Pool instant rates) = (instant < 2 ^ 64) × RatesFit rates
NumbersFit (Open instant pool rates) = (instant < 2 ^ 64) × (pool < 256) × RatesFit rates
NumbersFit (Arrival session direction address sectors) = (session < 2 ^ 32) × (direction < 256) × (address < 2 ^ 32) × (sectors < 256)
NumbersFit (Schedule instant) = instant < 2 ^ 64
NumbersFit (End session) = session < 2 ^ 32
NumbersFit (Close session) = session < 2 ^ 32
NumbersFit Work = Unit {0}
NumbersFit Collect = Unit {0}

-- events with the offsets of their fields, which follow one another from an offset on
abbrev pub events_at : ℕ → List Event → List Spelled
events_at offset [] = []
events_at offset (event ∷ events) = record { offset = offset; event = event } ∷ events_at (offset + length (spelling event)) events

-- reading the bytes gives these events and no fault
abbrev pub ReadBack : List Event → List ℕ → Type 0
ReadBack events bytes = stream_of bytes ≡ record { events = events_at 0 events; fault = None }

-- what was written is read back, for every list of events whose numbers fit
abbrev pub RoundTrip : Type 0
RoundTrip = (events : List Event) → AllByRecursion NumbersFit events → ReadBack events (flat_map spelling events)
