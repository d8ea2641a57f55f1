-- A whole stream.
use Rattle.std.specs.Prelude.{◌≡◌, ℕ, zero, suc, ◌+◌, ◌-◌, ◌≤◌, List, [], ◌∷◌, length, take, drop, Some, None, Ok, Err, Option, Result}
use Rattle.std.specs.List.{flat_map}
use Rattle.stream.specs.declared.event.Spelled.{Spelled}
use Rattle.stream.specs.declared.fault.StreamFault.{StreamFault}
use Rattle.stream.specs.Fields.{field_size, event_from}

-- the events of a stream in their order, and the fault that ends it, if one does
pub record Outcome : Type 0 where
  pub events : List Spelled
  pub fault : Option StreamFault

-- the end, an event in front of what else is read, or a fault
abbrev pub in_front_of : Result (Option Spelled) StreamFault → Outcome → Outcome
in_front_of (Ok None) rest = record { events = []; fault = None }
in_front_of (Ok (Some spelled)) rest = record { events = spelled ∷ rest.events; fault = rest.fault }
in_front_of (Err fault) rest = record { events = []; fault = Some fault }

-- what is read of the bytes from an offset on, where the first so many still belong to the field before
abbrev pub read_from : ℕ → ℕ → List ℕ → Outcome
read_from offset inside [] = record { events = []; fault = None }
read_from offset (suc inside) (b ∷ bytes) = read_from (offset + 1) inside bytes
read_from offset zero (b ∷ bytes) = in_front_of (event_from offset (b ∷ bytes)) (read_from (offset + 1) (field_size (b ∷ bytes) - 1) bytes)

-- what a stream of bytes spells
abbrev pub stream_of : List ℕ → Outcome
stream_of input = read_from 0 0 input

-- what is left is its first field and, behind it, what is left then
abbrev pub FieldByField : Type 0
FieldByField = (offset : ℕ) (left : List ℕ) → read_from offset 0 left ≡ in_front_of (event_from offset left) (read_from (offset + field_size left) 0 (drop (field_size left) left))

-- the part of the input that the field of an event takes
abbrev pub part_of : List ℕ → Spelled → List ℕ
part_of input spelled = take (field_size (drop spelled.offset input)) (drop spelled.offset input)

-- events whose fields follow one another from an offset to another, none skipped and none read twice
abbrev pub Adjoining : List ℕ → ℕ → List Spelled → ℕ → Type 0
Adjoining input from [] to = from ≡ to
Adjoining input from (spelled ∷ rest) to = (event_from from (drop from input) ≡ Ok (Some spelled)) × (spelled.offset ≡ from) × Adjoining input (from + length (part_of input spelled)) rest to

-- where reading ends: at the end of the input or before the field at fault
abbrev pub ends_at : List ℕ → Option StreamFault → ℕ
ends_at input None = length input
ends_at input (Some fault) = fault.offset

abbrev pub last_read : Option StreamFault → Result (Option Spelled) StreamFault
last_read None = Ok None
last_read (Some fault) = Err fault

-- the fields make up the input as far as it was read
pub record MakesUp (input : List ℕ) (events : List Spelled) (fault : Option StreamFault) : Type 0 where
  pub adjoining : Adjoining input 0 events (ends_at input fault)
  pub parts : flat_map (part_of input) events ≡ take (ends_at input fault) input
  pub within : ends_at input fault ≤ length input
  pub last : event_from (ends_at input fault) (drop (ends_at input fault) input) ≡ last_read fault
