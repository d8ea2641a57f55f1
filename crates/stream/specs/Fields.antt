-- A stream, field by field.
use Rattle.std.specs.Prelude.{◌≡◌, ℕ, ◌+◌, ◌≤◌, if◌then◌else◌, List, length, take, drop, Some, None, Ok, Err, Option, Result, ◌==◌, nat_le, slice_index}
use Rattle.stream.specs.declared.event.Event.{Event}
use Rattle.stream.specs.declared.event.Spelled.{Spelled}
use Rattle.stream.specs.declared.fault.StreamFault.{StreamFault}
use Rattle.stream.specs.declared.fault.StreamWhy.TheVariants.{CutShort}
use Rattle.stream.specs.declared.field.Field.{Field}
use Rattle.stream.specs.Events.{event_of, placed}
use Rattle.stream.specs.Numbers.{big_endian}

-- a field in plain values
pub record PlainField : Type 0 where
  pub offset : ℕ
  pub tag : ℕ
  pub value : List ℕ

-- the bytes that the field at the front takes: the tag, the length, and as many as the length says
abbrev pub field_size : List ℕ → ℕ
field_size left = 3 + big_endian (take 2 (drop 1 left))

-- the field at the front of the bytes that are left from an offset on: none at the end, and a fault where it is cut short
abbrev pub field_from : ℕ → List ℕ → Result (Option PlainField) StreamFault
field_from offset left =
    if length left == 0 then Ok None
    else (if nat_le 3 (length left)
    then (if nat_le (field_size left) (length left) then Ok (Some (record { offset = offset; tag = slice_index left 0; value = take (big_endian (take 2 (drop 1 left))) (drop 3 left) })) else Err (record { why = CutShort; offset = offset }))
    else Err (record { why = CutShort; offset = offset }))

-- an event with the offset of its field
abbrev pub spelled_at : ℕ → Result Event StreamFault → Result Spelled StreamFault
spelled_at offset (Ok event) = Ok (record { offset = offset; event = event })
spelled_at offset (Err fault) = Err fault

-- the event that a field spells
unfoldable pub spelled_by : PlainField → Result Spelled StreamFault
spelled_by f = spelled_at f.offset (placed f.offset (event_of f.tag f.value))

abbrev pub one_read : Result Spelled StreamFault → Result (Option Spelled) StreamFault
one_read (Ok spelled) = Ok (Some spelled)
one_read (Err fault) = Err fault

abbrev pub decoded : Result (Option PlainField) StreamFault → Result (Option Spelled) StreamFault
decoded (Ok None) = Ok None
decoded (Ok (Some f)) = one_read (spelled_by f)
decoded (Err fault) = Err fault

-- the event that the field at the front spells
abbrev pub event_from : ℕ → List ℕ → Result (Option Spelled) StreamFault
event_from offset left = decoded (field_from offset left)

-- the offset where reading goes on: behind the field, or where it was at the end and at a fault
abbrev pub offset_after : {X : Type 0} → ℕ → List ℕ → Result (Option X) StreamFault → ℕ
offset_after offset left (Ok None) = offset
offset_after offset left (Ok (Some x)) = offset + field_size left
offset_after offset left (Err fault) = offset

-- what a reader's answer says in plain values
abbrev pub plain_field : Field → PlainField
plain_field f = record { offset = f.offset; tag = f.tag; value = f.value.now }

abbrev pub plainly : Result (Option Field) StreamFault → Result (Option PlainField) StreamFault
plainly (Ok None) = Ok None
plainly (Ok (Some f)) = Ok (Some (plain_field f))
plainly (Err fault) = Err fault

-- a field's value is the part of the input after its tag and length
pub record InPlace (input : List ℕ) (f : Field) : Type 0 where
  pub value_is : f.value.now ≡ take (length f.value.now) (drop (f.offset + 3) input)
  pub within : f.offset + 3 + length f.value.now ≤ length input
  pub size_is : field_size (drop f.offset input) ≡ 3 + length f.value.now

abbrev pub ValueInPlace : List ℕ → Result (Option Field) StreamFault → Type 0
ValueInPlace input (Ok None) = Unit {0}
ValueInPlace input (Ok (Some f)) = InPlace input f
ValueInPlace input (Err fault) = Unit {0}
