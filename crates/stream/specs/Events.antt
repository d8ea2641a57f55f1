-- What a field says, by its tag and its value.
use Rattle.std.specs.Prelude.{ℕ, if◌then◌else◌, List, length, take, drop, Some, None, Ok, Err, Option, Result, ◌==◌, slice_index}
use Rattle.sharing.specs.declared.shipped.Rule.{Rule}
use Rattle.sharing.specs.Names.{rule_of}
use Rattle.stream.specs.declared.event.Event.{Event}
use Rattle.stream.specs.declared.event.SpelledRates.{SpelledRates}
use Rattle.stream.specs.declared.event.Event.TheVariants.{Begin, Pool, Open, Arrival, Schedule, End, Close, Work, Collect}
use Rattle.stream.specs.declared.fault.StreamFault.{StreamFault}
use Rattle.stream.specs.declared.fault.StreamWhy.{StreamWhy}
use Rattle.stream.specs.declared.fault.StreamWhy.TheVariants.{UnknownTag, WrongLength, RuleName}
use Rattle.stream.specs.declared.tag.Tag.{Tag}
use Rattle.stream.specs.declared.tag.Tag.TheVariants as tag
use Rattle.stream.specs.Numbers.{big_endian}
use Rattle.stream.specs.Tags.{tag_of, length_lawful}

-- a begin, unless no rule has the name
abbrev pub begun : ℕ → ℕ → Option Rule → Result Event StreamWhy
begun throughput most (Some rule) = Ok (Begin throughput most rule)
begun throughput most None = Err RuleName

-- a limit is absent where no bytes spell it
abbrev pub limit_in : List ℕ → Option ℕ
limit_in bytes = if length bytes == 0 then None else Some (big_endian bytes)

-- reserve, burst, and the limit or nothing
abbrev pub rates_in : List ℕ → SpelledRates
rates_in bytes = record { reserve = big_endian (take 4 bytes); burst = slice_index bytes 4; limit = limit_in (drop 5 bytes) }

-- what a value of a lawful length says
abbrev pub said_by : Tag → List ℕ → Result Event StreamWhy
said_by tag.Begin v = begun (big_endian (take 4 v)) (slice_index v 4) (rule_of (drop 5 v))
said_by tag.Pool v = Ok (Pool (big_endian (take 8 v)) (rates_in (drop 8 v)))
said_by tag.Open v = Ok (Open (big_endian (take 8 v)) (slice_index v 8) (rates_in (drop 9 v)))
said_by tag.Arrival v = Ok (Arrival (big_endian (take 4 v)) (slice_index v 4) (big_endian (take 4 (drop 5 v))) (slice_index v 9))
said_by tag.Schedule v = Ok (Schedule (big_endian v))
said_by tag.End v = Ok (End (big_endian v))
said_by tag.Close v = Ok (Close (big_endian v))
said_by tag.Work v = Ok Work
said_by tag.Collect v = Ok Collect

-- what a value of any length says
abbrev pub said_under : Option Tag → List ℕ → Result Event StreamWhy
said_under None v = Err UnknownTag
said_under (Some t) v = if length_lawful t (length v) then said_by t v else Err WrongLength

-- the event of a field, or the first fault in this order: the tag is unknown, the length is not the tag's, the rule's name is none
abbrev pub event_of : ℕ → List ℕ → Result Event StreamWhy
event_of number v = said_under (tag_of number) v

-- a fault with the offset of its field
abbrev pub placed : {X : Type 0} → ℕ → Result X StreamWhy → Result X StreamFault
placed offset (Ok x) = Ok x
placed offset (Err why) = Err (record { why = why; offset = offset })
