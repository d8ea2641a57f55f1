-- The number of each fault of the stream's layer. (Number 5 is the values', 6 and up the service's.)
use Rattle.std.specs.Prelude.{ℕ}
use Rattle.stream.specs.declared.fault.StreamWhy.{StreamWhy}
use Rattle.stream.specs.declared.fault.StreamWhy.TheVariants.{CutShort, UnknownTag, WrongLength, RuleName}

abbrev pub why_number : StreamWhy → ℕ
why_number CutShort = 1
why_number UnknownTag = 2
why_number WrongLength = 3
why_number RuleName = 4
