-- A line of text "ADDRESS LENGTH".
use Rattle.std.specs.Prelude.{ℕ, ◌+◌, if◌then◌else◌, ◌&&◌, List, [], ◌∷◌, Some, None, Ok, Err, codes, Option, Result, ◌==◌, nat_le}
use Rattle.seek.specs.declared.request.LineFault.{LineFault}
use Rattle.seek.specs.declared.request.LineFault.TheVariants.{NotTwoNumbers, LengthOutOfRange, PastTheEnd}
use Rattle.seek.specs.Numerals.{numeral}

-- the bytes before the first of a kind, and those after it
abbrev pub before_byte : ℕ → List ℕ → List ℕ
before_byte mark [] = []
before_byte mark (b ∷ bs) = if b == mark then [] else b ∷ before_byte mark bs

abbrev pub after_byte : ℕ → List ℕ → List ℕ
after_byte mark [] = []
after_byte mark (b ∷ bs) = if b == mark then bs else after_byte mark bs

-- two numbers as address and length: the first fault in this order
abbrev pub judged : Option ℕ → Option ℕ → Result (ℕ × ℕ) LineFault
judged None l = Err NotTwoNumbers
judged (Some a) None = Err NotTwoNumbers
judged (Some a) (Some l) = if nat_le 1 l && nat_le l 64 then (if nat_le (a + l) 4294967295 then Ok (a, l) else Err PastTheEnd) else Err LengthOutOfRange

-- what a line asks for: address and length
abbrev pub requested : List ℕ → Result (ℕ × ℕ) LineFault
requested line = judged (numeral (before_byte 32 line)) (numeral (after_byte 32 line))

-- what is printed of a fault
abbrev pub fault_text : LineFault → List ℕ
fault_text NotTwoNumbers = codes "expected ADDRESS LENGTH, two decimal numbers and one space between them"
fault_text LengthOutOfRange = codes "LENGTH is not 1 to 64"
fault_text PastTheEnd = codes "ADDRESS + LENGTH is above 4294967295"
