-- The tags of fields.
use Rattle.std.specs.Prelude.{◌≡◌, ◌≢◌, ℕ, Bool, if◌then◌else◌, ◌||◌, List, [], ◌∷◌, Some, None, Option, Result, ok_or, MatchResult, ◌==◌, nat_le}
use Rattle.stream.specs.declared.tag.Tag.{Tag}
use Rattle.stream.specs.declared.tag.UnknownTag.{UnknownTag}
use Rattle.stream.specs.declared.tag.Tag.TheVariants.{Begin, Pool, Open, Arrival, Schedule, End, Close, Work, Collect}

-- the number that stands for each tag
abbrev pub tag_number : Tag → ℕ
tag_number Begin = 1
tag_number Pool = 2
tag_number Open = 3
tag_number Arrival = 4
tag_number Schedule = 5
tag_number End = 6
tag_number Close = 7
tag_number Work = 8
tag_number Collect = 9

-- the lawful lengths of each tag's value
abbrev pub length_lawful : Tag → ℕ → Bool
length_lawful Begin n = nat_le 5 n
length_lawful Pool n = n == 13 || n == 17
length_lawful Open n = n == 14 || n == 18
length_lawful Arrival n = n == 10
length_lawful Schedule n = n == 8
length_lawful End n = n == 4
length_lawful Close n = n == 4
length_lawful Work n = n == 0
length_lawful Collect n = n == 0

abbrev pub tags : List Tag
tags = Begin ∷ Pool ∷ Open ∷ Arrival ∷ Schedule ∷ End ∷ Close ∷ Work ∷ Collect ∷ []

-- the first tag of a list that a number stands for
abbrev pub tag_among : ℕ → List Tag → Option Tag
tag_among n [] = None
tag_among n (t ∷ ts) = if n == tag_number t then Some t else tag_among n ts

-- the tag that a number stands for
abbrev pub tag_of : ℕ → Option Tag
tag_of n = tag_among n tags

-- the tag that is read of a number is the one that it stands for, and the only one; where none is, no tag has the number
abbrev pub StandsFor : ℕ → Result Tag UnknownTag → Type 0
StandsFor number result = (result ≡ ok_or (tag_of number) (record {})) × MatchResult result (λ t. tag_number t ≡ number) (λ _. (t : Tag) → tag_number t ≢ number)
