-- Numbers as bytes, the high byte first.
use Rattle.std.specs.Prelude.{ℕ, zero, suc, ◌+◌, ◌*◌, ◌/◌, ◌%◌, ◌^◌, List, [], ◌∷◌}

-- the number that bytes spell behind a number read so far
abbrev pub big_endian_after : ℕ → List ℕ → ℕ
big_endian_after n [] = n
big_endian_after n (b ∷ bs) = big_endian_after (n * 256 + b) bs

-- the number that bytes spell
abbrev pub big_endian : List ℕ → ℕ
big_endian bytes = big_endian_after 0 bytes

-- the bytes that spell a number, so many of them
abbrev pub bytes_of : ℕ → ℕ → List ℕ
bytes_of zero n = []
bytes_of (suc many) n = (n / 256 ^ many % 256) ∷ bytes_of many n
