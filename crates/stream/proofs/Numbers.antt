-- Numbers read from bytes and written in bytes by the library.
use Rattle.std.proofs.Common.{◌≡◌, ℕ, zero, suc, ◌+◌, ◌*◌, ◌/◌, ◌%◌, ◌^◌, ◌<◌, List, [], ◌∷◌, length, sym, ap, ◌∙◌, div-one, mod-eq_of_lt, mul_assoc, mul_comm, add-mul, pow-suc, arith, lit<}
use native.Mathlib.Nat.{one-le-pow, mod-one}
use lib.Arith.{mod-mul}
use Rattle.std.proofs.lemmas.Nat.{from_be_bytes-to_be_bytes_2, from_be_bytes-to_be_bytes_4, from_be_bytes-to_be_bytes_8}
use Rattle.std.specs.Int.{w16, w32, w64, from_be_bytes}
use Rattle.stream.specs.Numbers.{big_endian_after, big_endian, bytes_of}

-- the number that so many bytes spell is the library's
pub big_endian_2 : (bs : List ℕ) → length bs ≡ 2 → big_endian bs ≡ from_be_bytes w16 bs
big_endian_2 (a ∷ b ∷ []) h = omega arith
big_endian_2 _ h = absurd (omega arith)

pub big_endian_4 : (bs : List ℕ) → length bs ≡ 4 → big_endian bs ≡ from_be_bytes w32 bs
big_endian_4 (a ∷ b ∷ c ∷ d ∷ []) h = omega arith
big_endian_4 _ h = absurd (omega arith)

pub big_endian_8 : (bs : List ℕ) → length bs ≡ 8 → big_endian bs ≡ from_be_bytes w64 bs
big_endian_8 (a ∷ b ∷ c ∷ d ∷ e ∷ f ∷ g ∷ k ∷ []) h = omega arith
big_endian_8 _ h = absurd (omega arith)

-- the bytes of a number, read behind another
read_after : (m many n : ℕ) → big_endian_after m (bytes_of many n) ≡ m * 256 ^ many + n % 256 ^ many
read_after m zero n = let e = mod-one n in omega arith
read_after m (suc many) n =
    let p = 256 ^ many in
    let pos : 0 < p = one-le-pow many 256 (lit< tt) in
    let d = n / p % 256 in
    let split : n % (256 * p) ≡ d * p + n % p = mod-mul n {m = 256} {c = p} (lit< tt) pos in
    let power : 256 ^ suc many ≡ 256 * p = pow-suc 256 many ∙ mul_comm p 256 in
    let sum : (m * 256 + d) * p ≡ m * 256 * p + d * p = add-mul (m * 256) d p in
    let grouped : m * 256 * p ≡ m * (256 * p) = mul_assoc m 256 p in
    let more = read_after (m * 256 + d) many n in
    let e : m * (256 * p) + n % (256 * p) ≡ m * 256 ^ suc many + n % 256 ^ suc many = ap (λ k. m * k + n % k) (sym power) in
    more ∙ (omega arith ∙ e)

pub read_number : (many n : ℕ) → n < 256 ^ many → big_endian (bytes_of many n) ≡ n
read_number many n h = let e = read_after 0 many n in let m : n % 256 ^ many ≡ n = mod-eq_of_lt h in omega arith

-- the bytes of a number are read as the number
pub read_2 : (n : ℕ) → n < 2 ^ 16 → big_endian (bytes_of 2 n) ≡ n
read_2 n h = omega (arith, div-one n, from_be_bytes-to_be_bytes_2 n h)

pub read_4 : (n : ℕ) → n < 2 ^ 32 → big_endian (bytes_of 4 n) ≡ n
read_4 n h = omega (arith, div-one n, from_be_bytes-to_be_bytes_4 n h)

pub read_8 : (n : ℕ) → n < 2 ^ 64 → big_endian (bytes_of 8 n) ≡ n
read_8 n h = omega (arith, div-one n, from_be_bytes-to_be_bytes_8 n h)

-- for goals on numbers and their bytes
pub ruleset numbers = (div-one, big_endian_2, big_endian_4, big_endian_8)
