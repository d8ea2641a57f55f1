-- How large a weight is.
use Rattle.std.proofs.Common.{ℕ, ◌*◌, ◌^◌, ◌<◌, ◌≤◌, arith, lit≤, pow_pos}
use native.Mathlib.Nat.{pow-le-pow_left}
use Rattle.std.proofs.lemmas.Nat.{div_below}
use Rattle.sharing.specs.Levels.{weight_of}

-- no weight is above that of the present quarter
pub weight_most : (age : ℕ) → weight_of age ≤ 1000000
weight_most age =
    let nine : 9 ^ age ≤ 10 ^ age = pow-le-pow_left (lit≤ tt) age in
    let two : 2 ^ age ≤ 10 ^ age = pow-le-pow_left (lit≤ tt) age in
    let some : 0 < 2 ^ age = pow_pos age in
    let below : weight_of age < 1000001 = div_below (9 ^ age * 1000000) (10 ^ age) 1000001 (omega arith) (omega arith) in
    omega arith
