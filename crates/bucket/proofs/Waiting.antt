-- The wait for an amount is right.
use Rattle.std.proofs.Common.{◌≡◌, ℕ, suc, ◌+◌, ◌-◌, ◌*◌, ◌/◌, ◌%◌, ◌<◌, ◌≤◌, mul-le-mul_right, suc-mul, mul_comm, arith}
use Rattle.std.proofs.lemmas.Nat.{div-add-mod', div_below, mod_below}
use Rattle.bucket.specs.Buckets.{capacity, settled_units}
use Rattle.bucket.specs.Due.{HoldsFrom, WaitIsRight, wait_for}

-- the wait, or longer, fills what is missing
wait_fills : (gap rate micros : ℕ) → 1 ≤ rate → (gap + (rate - 1)) / rate ≤ micros → gap ≤ rate * micros
wait_fills gap rate micros some long =
    let e : (gap + (rate - 1)) / rate * rate + (gap + (rate - 1)) % rate ≡ gap + (rate - 1) = div-add-mod' (gap + (rate - 1)) rate in
    let b : (gap + (rate - 1)) % rate < rate = mod_below (gap + (rate - 1)) rate some in
    let m : (gap + (rate - 1)) / rate * rate ≤ micros * rate = mul-le-mul_right rate long in
    omega (arith, mul_comm rate micros)

-- what fills it is not shorter than the wait
wait_least : (gap rate micros : ℕ) → 1 ≤ rate → gap ≤ rate * micros → (gap + (rate - 1)) / rate ≤ micros
wait_least gap rate micros some fills =
    let below : gap + (rate - 1) < suc micros * rate = omega (arith, suc-mul micros rate, mul_comm rate micros) in
    let q : (gap + (rate - 1)) / rate < suc micros = div_below (gap + (rate - 1)) rate (suc micros) some below in
    omega arith

pub wait_is_right_lem : WaitIsRight
wait_is_right_lem amount rate burst units some room = (omega arith, λ micros. (λ h. from micros h, λ h. to micros h))
  where
    from : (micros : ℕ) → amount ≤ settled_units rate burst units micros → wait_for amount rate units ≤ 0 + micros
    from micros h =
        let filled : amount - units ≤ rate * micros = omega arith in
        let least : wait_for amount rate units ≤ micros = wait_least (amount - units) rate micros some filled in
        omega arith

    to : (micros : ℕ) → wait_for amount rate units ≤ 0 + micros → amount ≤ settled_units rate burst units micros
    to micros h =
        let long : wait_for amount rate units ≤ micros = omega arith in
        let filled : amount - units ≤ rate * micros = wait_fills (amount - units) rate micros some long in
        omega arith

-- the same, counted from any instant on
pub wait_from : (amount rate burst units present : ℕ) → 1 ≤ rate → amount ≤ capacity burst → HoldsFrom (λ micros. amount ≤ settled_units rate burst units micros) present (present + wait_for amount rate units)
wait_from amount rate burst units present some room = (
  omega arith,
  λ micros.
      let right = (wait_is_right_lem amount rate burst units some room).1 micros in (
        λ h. let w : wait_for amount rate units ≤ 0 + micros = right.0 h in omega arith,
        λ h. right.1 (let w : present + wait_for amount rate units ≤ present + micros = h in omega arith),
      ),
)
