-- Pairs stay pairs, and settling in steps is settling at once.
use Rattle.std.proofs.Common.{◌≡◌, ℕ, ◌+◌, ◌*◌, ◌≤◌, true, Some, None, Option, refl, ap, mul-le-mul_right, mul-zero, mul-add, arith}
use Rattle.std.proofs.lemmas.Bool.Decides.{nat_tests}
use Rattle.values.specs.Rates.{rates_allowed}
use Rattle.bucket.specs.Buckets.{capacity, charged_limit, charged_units, full_limit, is_pair, settled_limit, settled_units}

pub fresh_is_pair : (burst : ℕ) (limit : Option ℕ) → is_pair burst limit 0 (full_limit limit burst) ≡ true
fresh_is_pair burst None = grind (arith, nat_tests)
fresh_is_pair burst (Some rate) = grind (arith, nat_tests)

-- the limit is at least the reserve, so the limit bucket is filled at least as fast
pub settled_is_pair : (reserve : ℕ) (limit : Option ℕ) (burst units : ℕ) (held : Option ℕ) (micros : ℕ) → rates_allowed reserve limit burst ≡ true → is_pair burst limit units held ≡ true → is_pair burst limit (settled_units reserve burst units micros) (settled_limit limit burst held micros) ≡ true
settled_is_pair reserve None burst units None micros a p = grind (arith, nat_tests)
settled_is_pair reserve None burst units (Some held) micros a p = p
settled_is_pair reserve (Some rate) burst units None micros a p = p
settled_is_pair reserve (Some rate) burst units (Some held) micros a p =
    let below : reserve ≤ rate = grind (arith, nat_tests) in
    let slower : reserve * micros ≤ rate * micros = mul-le-mul_right micros below in
    grind (arith, nat_tests)

pub charged_is_pair : (burst : ℕ) (limit : Option ℕ) (units : ℕ) (held : Option ℕ) → is_pair burst limit units held ≡ true → is_pair burst limit (charged_units units) (charged_limit held) ≡ true
charged_is_pair burst None units None p = grind (arith, nat_tests)
charged_is_pair burst None units (Some held) p = p
charged_is_pair burst (Some rate) units None p = p
charged_is_pair burst (Some rate) units (Some held) p = grind (arith, nat_tests)

-- the promise of every pair
pub reserve_below_limit : (burst : ℕ) (limit : Option ℕ) (units : ℕ) (held : Option ℕ) (most : ℕ) → is_pair burst limit units held ≡ true → held ≡ Some most → (units ≤ most) × (most ≤ capacity burst)
reserve_below_limit burst None units None most p e = absurd (let z : ◌≡◌ {A = ℕ} 0 1 = cc in omega arith)
reserve_below_limit burst None units (Some held) most p e = absurd (let z : ◌≡◌ {A = ℕ} 0 1 = cc in omega arith)
reserve_below_limit burst (Some rate) units None most p e = absurd (let z : ◌≡◌ {A = ℕ} 0 1 = cc in omega arith)
reserve_below_limit burst (Some rate) units (Some held) most p e = let same : held ≡ most = cc in (grind (arith, nat_tests), grind (arith, nat_tests))

pub reserve_below_capacity : (burst : ℕ) (limit : Option ℕ) (units : ℕ) (held : Option ℕ) → is_pair burst limit units held ≡ true → units ≤ capacity burst
reserve_below_capacity burst None units None p = grind (arith, nat_tests)
reserve_below_capacity burst None units (Some held) p = absurd (let z : ◌≡◌ {A = ℕ} 0 1 = cc in omega arith)
reserve_below_capacity burst (Some rate) units None p = absurd (let z : ◌≡◌ {A = ℕ} 0 1 = cc in omega arith)
reserve_below_capacity burst (Some rate) units (Some held) p = grind (arith, nat_tests)

-- the cut at the capacity can wait
pub settled_twice : (rate burst units first second : ℕ) → settled_units rate burst (settled_units rate burst units first) second ≡ settled_units rate burst units (first + second)
settled_twice rate burst units first second = omega (arith, mul-add rate first second)

-- nor does settling to the same instant change anything
settled_by_nothing : (rate burst units : ℕ) → units ≤ capacity burst → settled_units rate burst units 0 ≡ units
settled_by_nothing rate burst units h = omega (arith, mul-zero rate)

limit_by_nothing : (rate : Option ℕ) (burst units : ℕ) (held : Option ℕ) → is_pair burst rate units held ≡ true → settled_limit rate burst held 0 ≡ held
limit_by_nothing None burst units held p = refl
limit_by_nothing (Some rate) burst units None p = refl
limit_by_nothing (Some rate) burst units (Some held) p = ap Some (settled_by_nothing rate burst held (grind (arith, nat_tests)))
