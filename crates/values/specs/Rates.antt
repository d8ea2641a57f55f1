-- The rates of a pool or session.
use Rattle.std.specs.Prelude.{ℕ, Bool, true, ◌&&◌, Some, None, Option, nat_le}

-- a limit is absent, or 1 to 100,000 runs per second and at least the reserve
abbrev pub limit_allowed : ℕ → Option ℕ → Bool
limit_allowed reserve None = true
limit_allowed reserve (Some limit) = nat_le 1 limit && (nat_le limit 100000 && nat_le reserve limit)

-- a reserve is 0 to 100,000 runs per second, and a burst 1 to 64 runs
abbrev pub rates_allowed : ℕ → Option ℕ → ℕ → Bool
rates_allowed reserve limit burst = nat_le reserve 100000 && (limit_allowed reserve limit && (nat_le 1 burst && nat_le burst 64))
