-- The settings of a service.
use Rattle.std.specs.Prelude.{ℕ, Bool, ◌&&◌, nat_le}

-- a throughput is 1 to 100,000 runs per second, and a cap 1 to 32 runs
abbrev pub settings_allowed : ℕ → ℕ → Bool
settings_allowed throughput cap' = nat_le 1 throughput && (nat_le throughput 100000 && (nat_le 1 cap' && nat_le cap' 32))
