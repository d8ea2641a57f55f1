-- Sectors that lie side by side.
use Rattle.std.specs.Prelude.{ℕ, ◌+◌, ◌≤◌}
use Rattle.values.specs.declared.extent.Extent.{Extent}

-- 1 to 64 sectors, none of them past the last address
abbrev pub Lawful : ℕ → ℕ → Type 0
Lawful address length = (1 ≤ length) × (length ≤ 64) × (address + length ≤ 4294967295)

-- the address behind the last sector
abbrev pub end_of : Extent → ℕ
end_of e = e.address + e.length
