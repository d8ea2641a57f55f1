-- Worked examples of head runs, as theorems of the very definitions that the contracts cite.
use Rattle.std.specs.Prelude.{◌≡◌, ℕ, ◌+◌, ◌≤◌, [], ◌∷◌, Some, None}
use Rattle.std.proofs.Common.{lit≤}
use Rattle.line.specs.Line.{without}
use Rattle.values.specs.declared.direction.Direction.TheVariants.{Read, Write}
use Rattle.values.specs.declared.extent.Extent.{Extent}
use Rattle.values.specs.declared.io.Io.{Io}
use Rattle.heads.specs.Heads.{HeadRun, head_of}

-- sectors from an address on
abbrev extent : (address length : ℕ) → 1 ≤ length → length ≤ 64 → address + length ≤ 4294967295 → Extent
extent address length some most ends = record { address = address; length = length; some = some; most = most; ends = ends }

-- a read of session 0
abbrev reads : Extent → Io
reads e = record { session = 0; direction = Read; extent = e }

abbrev run : (count address length : ℕ) → HeadRun
run count address length = record { count = count; direction = 0; address = address; length = length }

-- 32 sectors at 0, 32 at 32, 33 at 0 and 32 at 33
abbrev low : Extent
low = extent 0 32 (lit≤ tt) (lit≤ tt) (lit≤ tt)

abbrev next : Extent
next = extent 32 32 (lit≤ tt) (lit≤ tt) (lit≤ tt)

abbrev long : Extent
long = extent 0 33 (lit≤ tt) (lit≤ tt) (lit≤ tt)

abbrev behind : Extent
behind = extent 33 32 (lit≤ tt) (lit≤ tt) (lit≤ tt)

-- who owns an I/O
abbrev owner : Io → ℕ
owner io = io.session

pub record HeadEdges : Type 0 where
  -- 32 and 32 adjoining sectors are one run
  pub one : head_of 0 (reads low ∷ reads next ∷ []) ≡ Some (run 2 0 64)
  -- of 33 and 32 the head run is the 33 alone and, that taken out, the 32
  pub first : head_of 0 (reads long ∷ reads behind ∷ []) ≡ Some (run 1 0 33)
  pub second : head_of 0 (without owner 0 1 (reads long ∷ reads behind ∷ [])) ≡ Some (run 1 33 32)
  -- a write does not join a read, and another session's I/O between two that adjoin does not part them
  pub apart : head_of 0 (reads low ∷ record { session = 0; direction = Write; extent = next } ∷ []) ≡ Some (run 1 0 32)
  pub between : head_of 0 (reads low ∷ record { session = 1; direction = Write; extent = long } ∷ reads next ∷ []) ≡ Some (run 2 0 64)
  -- nothing waits
  pub none : head_of 0 (record { session = 1; direction = Read; extent = low } ∷ []) ≡ None
