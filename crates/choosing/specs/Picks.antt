-- The least of the keys that places have.
use Rattle.std.specs.Prelude.{ℕ, zero, suc, Bool, false, ◌||◌, map, Option}
use Rattle.order.specs.Least.{least_of, place_of}
use Rattle.std.specs.List.{range_with_len}

-- the place of the least key, of n places
abbrev pub least_place : {X : Type 0} → (X → X → Bool) → ℕ → (ℕ → Option X) → Option ℕ
least_place before n key = place_of (least_of before (map key (range_with_len 0 n)))

-- one of the first n places passes a test
unfoldable pub some_of : ℕ → (ℕ → Bool) → Bool
some_of zero test = false
some_of (suc n) test = some_of n test || test n
