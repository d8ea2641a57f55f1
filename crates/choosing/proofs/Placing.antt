-- What the least place has, for keys that the places have.
use Rattle.std.proofs.Common.{◌≡◌, ℕ, ◌<◌, Bool, false, List, map, length, get_or, Some, None, Option, sym, ◌∙◌, arith}
use Rattle.choosing.specs.Picks.{least_place}
use Rattle.order.proofs.Picking.{least_picked}
use Rattle.order.specs.Least.{LeastCandidate}
use Rattle.std.proofs.lemmas.List.FromFn.{length-map-range_with_len, get_or-map-range_with_len}
use Rattle.std.specs.List.{range_with_len}
use Rattle.std.specs.Cmp.{IsStrictWeakOrder}

-- a place with a key that no other goes before
pub record Goes {X : Type 0} (before : X → X → Bool) (n : ℕ) (key : ℕ → Option X) (b : ℕ) : Type 0 where
  pub best : X
  pub inside : b < n
  pub has : key b ≡ Some best
  pub first : (k : ℕ) (y : X) → k < n → key k ≡ Some y → before y best ≡ false

abbrev pub Placed : {X : Type 0} → (X → X → Bool) → (n : ℕ) → (ℕ → Option X) → Option ℕ → Type 0
Placed before n key None = (k : ℕ) → k < n → key k ≡ None
Placed before n key (Some b) = Goes before n key b

module _ {X : Type 0} (before : X → X → Bool) (o : IsStrictWeakOrder before) (n : ℕ) (key : ℕ → Option X) where
  abbrev keys : List (Option X)
  keys = map key (range_with_len 0 n)

  at : (k : ℕ) → k < n → get_or keys k None ≡ key k
  at k l = get_or-map-range_with_len key 0 n k k None l (omega arith)

  inner : (k : ℕ) → k < n → k < length keys
  inner k l = omega (arith, length-map-range_with_len key 0 n)

  outer : (k : ℕ) → k < length keys → k < n
  outer k l = omega (arith, length-map-range_with_len key 0 n)

  said : (r : Option ℕ) → LeastCandidate before keys r → Placed before n key r
  said None h = λ k l. sym (at k l) ∙ h k (inner k l)
  said (Some b) h =
      let l = outer b h.1.here.0 in
      record { best = h.0; inside = l; has = sym (at b l) ∙ h.1.here.1; first = λ k y l e. h.1.least k y (inner k l, at k l ∙ e) }

  pub least_placed : Placed before n key (least_place before n key)
  least_placed = said (least_place before n key) (least_picked before o keys)
