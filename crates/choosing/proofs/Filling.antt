-- An array that a closure filled, which answers at each place what a function says there.
use Rattle.std.proofs.Common.{◌≡◌, ℕ, ◌<◌, Bool, List, map, None, Option, ap, ◌∙◌, arith}
use Rattle.std.proofs.lemmas.List.FromFn.{fill_by_all, length-map-range_with_len, get_or-map-range_with_len}
use Rattle.std.specs.Array.{IsFromFnResult}
use Rattle.std.specs.List.{range_with_len}
use Rattle.line.proofs.Arrays.{answers_at}
use Rattle.order.specs.Least.{least_of, place_of}
use Rattle.choosing.specs.Picks.{least_place}
use denote.Param.Members.{Mut, Called}

-- functions that agree at each place say the same
pub same_map : {X : Type 0} (d : X) (n : ℕ) (f g : ℕ → X) → ((k : ℕ) → k < n → f k ≡ g k) → map f (range_with_len 0 n) ≡ map g (range_with_len 0 n)
same_map d n f g e = fill_by_all g (map f (range_with_len 0 n)) n d (length-map-range_with_len f 0 n) (λ k l. get_or-map-range_with_len f 0 n k k d l (omega arith) ∙ e k l)

-- keys that agree at each place have one least place
pub same_least : {X : Type 0} (before : X → X → Bool) (n : ℕ) (f g : ℕ → Option X) → ((k : ℕ) → k < n → f k ≡ g k) → least_place before n f ≡ least_place before n g
same_least before n f g e = ap (λ keys. place_of (least_of before keys)) (same_map None n f g e)

module _ {F X : Type 0} (g : Mut F (ℕ × Unit {0}) X) (key : ℕ → X) (f : F) (told : (i : ℕ) (y : X) (q : F) → Called g f (i, tt) y q → (y ≡ key i) × (q ≡ f)) (xs : List X) (n : ℕ) (d : X) (made : IsFromFnResult g f xs n) where
  pub filled : xs ≡ map key (range_with_len 0 n)
  filled = fill_by_all key xs n d made.long (λ k lt. answers_at g (λ i y. y ≡ key i) f told xs n made k d lt)

-- the least of the keys that were written
module _ {F X : Type 0} (g : Mut F (ℕ × Unit {0}) (Option X)) (key : ℕ → Option X) (f : F) (told : (i : ℕ) (y : Option X) (q : F) → Called g f (i, tt) y q → (y ≡ key i) × (q ≡ f)) (keys : List (Option X)) (n : ℕ) (made : IsFromFnResult g f keys n) where
  pub picked : (before : X → X → Bool) (r : Option ℕ) → r ≡ place_of (least_of before keys) → r ≡ least_place before n key
  picked before r e = e ∙ ap (λ keys. place_of (least_of before keys)) (filled g key f told keys n None made)
