-- The least key of a line of keys.
use Rattle.std.specs.Prelude.{◌≡◌, ℕ, suc, ◌<◌, Bool, true, false, if◌then◌else◌, List, [], ◌∷◌, length, Some, None, Option, slice_index_or}
use Rattle.std.specs.List.{IsFirstBest}

-- the place of the least key: none exactly if there are no keys; else no key goes before it, and it goes before each key that stands earlier in line
abbrev pub Least : {X : Type 0} → (X → X → Bool) → List X → Option ℕ → Type 0
Least before keys None = length keys ≡ 0
Least before keys (Some b) = IsFirstBest before keys (length keys) b

-- a place has a candidate, and its key is x
abbrev pub Candidate : {X : Type 0} → List (Option X) → ℕ → X → Type 0
Candidate keys k x = (k < length keys) × (slice_index_or keys k None ≡ Some x)

-- no candidate goes before the key x
abbrev pub NoneBefore : {X : Type 0} → (X → X → Bool) → List (Option X) → X → Type 0
NoneBefore {X} before keys x = (k : ℕ) (y : X) → Candidate keys k y → before y x ≡ false

-- the least candidate stands at b, and its key is x: no other goes before it, and it goes before each that stands earlier in line
pub record LeastAt {X : Type 0} (before : X → X → Bool) (keys : List (Option X)) (b : ℕ) (x : X) : Type 0 where
  pub here : Candidate keys b x
  pub least : NoneBefore before keys x
  pub first : (k : ℕ) (y : X) → k < b → Candidate keys k y → before x y ≡ true

-- the place of the least candidate: none exactly if there is no candidate
abbrev pub LeastCandidate : {X : Type 0} → (X → X → Bool) → List (Option X) → Option ℕ → Type 0
LeastCandidate before keys None = (k : ℕ) → k < length keys → slice_index_or keys k None ≡ None
LeastCandidate {X} before keys (Some b) = (x : X) × LeastAt before keys b x

-- ---- the same as a function of the keys

-- a place and its key, one place further on
abbrev pub one_place_on : {X : Type 0} → Option (ℕ × X) → Option (ℕ × X)
one_place_on None = None
one_place_on (Some p) = Some (suc p.0, p.1)

-- of the key in front and the least of those behind it, the one that goes first; a tie goes to the front
abbrev pub front_or : {X : Type 0} → (X → X → Bool) → X → Option (ℕ × X) → ℕ × X
front_or before x None = (0, x)
front_or before x (Some p) = if before p.1 x then p else (0, x)

-- the least candidate, with its place
abbrev pub least_of : {X : Type 0} → (X → X → Bool) → List (Option X) → Option (ℕ × X)
least_of before [] = None
least_of before (None ∷ keys) = one_place_on (least_of before keys)
least_of before (Some x ∷ keys) = Some (front_or before x (one_place_on (least_of before keys)))

abbrev pub place_of : {X : Type 0} → Option (ℕ × X) → Option ℕ
place_of None = None
place_of (Some p) = Some p.0

abbrev pub key_of : {X : Type 0} → Option (ℕ × X) → Option X
key_of None = None
key_of (Some p) = Some p.1

-- ---- the only possible choice

-- two keys tie only if they have one name
abbrev pub TiesShareName : {X : Type 0} → (X → X → Bool) → (X → ℕ) → Type 0
TiesShareName {X} before name = (x y : X) → before x y ≡ false → before y x ≡ false → name x ≡ name y

-- different candidates have different names
abbrev pub DifferentNames : {X : Type 0} → (X → ℕ) → List (Option X) → Type 0
DifferentNames {X} name keys = (j k : ℕ) (x y : X) → Candidate keys j x → Candidate keys k y → name x ≡ name y → j ≡ k

-- each candidate that no other goes before stands at the place r
abbrev pub OnlyChoice : {X : Type 0} → (X → X → Bool) → List (Option X) → Option ℕ → Type 0
OnlyChoice {X} before keys r = (c : ℕ) (x : X) → Candidate keys c x → NoneBefore before keys x → r ≡ Some c
