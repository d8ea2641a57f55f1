-- A table whose front is being closed up: the records kept so far stand in its first places.
use Rattle.std.proofs.Common.{◌≡◌, ℕ, zero, suc, ◌+◌, ◌-◌, ◌<◌, ◌≤◌, Bool, true, false, cond, List, [], ◌∷◌, ◌++◌, length, get_or, take, drop, set, sym, refl, ap, ◌∙◌, subst, add-one, arith}
use Rattle.std.specs.List.{remove, copy_within}
use Rattle.std.proofs.lemmas.List.{append-nil, length-set, length-take-le, take-append-drop, take_more, take_more_set, take-take, drop-set-lt, get_or-drop, drop-drop, drop-take, length-drop}
use Rattle.std.proofs.lemmas.List.Edits.{take-paste}
use Rattle.std.proofs.Math.Seq.{drop-paste, length-paste}
use Rattle.line.specs.Line.{unflagged, Closed}

-- ys began as xs: its first k places hold what is kept, and every place from k on is as it was
pub record Front {X : Type 0} (kept xs ys : List X) (k : ℕ) : Type 0 where
  pub held : take k ys ≡ kept
  pub rest : drop k ys ≡ drop k xs
  pub long : length ys ≡ length xs

module _ {X : Type 0} {kept xs ys : List X} {k : ℕ} (h : Front kept xs ys k) where
  -- what stands behind the kept records can still be read as it was
  pub front_read : (i : ℕ) (d : X) → k ≤ i → get_or ys i d ≡ get_or xs i d
  front_read i d le =
      let e : k + (i - k) ≡ i = omega arith in
      ap (λ j. get_or ys j d) (sym e) ∙ (sym (get_or-drop k ys (i - k) d) ∙ (ap (λ l. get_or l (i - k) d) h.rest ∙ (get_or-drop k xs (i - k) d ∙ ap (λ j. get_or xs j d) e)))

  -- one more is kept
  pub front_more : (x : X) → k < length xs → Front (kept ++ x ∷ []) xs (set ys k x) (k + 1)
  front_more x lt =
      let e = h.long in
      record {
        held = take_more_set ys k x (omega arith) ∙ ap (λ l. l ++ x ∷ []) h.held;
        rest = drop-set-lt (k + 1) ys k x (omega arith) ∙ (sym (drop-drop 1 k ys) ∙ (ap (drop 1) h.rest ∙ drop-drop 1 k xs));
        long = length-set ys k x ∙ h.long;
      }

  -- the kept ones are all: the line is closed up
  pub front_closed : k ≤ length xs → Closed kept xs ys k
  front_closed le =
      let e = h.long in
      let many : k ≡ length kept = sym (length-take-le k ys (omega arith)) ∙ ap length h.held in
      record {
        many = many;
        table = sym (take-append-drop k ys) ∙ ((λ t. h.held t ++ h.rest t) ∙ ap (λ n. kept ++ drop n xs) many);
        left = h.held;
      }

-- the same under another name for what is kept
pub front_is : {X : Type 0} {kept kept' xs ys : List X} {k : ℕ} → Front kept xs ys k → kept ≡ kept' → Front kept' xs ys k
front_is h e = record { held = h.held ∙ e; rest = h.rest; long = h.long }

unflagged_nil : {X : Type 0} (flags : List Bool) → unflagged {X = X} flags [] ≡ []
unflagged_nil [] = refl
unflagged_nil (f ∷ fs) = refl

-- the flag at i decides of the record at i; where there is none, the record stays
unflagged_suc : {X : Type 0} (flags : List Bool) (xs : List X) (i : ℕ) (d : X) → i < length xs → unflagged flags (take (suc i) xs) ≡ unflagged flags (take i xs) ++ cond (get_or flags i false) [] (get_or xs i d ∷ [])
unflagged_suc [] xs i d lt = rw add-one at (take_more xs i d lt)
unflagged_suc (f ∷ fs) [] i d lt = absurd (omega arith)
unflagged_suc (true ∷ fs) (x ∷ xs) zero d lt = unflagged_nil fs
unflagged_suc (false ∷ fs) (x ∷ xs) zero d lt = ap (λ l. x ∷ l) (unflagged_nil fs)
unflagged_suc (true ∷ fs) (x ∷ xs) (suc i) d lt = unflagged_suc fs xs i d (omega arith)
unflagged_suc (false ∷ fs) (x ∷ xs) (suc i) d lt = ap (λ l. x ∷ l) (unflagged_suc fs xs i d (omega arith))

-- some element of a list that has one
one : {X : Type 0} (xs : List X) {i : ℕ} → i < length xs → X
one [] lt = absurd (omega arith)
one (x ∷ xs) lt = x

module _ {X : Type 0} (flags : List Bool) {xs ys : List X} {k i : ℕ} (h : Front (unflagged flags (take i xs)) xs ys k) (le : k ≤ i) (lt : i < length xs) where
  decided : (r : X) {b : Bool} → get_or flags i false ≡ b → unflagged flags (take i xs) ++ cond b [] (get_or ys i r ∷ []) ≡ unflagged flags (take (i + 1) xs)
  decided r {b} e = sym (rw add-one (unflagged_suc flags xs i r lt) ∙ (λ t. unflagged flags (take i xs) ++ cond (e t) [] (sym (front_read h i r le) t ∷ [])))

  -- the record at i is flagged, and left behind
  pub front_out : get_or flags i false ≡ true → Front (unflagged flags (take (i + 1) xs)) xs ys k
  front_out e = front_is h (sym (append-nil (unflagged flags (take i xs))) ∙ decided (one xs lt) e)

  -- the record at i is not flagged, and moves up
  pub front_stays : (r : X) → get_or flags i false ≡ false → Front (unflagged flags (take (i + 1) xs)) xs (set ys k (get_or ys i r)) (k + 1)
  front_stays r e = front_is (front_more h (get_or ys i r) (omega arith)) (decided r e)

-- the records behind `at` are copied one place up: the record that stood there is out
pub front_copied : {X : Type 0} (xs : List X) (n at : ℕ) → at < n → n ≤ length xs → Closed (remove (take n xs) at) xs (copy_within xs (at + 1) n at) (n - 1)
front_copied {X} xs n at lt le =
    let m : ℕ = n - (at + 1) in
    let back : List X = drop (at + 1) xs in
    let few : m ≤ length back = omega (arith, length-drop (at + 1) xs) in
    let end : at + m ≡ n - 1 = omega arith in
    let all : n ≡ at + 1 + m = omega arith in
    let behind : drop (at + 1) (take n xs) ≡ take m back = ap (λ k. drop (at + 1) (take k xs)) all ∙ drop-take (at + 1) m xs in
    let same : drop (suc at) (take n xs) ≡ drop (at + 1) (take n xs) = ap (λ k. drop k (take n xs)) (sym (add-one at)) in
    let kept : take at xs ++ take m back ≡ remove (take n xs) at = (λ t. sym (take-take at n xs (omega arith)) t ++ sym (same ∙ behind) t) in
    let moved : Front (take at xs ++ take m back) xs (copy_within xs (at + 1) n at) (at + m) = record {
      held = take-paste xs at back m (omega arith) few;
      rest = drop-paste xs at back m (omega arith) few;
      long = length-paste xs at back m (omega arith) few;
    } in
    subst (λ k. Closed (remove (take n xs) at) xs (copy_within xs (at + 1) n at) k) end (front_closed (front_is moved kept) (omega arith))

-- no record is decided yet
pub flags_none : {X : Type 0} (flags : List Bool) (xs : List X) → Front (unflagged flags []) xs xs 0
flags_none flags xs = record { held = sym (unflagged_nil flags); rest = refl; long = refl }

-- every record is decided
pub flags_all : {X : Type 0} (flags : List Bool) {xs ys : List X} {n k i : ℕ} → Front (unflagged flags (take i xs)) xs ys k → i ≡ n → k ≤ length xs → Closed (unflagged flags (take n xs)) xs ys k
flags_all flags {xs} h e le = front_closed (front_is h (ap (λ m. unflagged flags (take m xs)) e)) le
