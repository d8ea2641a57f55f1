-- What the place found of the first row that fits is.
use Rattle.std.proofs.Common.{◌≡◌, ℕ, suc, ◌+◌, ◌<◌, Bool, true, false, cond, List, [], ◌∷◌, length, get_or, Some, refl, arith}
use Rattle.service.specs.Rows.{Wanted, blank_session, fits, first_from, first_fit}
use Rattle.service.specs.declared.rows.Session.{Session}

-- the row at k from the place j on is the first that fits
abbrev Found : Wanted → List Session → ℕ → ℕ → Type 0
Found wanted rows j i = (k : ℕ) × (i ≡ j + k) × (k < length rows) × (fits wanted (get_or rows k blank_session) ≡ true)

found_more : (wanted : Wanted) (r : Session) (rows : List Session) (j i : ℕ) → (first_from wanted rows (j + 1) ≡ Some i → Found wanted rows (j + 1) i) → (b : Bool) → fits wanted r ≡ b → cond b (Some j) (first_from wanted rows (j + 1)) ≡ Some i → Found wanted (r ∷ rows) j i
found_more wanted r rows j i more true h q = let s : j ≡ i = cc in (0, omega arith, omega arith, h)
found_more wanted r rows j i more false h q = let f = more q in (suc f.0, omega (arith, f.1), omega (arith, f.2), f.3)

found_from : (wanted : Wanted) (rows : List Session) (j i : ℕ) → first_from wanted rows j ≡ Some i → Found wanted rows j i
found_from wanted [] j i e = absurd (let z : ◌≡◌ {A = ℕ} 0 1 = cc in omega arith)
found_from wanted (r ∷ rows) j i e = found_more wanted r rows j i (λ q. found_from wanted rows (j + 1) i q) (fits wanted r) refl e

pub found_within : (wanted : Wanted) (rows : List Session) (i : ℕ) → first_fit wanted rows ≡ Some i → i < length rows
found_within wanted rows i e = let f = found_from wanted rows 0 i e in omega (arith, f.1, f.2)

pub found_fits : (wanted : Wanted) (rows : List Session) (i : ℕ) → first_fit wanted rows ≡ Some i → fits wanted (get_or rows i blank_session) ≡ true
found_fits wanted rows i e =
    let f = found_from wanted rows 0 i e in
    let q : i ≡ f.0 = omega (arith, f.1) in
    rw q f.3
