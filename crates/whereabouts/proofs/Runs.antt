-- A head run is made up of the first I/Os that wait.
use Rattle.std.proofs.Common.{◌≡◌, ℕ, suc, ◌+◌, ◌≤◌, Bool, true, false, cond, eqb, leb, List, [], ◌∷◌, length, take, Some, sum_by, sym, refl, ap, ◌∙◌, subst, arith, length-take}
use Rattle.choosing.proofs.Passing.{never, one}
use Rattle.heads.specs.Heads.{HeadRun, joins, alone, longer, grow, grown}
use Rattle.std.proofs.lemmas.List.Sums.{sum_by-cons}
use Rattle.std.proofs.lemmas.Bool.{and_parts, eqb-true}
use Rattle.values.specs.Direction.{direction_number}
use Rattle.values.specs.declared.io.Io.{Io}
use Rattle.whereabouts.specs.Places.{Adjoin, MakeUp}

abbrev sectors_of : List Io → ℕ
sectors_of ios = sum_by (λ (io : Io). io.extent.length) ios

-- what a run becomes with the next c I/Os, which adjoin
record Grown (h : HeadRun) (ios : List Io) (g : HeadRun) : Type 0 where
  more : ℕ
  within : more ≤ length ios
  count_is : g.count ≡ h.count + more
  direction_is : g.direction ≡ h.direction
  address_is : g.address ≡ h.address
  length_is : g.length ≡ h.length + sectors_of (take more ios)
  adjoin : Adjoin h.direction (h.address + h.length) (take more ios)

grow_is : (h : HeadRun) (ios : List Io) → Grown h ios (grow h ios)
grow_is h [] = record { more = 0; within = omega arith; count_is = omega arith; direction_is = refl; address_is = refl; length_is = omega arith; adjoin = tt }
grow_is h (io ∷ ios) = by (joins h io) refl (grow_is (longer h io) ios)
  where
    by : (b : Bool) → joins h io ≡ b → Grown (longer h io) ios (grow (longer h io) ios) → Grown h (io ∷ ios) (cond b (grow (longer h io) ios) h)
    by true e g =
        let p = and_parts (eqb h.direction (direction_number io.direction)) _ e in
        let q = and_parts (eqb io.extent.address (h.address + h.length)) (leb (h.length + io.extent.length) 64) p.1 in
        let again : h.address + (h.length + io.extent.length) ≡ h.address + h.length + io.extent.length = omega arith in
        record {
          more = suc g.more;
          within = omega (arith, g.within);
          count_is = omega (arith, g.count_is);
          direction_is = g.direction_is;
          address_is = g.address_is;
          length_is = omega (arith, g.length_is, sum_by-cons (λ (x : Io). x.extent.length) io (take g.more ios));
          adjoin = (sym (eqb-true _ _ p.0), eqb-true _ _ q.0, subst (λ a. Adjoin h.direction a (take g.more ios)) again g.adjoin);
        }
    by false e g = record { more = 0; within = omega arith; count_is = omega arith; direction_is = refl; address_is = refl; length_is = omega arith; adjoin = tt }

-- so a head run is made up of the first I/Os, as many as it counts
pub record HeadMade (ios : List Io) (h : HeadRun) : Type 0 where
  pub within : h.count ≤ length ios
  pub made : MakeUp (take h.count ios) h.count h.direction h.address h.length

pub head_made : (ios : List Io) (h : HeadRun) → grown ios ≡ Some h → HeadMade ios h
head_made [] h e = never h e
head_made (io ∷ ios) h e = subst (HeadMade (io ∷ ios)) (one (grow (alone io) ios) h e) (from (grow_is (alone io) ios))
  where
    from : Grown (alone io) ios (grow (alone io) ios) → HeadMade (io ∷ ios) (grow (alone io) ios)
    from g =
        let many : (grow (alone io) ios).count ≡ suc g.more = omega (arith, g.count_is) in
        let front : take (grow (alone io) ios).count (io ∷ ios) ≡ io ∷ take g.more ios = ap (λ c. take c (io ∷ ios)) many in
        let chain : Adjoin (direction_number io.direction) io.extent.address (io ∷ take g.more ios) = (refl, refl, g.adjoin) in
        let from_there : Adjoin (alone io).direction (grow (alone io) ios).address (io ∷ take g.more ios) = subst (λ a. Adjoin (alone io).direction a (io ∷ take g.more ios)) (sym g.address_is) chain in
        let placed : Adjoin (grow (alone io) ios).direction (grow (alone io) ios).address (io ∷ take g.more ios) = subst (λ d. Adjoin d (grow (alone io) ios).address (io ∷ take g.more ios)) (sym g.direction_is) from_there in
        record {
          within = omega (arith, many, g.within);
          made = record {
            some = omega (arith, many);
            counted = omega (arith, ap length front, length-take g.more ios, many, g.within);
            adjoin = subst (Adjoin (grow (alone io) ios).direction (grow (alone io) ios).address) (sym front) placed;
            total = ap sectors_of front ∙ omega (arith, g.length_is, sum_by-cons (λ (x : Io). x.extent.length) io (take g.more ios));
          };
        }
