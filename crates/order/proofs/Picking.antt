-- The least candidate is the one that the definition picks.
use Rattle.std.proofs.Common.{◌≡◌, ℕ, zero, suc, ◌<◌, Bool, true, false, cond, List, [], ◌∷◌, length, get_or, Some, None, Option, refl, ap, subst, ⊎_elim, arith}
use Rattle.std.specs.Cmp.{IsStrictWeakOrder}
use Rattle.std.proofs.lemmas.Bool.{cases_Bool, cases_order, both_ways}
use Rattle.order.specs.Least.{Candidate, NoneBefore, LeastAt, LeastCandidate, one_place_on, front_or, least_of, place_of}
use Rattle.order.proofs.Candidates.{never}

module _ {X : Type 0} (before : X → X → Bool) where
  -- what is picked is the least candidate, with its place
  abbrev Picks : List (Option X) → Option (ℕ × X) → Type 0
  Picks keys None = (k : ℕ) → k < length keys → get_or keys k None ≡ None
  Picks keys (Some p) = LeastAt before keys p.0 p.1

  -- what is asked of every place: of the front, and of each place behind it
  at_each : (P : ℕ → Type 0) → P 0 → ((j : ℕ) → P (suc j)) → (k : ℕ) → P k
  at_each P z s zero = z
  at_each P z s (suc j) = s j

  -- a candidate behind the front
  behind : (o : Option X) (keys : List (Option X)) (j : ℕ) (y : X) → Candidate (o ∷ keys) (suc j) y → Candidate keys j y
  behind o keys j y c = (omega (arith, c.0), c.1)

  past_none : (keys : List (Option X)) (o : Option (ℕ × X)) → Picks keys o → Picks (None ∷ keys) (one_place_on o)
  past_none keys None h = at_each (λ k. k < suc (length keys) → get_or (None ∷ keys) k None ≡ None) (λ lt. refl) (λ j lt. h j (omega arith))
  past_none keys (Some p) h = record {
    here = (omega (arith, h.here.0), h.here.1);
    least = at_each (λ k. (y : X) → Candidate (None ∷ keys) k y → before y p.1 ≡ false) (λ y c. never None y refl c.1) (λ j y c. h.least j y (behind None keys j y c));
    first = at_each (λ k. (y : X) → k < suc p.0 → Candidate (None ∷ keys) k y → before p.1 y ≡ true) (λ y lt c. never None y refl c.1) (λ j y lt c. h.first j y (omega arith) (behind None keys j y c));
  }

  module _ (o : IsStrictWeakOrder before) where
    irreflexive : (x : X) → before x x ≡ false
    irreflexive x = ⊎_elim (λ t. o.one_way x x t) (λ f. f) (cases_Bool (before x x))

    alike : (x y : X) → Some x ≡ Some y → before y x ≡ false
    alike x y e = let q : x ≡ y = cc in subst (λ z. before z x ≡ false) q (irreflexive x)

    -- the front key stays the least
    front : (x : X) (keys : List (Option X)) → NoneBefore before keys x → Picks (Some x ∷ keys) (Some (0, x))
    front x keys h = record {
      here = (omega arith, refl);
      least = at_each (λ k. (y : X) → Candidate (Some x ∷ keys) k y → before y x ≡ false) (λ y c. alike x y c.1) (λ j y c. h j y (behind (Some x) keys j y c));
      first = λ k y lt c. absurd (omega arith);
    }

    -- the front key against the least behind it
    beaten : (b : Bool) (x : X) (keys : List (Option X)) (p : ℕ × X) → before p.1 x ≡ b → Picks keys (Some p) → Picks (Some x ∷ keys) (Some (cond b (suc p.0, p.1) (0, x)))
    beaten true x keys p t h = record {
      here = (omega (arith, h.here.0), h.here.1);
      least = at_each (λ k. (y : X) → Candidate (Some x ∷ keys) k y → before y p.1 ≡ false) (λ y c. let e = c.1 in let q : x ≡ y = cc in subst (λ z. before z p.1 ≡ false) q (o.one_way p.1 x t)) (λ j y c. h.least j y (behind (Some x) keys j y c));
      first = at_each (λ k. (y : X) → k < suc p.0 → Candidate (Some x ∷ keys) k y → before p.1 y ≡ true) (λ y lt c. let e = c.1 in let q : x ≡ y = cc in subst (λ z. before p.1 z ≡ true) q t) (λ j y lt c. h.first j y (omega arith) (behind (Some x) keys j y c));
    }
    beaten false x keys p t h = front x keys (λ k y c. o.chain y p.1 x (h.least k y c) t)

    past_some : (x : X) (keys : List (Option X)) (r : Option (ℕ × X)) → Picks keys r → Picks (Some x ∷ keys) (Some (front_or before x (one_place_on r)))
    past_some x keys None h = front x keys (λ k y c. never (get_or keys k None) y (h k c.0) c.1)
    past_some x keys (Some p) h = beaten (before p.1 x) x keys p refl h

    picks : (keys : List (Option X)) → Picks keys (least_of before keys)
    picks [] = λ k lt. refl
    picks (None ∷ keys) = past_none keys (least_of before keys) (picks keys)
    picks (Some x ∷ keys) = past_some x keys (least_of before keys) (picks keys)

    -- two that are both least and first in line stand at one place
    one_pick : (keys : List (Option X)) (r : Option ℕ) (q : Option (ℕ × X)) → LeastCandidate before keys r → Picks keys q → r ≡ place_of q
    one_pick keys None None h g = refl
    one_pick keys None (Some p) h g = never (get_or keys p.0 None) p.1 (h p.0 g.here.0) g.here.1
    one_pick keys (Some b) None h g = never (get_or keys b None) h.0 (g b h.1.here.0) h.1.here.1
    one_pick keys (Some b) (Some p) h g =
        ⊎_elim (λ e. ap Some e)
        (⊎_elim (λ (lt : b < p.0). absurd (both_ways (before p.1 h.0) (h.1.least p.0 p.1 g.here) (g.first b h.0 lt h.1.here)))
        (λ (lt : p.0 < b). absurd (both_ways (before h.0 p.1) (g.least b h.0 h.1.here) (h.1.first p.0 p.1 lt g.here))))
        (cases_order b p.0)

    pub least_is : (keys : List (Option X)) (r : Option ℕ) → LeastCandidate before keys r → r ≡ place_of (least_of before keys)
    least_is keys r h = one_pick keys r (least_of before keys) h (picks keys)

    -- the definition picks the least candidate
    pub least_picked : (keys : List (Option X)) → LeastCandidate before keys (place_of (least_of before keys))
    least_picked keys = relation (least_of before keys) (picks keys)
      where
        relation : (q : Option (ℕ × X)) → Picks keys q → LeastCandidate before keys (place_of q)
        relation None h = h
        relation (Some p) h = (p.1, h)
