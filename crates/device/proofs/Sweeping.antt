-- The least of the runs' keys is the run that the arm meets first, and no other is.
use Rattle.std.proofs.Common.{◌≡◌, ℕ, ◌<◌, ◌≤◌, false, ltb, List, [], ◌∷◌, length, get_or, Some, None, Option, sym, ap, ◌∙◌, ⊎_elim, arith, MatchOption}
use Rattle.std.proofs.lemmas.Bool.{cases_order}
use Rattle.std.proofs.lemmas.Bool.Decides.{nat_tests}
use Rattle.order.specs.Keys.{distance_before}
use Rattle.order.specs.Least.{Least}
use Rattle.order.specs.Order.{then_by}
use Rattle.order.specs.declared.keys.Distance.{Distance}
use Rattle.values.specs.declared.io.Run.{Run}
use Rattle.device.specs.Sweeps.{away, Nearest, distance_at}

-- a key that does not go before another has no shorter way, and a longer one where it was put earlier
not_shorter : (a i b j : ℕ) → then_by ltb ltb (a, i) (b, j) ≡ false → b ≤ a
not_shorter a i b j h = grind (arith, nat_tests)

longer_if_earlier : (a i b j : ℕ) → then_by ltb ltb (a, i) (b, j) ≡ false → i < j → b < a
longer_if_earlier a i b j h lt = grind (arith, nat_tests)

-- ks are the keys of the runs, place by place
module _ (arm : ℕ) (runs : List Run) (ks : List Distance) (many : length ks ≡ length runs) (keys : (k : ℕ) (z : Distance) (d : Run) → k < length runs → get_or ks k z ≡ distance_at arm runs k d) where
  apart : (b k : ℕ) (d : Run) → b < length runs → k < length runs → distance_before (get_or ks k (distance_at arm runs k d)) (get_or ks b (distance_at arm runs k d)) ≡ false → then_by ltb ltb (away arm (get_or runs k d), k) (away arm (get_or runs b d), b) ≡ false
  apart b k d lb lk h = sym (λ t. distance_before (keys k (distance_at arm runs k d) d lk t) (keys b (distance_at arm runs k d) d lb t)) ∙ h

  pub nearest_from : (r : Option ℕ) → Least distance_before ks r → MatchOption r (length runs ≡ 0) (Nearest arm runs)
  nearest_from None h = omega arith
  nearest_from (Some b) h =
      let lb : b < length runs = omega (arith, h.0) in
      record {
        within = lb;
        least = λ k d lk. not_shorter _ k _ b (apart b k d lb lk (h.1 k (distance_at arm runs k d) (omega arith)));
        first = λ k d lt. let lk : k < length runs = omega arith in longer_if_earlier _ k _ b (apart b k d lb lk (h.1 k (distance_at arm runs k d) (omega arith))) lt;
      }

-- two runs that the arm meets first are one
one_nearest : (arm : ℕ) (runs : List Run) (b c : ℕ) → Nearest arm runs b → Nearest arm runs c → b ≡ c
one_nearest arm [] b c h g = absurd (omega (arith, h.within))
one_nearest arm (x ∷ xs) b c h g =
    ⊎_elim (λ e. e)
    (⊎_elim (λ (lt : b < c). absurd (omega (arith, g.first b x lt, h.least c x g.within))) (λ (lt : c < b). absurd (omega (arith, h.first c x lt, g.least b x h.within))))
    (cases_order b c)

pub only_nearest : (arm : ℕ) (runs : List Run) (r : Option ℕ) → MatchOption r (length runs ≡ 0) (Nearest arm runs) → (place : ℕ) → Nearest arm runs place → r ≡ Some place
only_nearest arm runs None h place g = absurd (omega (arith, g.within))
only_nearest arm runs (Some b) h place g = ap Some (one_nearest arm runs b place h g)
