-- Each edge, computed or shown.
use Rattle.std.proofs.Common.{◌≡◌, ℕ, zero, suc, ◌+◌, ◌-◌, ◌%◌, ◌^◌, ◌<◌, ◌≤◌, Bool, true, false, [], ◌∷◌, get_or, Some, refl, ap, arith, lit<}
use Rattle.account.specs.Accounts.{sent_at, units_at}
use Rattle.choosing.specs.Picks.{some_of}
use Rattle.device.specs.Sweeps.{away, Nearest}
use Rattle.service.proofs.Reserves.{reserves_of_112_lem}
use Rattle.sharing.specs.Rules.{rule_level}
use Rattle.sharing.specs.declared.shipped.Rule.TheVariants.{Water}
use Rattle.usage.specs.Usage.{moved_to, sent_one, unused}
use Rattle.values.specs.declared.io.Run.{Run}
use Rattle.edges.specs.Edges.{Edges, MeetsFirst}
use Rattle.edges.specs.Examples.{filled, saving}

full : (limit : ℕ) → (units_at (filled limit) 3600000000).limit ≡ Some 2000000
full limit = ap Some (omega arith)

emptied_by_run : (number : ℕ) (due : Bool) → (sent_at 0 number due saving).reserve_units ≡ 0
emptied_by_run number due = refl

water : (first second : Bool) → rule_level Water (sent_one second (moved_to 1 (sent_one first (unused 0)))) ≡ 1900000
water true true = refl
water true false = refl
water false true = refl
water false false = refl

-- how far arm 116 is from the runs at 100 and 500
far : (run : Run) → run.extent.address ≡ 100 → away 116 run ≡ 4294967280
far run e = ap (λ a. (a + (2 ^ 32 - 116)) % 2 ^ 32) e

near : (run : Run) → run.extent.address ≡ 500 → away 116 run ≡ 384
near run e = ap (λ a. (a + (2 ^ 32 - 116)) % 2 ^ 32) e

onward : (x y : Run) → x.extent.address ≡ 100 → y.extent.address ≡ 500 → MeetsFirst 116 (x ∷ y ∷ []) 1
onward x y p q = (record { within = lit< tt; least = least; first = first }, only)
  where
    a : away 116 x ≡ 4294967280
    a = far x p

    b : away 116 y ≡ 384
    b = near y q

    least : (k : ℕ) (d : Run) → k < 2 → away 116 y ≤ away 116 (get_or (x ∷ y ∷ []) k d)
    least zero d l = omega (arith, a, b)
    least (suc zero) d l = omega arith
    least (suc (suc k)) d l = absurd (omega arith)

    first : (k : ℕ) (d : Run) → k < 1 → away 116 y < away 116 (get_or (x ∷ y ∷ []) k d)
    first zero d l = omega (arith, a, b)
    first (suc k) d l = absurd (omega arith)

    only : (other : ℕ) → Nearest 116 (x ∷ y ∷ []) other → other ≡ 1
    only zero n = absurd (omega (arith, n.least 1 x (lit< tt), a, b))
    only (suc zero) n = refl
    only (suc (suc k)) n = absurd (omega (arith, n.within))

onward_first : (x y : Run) → x.extent.address ≡ 500 → y.extent.address ≡ 100 → MeetsFirst 116 (x ∷ y ∷ []) 0
onward_first x y p q = (record { within = lit< tt; least = least; first = λ k d l. absurd (omega arith) }, only)
  where
    a : away 116 x ≡ 384
    a = near x p

    b : away 116 y ≡ 4294967280
    b = far y q

    least : (k : ℕ) (d : Run) → k < 2 → away 116 x ≤ away 116 (get_or (x ∷ y ∷ []) k d)
    least zero d l = omega arith
    least (suc zero) d l = omega (arith, a, b)
    least (suc (suc k)) d l = absurd (omega arith)

    only : (other : ℕ) → Nearest 116 (x ∷ y ∷ []) other → other ≡ 0
    only zero n = refl
    only (suc zero) n = absurd (omega (arith, n.least 0 x (lit< tt), a, b))
    only (suc (suc k)) n = absurd (omega (arith, n.within))

pub edges : Edges
unfolding some_of
edges = record {
  holds = refl;
  short = refl;
  free = refl;
  full = full;
  emptied_by_run = emptied_by_run;
  one_run = refl;
  first_run = refl;
  second_run = refl;
  reserves = reserves_of_112_lem;
  lower_number = refl;
  lower_number_second = refl;
  onward = onward;
  onward_first = onward_first;
  water = water;
}
