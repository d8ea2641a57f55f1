-- The orders that places are chosen by.
use Rattle.std.proofs.Common.{◌≡◌, Bool, false, ltb, arith, rules}
use Rattle.choosing.specs.Right.{NotAbove}
use Rattle.order.specs.Keys.{mark_before, level_before}
use Rattle.order.specs.Order.{missing_last, then_by}
use Rattle.order.specs.declared.keys.Level.{Level}
use Rattle.std.proofs.lemmas.Bool.Decides.{nat_tests}
use Rattle.std.specs.Cmp.{IsStrictWeakOrder}

pub ranks_number : IsStrictWeakOrder ltb
ranks_number = search rules

pub ranks_level : IsStrictWeakOrder level_before
ranks_level = search rules

ranks_mark : IsStrictWeakOrder mark_before
ranks_mark = search rules

ranks_then : {X Y : Type 0} (f : X → X → Bool) (g : Y → Y → Bool) → IsStrictWeakOrder f → IsStrictWeakOrder g → IsStrictWeakOrder (then_by f g)
ranks_then f g o p = search rules

ranks_missing : {X : Type 0} (f : X → X → Bool) → IsStrictWeakOrder f → IsStrictWeakOrder (missing_last f)
ranks_missing f o = search rules

-- an order of what is seen of each
ranks_seen : {X Y : Type 0} (f : Y → Y → Bool) (see : X → Y) → IsStrictWeakOrder f → IsStrictWeakOrder (λ x y. f (see x) (see y))
ranks_seen f see o = record { one_way = λ x y. o.one_way (see x) (see y); chain = λ x y z. o.chain (see x) (see y) (see z) }

pub ranks_marks : IsStrictWeakOrder (then_by mark_before mark_before)
ranks_marks = ranks_then mark_before mark_before ranks_mark ranks_mark

-- what the two parts say where a pair does not go before
pub then_parts : {X Y : Type 0} (f : X → X → Bool) (g : Y → Y → Bool) (x y : X × Y) → then_by f g x y ≡ false → (f x.0 y.0 ≡ false) × (f y.0 x.0 ≡ false → g x.1 y.1 ≡ false)
then_parts f g x y h = search rules

-- a level that the other does not go before is not above it
pub not_above : (x y : Level) → level_before y x ≡ false → NotAbove x y
not_above x y h = (grind (arith, nat_tests), λ e. grind (arith, nat_tests))
