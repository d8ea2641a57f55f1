-- What a key that is there says, and when it is there.
use Rattle.std.proofs.Common.{◌≡◌, ℕ, Bool, true, false, cond, Some, None, Option, refl, ap, arith}

pub never : {X Y : Type 0} (x : X) → None ≡ Some x → Y
never x e = absurd (let z : ◌≡◌ {A = ℕ} 0 1 = cc in omega arith)

pub there : {X : Type 0} (b : Bool) (o : Option X) (y : X) → cond b o None ≡ Some y → (b ≡ true) × (o ≡ Some y)
there true o y e = (refl, e)
there false o y e = never y e

pub one : {X : Type 0} (x y : X) → Some x ≡ Some y → x ≡ y
one x y e = cc

pub passed : {X : Type 0} (b : Bool) (x y : X) → cond b (Some x) None ≡ Some y → (b ≡ true) × (x ≡ y)
passed b x y e = let r = there b (Some x) y e in (r.0, one x y r.1)

pub given : {X : Type 0} (b : Bool) (x : X) → b ≡ true → cond b (Some x) None ≡ Some x
given b x e = ap (λ t. cond t (Some x) None) e
