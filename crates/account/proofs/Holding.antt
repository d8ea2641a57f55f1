-- Rows stay sound, and settling in between makes no difference.
use Rattle.std.proofs.Common.{◌≡◌, ℕ, ◌+◌, ◌-◌, ◌≤◌, Bool, true, false, ◌&&◌, Some, None, Option, refl, ap, ◌∙◌, arith}
use Rattle.bucket.specs.Buckets.{PairUnits, is_pair, settled_limit, settled_units}
use Rattle.bucket.proofs.Pairs.{fresh_is_pair, settled_is_pair, charged_is_pair, settled_twice}
use Rattle.values.specs.Rates.{rates_allowed}
use Rattle.account.specs.declared.row.Account.{Account}
use Rattle.account.specs.Accounts.{units_at, with_units, sent_from, is_sound, settled_to}
use Rattle.account.specs.Laws.{AccountLaws}

-- ---- soundness

allowed_of : (x y : Bool) → x && y ≡ true → x ≡ true
allowed_of true y h = refl
allowed_of false y h = h

pair_of : (x y : Bool) → x && y ≡ true → y ≡ true
pair_of true y h = h
pair_of false y h = absurd (let z : ◌≡◌ {A = Bool} false true = h in let w : ◌≡◌ {A = ℕ} 0 1 = cc in omega arith)

sound_from : (x y : Bool) → x ≡ true → y ≡ true → x && y ≡ true
sound_from x y p q = ap (λ b. b && y) p ∙ q

module _ (a : Account) (h : is_sound a ≡ true) where
  allowed : rates_allowed a.reserve a.limit a.burst ≡ true
  allowed = allowed_of (rates_allowed a.reserve a.limit a.burst) (is_pair a.burst a.limit a.reserve_units a.limit_units) h

  settled_pair_lem : (micros : ℕ) → is_pair a.burst a.limit (units_at a micros).reserve (units_at a micros).limit ≡ true
  settled_pair_lem micros =
      let pair = pair_of (rates_allowed a.reserve a.limit a.burst) (is_pair a.burst a.limit a.reserve_units a.limit_units) h in
      settled_is_pair a.reserve a.limit a.burst a.reserve_units a.limit_units (micros - a.settled_at) allowed pair

-- ---- settling in steps

limit_twice : (limit : Option ℕ) (burst : ℕ) (held : Option ℕ) (first second : ℕ) → settled_limit limit burst (settled_limit limit burst held first) second ≡ settled_limit limit burst held (first + second)
limit_twice None burst held first second = refl
limit_twice (Some rate) burst None first second = refl
limit_twice (Some rate) burst (Some units) first second = ap Some (settled_twice rate burst units first second)

-- the units at an instant do not tell whether the row was settled before
units_twice : (first second : ℕ) (a : Account) → a.settled_at ≤ first → first ≤ second → units_at (settled_to first a) second ≡ units_at a second
units_twice first second a p q =
    let e : (first - a.settled_at) + (second - first) ≡ second - a.settled_at = omega arith in
    let r = settled_twice a.reserve a.burst a.reserve_units (first - a.settled_at) (second - first) ∙ ap (settled_units a.reserve a.burst a.reserve_units) e in
    let l = limit_twice a.limit a.burst a.limit_units (first - a.settled_at) (second - first) ∙ ap (settled_limit a.limit a.burst a.limit_units) e in
    λ t. record { reserve = r t; limit = l t }

pub account_laws : AccountLaws
account_laws = record {
  opened_sound = λ rates micros number. sound_from _ _ rates.allowed (fresh_is_pair rates.burst rates.limit);
  settled_sound = λ micros a h. sound_from _ _ (allowed a h) (settled_pair_lem a h micros);
  sent_sound = λ micros number due a h. sound_from _ _ (allowed a h) (charged_is_pair a.burst a.limit (units_at a micros).reserve (units_at a micros).limit (settled_pair_lem a h micros));
  settled_twice = λ first second a p q. ap (λ u. with_units a u second) (units_twice first second a p q);
  settled_then_sent = λ first second number due a p q. ap (λ (u : PairUnits). sent_from u second number due a) (units_twice first second a p q);
}
