-- What holds of every account, whatever happens to it.
use Rattle.std.specs.Prelude.{◌≡◌, ℕ, ◌≤◌, Bool, true}
use Rattle.values.specs.declared.rates.Rates.{Rates}
use Rattle.account.specs.declared.row.Account.{Account}
use Rattle.account.specs.Accounts.{is_sound, opened, settled_to, sent_at}

pub record AccountLaws : Type 0 where
  -- a row's numbers are those of a pair of buckets from its opening on
  pub opened_sound : (rates : Rates) (micros number : ℕ) → is_sound (opened rates micros number) ≡ true
  pub settled_sound : (micros : ℕ) (a : Account) → is_sound a ≡ true → is_sound (settled_to micros a) ≡ true
  pub sent_sound : (micros number : ℕ) (due : Bool) (a : Account) → is_sound a ≡ true → is_sound (sent_at micros number due a) ≡ true
  -- it makes no difference whether a row was settled in between
  pub settled_twice : (first second : ℕ) (a : Account) → a.settled_at ≤ first → first ≤ second → settled_to second (settled_to first a) ≡ settled_to second a
  pub settled_then_sent : (first second number : ℕ) (due : Bool) (a : Account) → a.settled_at ≤ first → first ≤ second → sent_at second number due (settled_to first a) ≡ sent_at second number due a
