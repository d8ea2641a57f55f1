-- An account's row of plain numbers, and what happens to it.
use Rattle.std.specs.Prelude.{ℕ, ◌-◌, Bool, ◌&&◌}
use Rattle.bucket.specs.Buckets.{PairUnits, charged_pair, full_limit, is_pair, may_send, settled_limit, settled_units}
use Rattle.bucket.specs.Due.{mark_of, release_at}
use Rattle.usage.specs.Usage.{moved_to, quarter_of, sent_one, unused}
use Rattle.values.specs.Rates.{rates_allowed}
use Rattle.values.specs.declared.rates.Rates.{Rates}
use Rattle.account.specs.declared.row.Account.{Account}

-- what the two buckets hold at an instant, by what they held when the row was last settled
abbrev pub units_at : Account → ℕ → PairUnits
units_at a micros = record {
  reserve = settled_units a.reserve a.burst a.reserve_units (micros - a.settled_at);
  limit = settled_limit a.limit a.burst a.limit_units (micros - a.settled_at);
}

-- the row's numbers are rates and a pair of buckets
abbrev pub is_sound : Account → Bool
is_sound a = rates_allowed a.reserve a.limit a.burst && is_pair a.burst a.limit a.reserve_units a.limit_units

-- the row with these units as of an instant
abbrev pub with_units : Account → PairUnits → ℕ → Account
with_units a u micros = record a { reserve_units = u.reserve; limit_units = u.limit; settled_at = micros }

-- a new account: the limit bucket full, the reserve bucket empty, nothing sent, and its first due mark
abbrev pub opened : Rates → ℕ → ℕ → Account
opened rates micros number = record {
  reserve = rates.reserve;
  limit = rates.limit;
  burst = rates.burst;
  reserve_units = 0;
  limit_units = full_limit rates.limit rates.burst;
  settled_at = micros;
  mark = mark_of rates.reserve 0 micros number;
  usage = unused (quarter_of micros);
}

-- settled to an instant
abbrev pub settled_to : ℕ → Account → Account
settled_to micros a = with_units a (units_at a micros) micros

-- a run is sent, by the units that it finds: both buckets charged, the due mark renewed with an order number, and the run counted
abbrev pub sent_from : PairUnits → ℕ → ℕ → Bool → Account → Account
sent_from u micros number due a = record a {
  reserve_units = (charged_pair u).reserve;
  limit_units = (charged_pair u).limit;
  settled_at = micros;
  mark = mark_of a.reserve (charged_pair u).reserve micros number;
  usage = sent_one due (moved_to (quarter_of micros) a.usage);
}

-- a run is sent at an instant: the buckets are settled to it first
abbrev pub sent_at : ℕ → ℕ → Bool → Account → Account
sent_at micros number due a = sent_from (units_at a micros) micros number due a

-- whether the limit lets a run go at an instant, and from which instant on it does
abbrev pub free_at : ℕ → Account → Bool
free_at micros a = may_send (units_at a micros).limit

abbrev pub released_from : ℕ → Account → ℕ
released_from micros a = release_at a.limit (units_at a micros).limit micros
