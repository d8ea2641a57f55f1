-- Worked examples of the rules, as theorems of the very definitions that the contracts cite.
use Rattle.std.specs.Prelude.{◌≡◌, ℕ, true, false, Some, None}
use Rattle.order.specs.Keys.{mark_before}
use Rattle.order.specs.declared.keys.DueMark.{DueMark}
use Rattle.bucket.specs.Buckets.{capacity, charged_units, may_send, run_cost, settled_units}
use Rattle.bucket.specs.Due.{due_at, mark_of, release_at, wait_for}

abbrev mark : ℕ → ℕ → DueMark
mark at number = record { at = Some at; number = number }

abbrev never : ℕ → DueMark
never number = record { at = None; number = number }

pub record BucketEdges : Type 0 where
  -- limit 3 and an empty limit bucket at instant 0: short by one unit at 333,333, and free at 333,334
  pub holds : settled_units 3 1 0 333333 ≡ 999999
  pub short : may_send (Some (settled_units 3 1 0 333333)) ≡ false
  pub free : may_send (Some (settled_units 3 1 0 333334)) ≡ true
  pub cut : settled_units 3 1 0 333334 ≡ 1000000
  pub uncut : settled_units 3 2 0 333334 ≡ 1000002
  pub wait : wait_for run_cost 3 0 ≡ 333334
  pub release : release_at (Some 3) (Some 0) 0 ≡ 333334
  -- a full bucket of burst 2 holds as much an hour later, whatever its rate
  pub full : (rate : ℕ) → settled_units rate 2 (capacity 2) 3600000000 ≡ 2000000
  -- a reserve bucket of 600,000 is empty once a run is sent; one of 1,600,000 keeps 600,000, and with reserve 100 is due 4,000 later
  pub all : charged_units 600000 ≡ 0
  pub rest : charged_units 1600000 ≡ 600000
  pub again : due_at 100 600000 0 ≡ Some 4000
  -- reserve 1 at the last lawful instant is due past it, and reserve 0 never
  pub past : mark_of 1 0 1099511627775 9 ≡ mark 1099512627775 9
  pub no_reserve : mark_of 0 64000000 5 9 ≡ never 9
  -- the order of marks: by instant, then by number, and never last
  pub by_number : mark_before (mark 40 7) (mark 40 9) ≡ true
  pub by_instant : mark_before (mark 39 9) (mark 40 7) ≡ true
  pub never_last : mark_before (mark 1099512627775 9) (never 0) ≡ true
  pub nevers : mark_before (never 3) (never 5) ≡ true
