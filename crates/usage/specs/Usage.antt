-- Service records, counted in quarter seconds.
use Rattle.std.specs.Prelude.{ℕ, ◌+◌, ◌-◌, ◌/◌, ◌^◌, min, Bool, if◌then◌else◌, List, ◌++◌, take, replicate, nat_lt, slice_index, slice_set}
use Rattle.usage.specs.declared.ServiceRecord.{ServiceRecord}

-- the quarter second, counted from instant 0, that so many microseconds lie in
abbrev pub quarter_of : ℕ → ℕ
quarter_of micros = micros / 250000

-- nothing sent yet, in a quarter
abbrev pub unused : ℕ → ServiceRecord
unused quarter = record { quarter = quarter; recent = replicate 20 0; not_due = 0 }

-- the counts n quarters later: zeros come in at the front, and what passes the twentieth place is forgotten
abbrev pub shifted : ℕ → List ℕ → List ℕ
shifted n counts = take 20 (replicate n 0 ++ counts)

-- the count at a place, n quarters later: it stood n places before, and in front of it are zeros
abbrev pub count_at : ℕ → List ℕ → ℕ → ℕ
count_at n counts place = if nat_lt place n then 0 else slice_index counts (place - n)

-- the record as it reads in a later quarter; its own quarter, or an earlier one, changes nothing
abbrev pub moved_to : ℕ → ServiceRecord → ServiceRecord
moved_to quarter r =
    if nat_lt r.quarter quarter
    then record r { quarter = quarter; recent = shifted (quarter - r.quarter) r.recent }
    else r

-- one more, up to the most that a count holds
abbrev pub one_more : ℕ → ℕ
one_more count = min (count + 1) (2 ^ 32 - 1)

-- the record with one run more in its quarter, and one more sent when not due if it was not due
abbrev pub sent_one : Bool → ServiceRecord → ServiceRecord
sent_one due r =
    record {
      quarter = r.quarter;
      recent = slice_set r.recent 0 (one_more (slice_index r.recent 0));
      not_due = if due then r.not_due else one_more r.not_due;
    }
