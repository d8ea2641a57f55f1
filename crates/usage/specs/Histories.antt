-- What a service record says of all the runs that were sent.
use Rattle.std.specs.Prelude.{◌≡◌, ℕ, ◌+◌, ◌^◌, ◌<◌, ◌≤◌, Bool, if◌then◌else◌, List, [], ◌∷◌, length, ◌==◌, slice_index}
use Rattle.usage.specs.declared.ServiceRecord.{ServiceRecord}
use Rattle.usage.specs.Usage.{unused, moved_to, sent_one}

-- a run sent in a quarter, due or not
pub record Send : Type 0 where
  pub quarter : ℕ
  pub due : Bool

-- the quarter of the last send, the first in the list, or the one of the start
abbrev pub latest : ℕ → List Send → ℕ
latest start [] = start
latest start (send ∷ sends) = send.quarter

-- no send lies before the one that went before it
abbrev pub Rising : ℕ → List Send → Type 0
Rising start [] = Unit {0}
Rising start (send ∷ sends) = (latest start sends ≤ send.quarter) × Rising start sends

-- the record after the sends, the last one first: before each it was moved on to its quarter
abbrev pub record_of : ℕ → List Send → ServiceRecord
record_of start [] = unused start
record_of start (send ∷ sends) = sent_one send.due (moved_to send.quarter (record_of start sends))

-- how many runs were sent so many quarters before this one
abbrev pub sent_ago : ℕ → ℕ → List Send → ℕ
sent_ago quarters present [] = 0
sent_ago quarters present (send ∷ sends) = (if send.quarter + quarters == present then 1 else 0) + sent_ago quarters present sends

-- how many runs were sent when not due
abbrev pub not_due_count : List Send → ℕ
not_due_count [] = 0
not_due_count (send ∷ sends) = (if send.due then 0 else 1) + not_due_count sends

-- read in the present quarter, each of the twenty counts is the number of runs sent so many quarters ago
abbrev pub WindowCounts : Type 0
WindowCounts = (start present : ℕ) (sends : List Send) → Rising start sends → latest start sends ≤ present → length sends < 2 ^ 32 → (place : ℕ) → place < 20 → slice_index (moved_to present (record_of start sends)).recent place ≡ sent_ago place present sends

-- the not-due count is the number of all runs sent when not due
abbrev pub NotDueCounts : Type 0
NotDueCounts = (start present : ℕ) (sends : List Send) → length sends < 2 ^ 32 → (moved_to present (record_of start sends)).not_due ≡ not_due_count sends
