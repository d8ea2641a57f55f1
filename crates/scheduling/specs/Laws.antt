-- What holds of every single send and every scheduling call.
use Rattle.std.specs.Prelude.{◌≡◌, ℕ, ◌<◌, ◌≤◌, true, ◌⊎◌, None, Result, ◌≢◌}
use Rattle.choosing.specs.declared.choose.Choice.{Choice}
use Rattle.device.specs.Meaning.{held_by}
use Rattle.service.specs.Moments.{Moment}
use Rattle.service.specs.Sound.{Numbers}
use Rattle.service.specs.declared.fault.ServiceFault.{ServiceFault}
use Rattle.service.specs.declared.rows.Tables.{Tables}
use Rattle.usage.specs.declared.ServiceRecord.{ServiceRecord}
use Rattle.values.specs.declared.io.Run.{Run}
use Rattle.scheduling.specs.declared.answer.Scheduled.{Scheduled}
use Rattle.scheduling.specs.Scheduling.{latest_at, ScheduleStep}
use Rattle.scheduling.specs.Sending.{free_to_go, most_runs, next_choice, Sends}

-- sound tables stay sound when an instant is accepted, at every single send, and so over the whole call
pub record SendsStaySound : Type 0 where
  pub accepting : (t : Tables) (micros : ℕ) → t.latest ≤ micros → micros ≤ 1099511627775 → Numbers t → Numbers (latest_at micros t)
  pub sending : (level : ServiceRecord → ℕ) (m n : Moment) (choice : Choice) (run : Run) → Sends level m choice run n → Numbers m.tables → Numbers n.tables
  pub scheduling : (level : ServiceRecord → ℕ) (micros : ℕ) → micros ≤ 1099511627775 → (answer : Result Scheduled ServiceFault) (m n : Moment) → ScheduleStep level micros answer m n → Numbers m.tables → Numbers n.tables

-- the sends of a call stop exactly where the device holds its most runs, or no session is free to go
pub record StopsRightly : Type 0 where
  pub only : (level : ServiceRecord → ℕ) (m : Moment) → next_choice level m ≡ None → (most_runs m ≤ held_by m.device) ⊎ ((k : ℕ) → k < 64 → free_to_go m k ≢ true)
  pub full : (level : ServiceRecord → ℕ) (m : Moment) → most_runs m ≤ held_by m.device → next_choice level m ≡ None
  pub idle : (level : ServiceRecord → ℕ) (m : Moment) → ((k : ℕ) → k < 64 → free_to_go m k ≢ true) → next_choice level m ≡ None
