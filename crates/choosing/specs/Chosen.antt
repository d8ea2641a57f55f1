-- The session that sends next.
use Rattle.std.specs.Prelude.{ℕ, Bool, true, false, Some, None, Option}
use Rattle.choosing.specs.Due.{due_choice}
use Rattle.choosing.specs.Free.{is_free_to_go}
use Rattle.choosing.specs.Spare.{pool_choice, session_choice}
use Rattle.choosing.specs.declared.choose.Choice.{Choice}
use Rattle.heads.specs.Heads.{HeadRun}
use Rattle.service.specs.declared.rows.Tables.{Tables}
use Rattle.usage.specs.declared.ServiceRecord.{ServiceRecord}

-- in the pool that was chosen, if one was
abbrev pub in_pool : (ℕ → Option ℕ) → Option ℕ → Option ℕ
in_pool place None = None
in_pool place (Some p) = place p

abbrev pub level_choice : (ServiceRecord → ℕ) → Tables → (ℕ → Bool) → ℕ → Option ℕ
level_choice level t free micros = in_pool (session_choice level t free micros) (pool_choice level t free micros)

-- by its mark, if one goes by that, and else by level
abbrev pub mark_or_level : Option ℕ → Option ℕ → Option Choice
mark_or_level (Some k) other = Some (record { place = k; due = true })
mark_or_level None (Some k) = Some (record { place = k; due = false })
mark_or_level None None = None

-- the choice among some places
abbrev pub chosen_of : (ServiceRecord → ℕ) → Tables → (ℕ → Bool) → ℕ → Option Choice
chosen_of level t free micros = mark_or_level (due_choice t free micros) (level_choice level t free micros)

-- the choice among those that are free to go
abbrev pub chosen : (ServiceRecord → ℕ) → Tables → (ℕ → Option HeadRun) → ℕ → Option Choice
chosen level t heads micros = chosen_of level t (is_free_to_go t heads micros) micros
