-- Where the sends of a call stop.
use Rattle.std.proofs.Common.{◌≡◌, ℕ, ◌<◌, ◌≤◌, Bool, true, false, cond, ltb, ◌⊎◌, Some, None, Option, sym, refl, inl, inr}
use Rattle.choosing.proofs.Rightly.{is_right}
use Rattle.choosing.specs.Chosen.{chosen}
use Rattle.choosing.specs.declared.choose.Choice.{Choice}
use Rattle.device.specs.Meaning.{held_by}
use Rattle.service.specs.Moments.{Moment}
use Rattle.std.proofs.lemmas.Bool.{ltb-false, cond-false, le-ltb}
use Rattle.usage.specs.declared.ServiceRecord.{ServiceRecord}
use Rattle.scheduling.proofs.Choosing.{seen_at, free_choice}
use Rattle.scheduling.specs.Laws.{StopsRightly}
use Rattle.scheduling.specs.Sending.{free_to_go, head_at, most_runs, next_choice}

module _ (level : ServiceRecord → ℕ) (m : Moment) where
  abbrev room : Bool
  room = ltb (held_by m.device) (most_runs m)

  abbrev pick : Option Choice
  pick = chosen level m.tables (head_at m) m.tables.latest

  only : next_choice level m ≡ None → (most_runs m ≤ held_by m.device) ⊎ ((k : ℕ) → k < 64 → free_to_go m k ≡ true → ⊥)
  only e = by room refl e
    where
      by : (b : Bool) → room ≡ b → cond b pick None ≡ None → (most_runs m ≤ held_by m.device) ⊎ ((k : ℕ) → k < 64 → free_to_go m k ≡ true → ⊥)
      by true r q = inr (λ k l g. is_right level (seen_at m) None (sym q) k (record { inside = l; goes = g }))
      by false r q = inl (ltb-false _ _ r)

  full : most_runs m ≤ held_by m.device → next_choice level m ≡ None
  full h = cond-false room pick None (le-ltb _ _ h)

  idle : ((k : ℕ) → k < 64 → free_to_go m k ≡ true → ⊥) → next_choice level m ≡ None
  idle h = by (next_choice level m) refl
    where
      by : (o : Option Choice) → next_choice level m ≡ o → o ≡ None
      by None e = refl
      by (Some c) e = let f = free_choice level m c e in absurd (h c.place f.inside f.goes)

pub stops_rightly : StopsRightly
stops_rightly = record { only = only; full = full; idle = idle }
