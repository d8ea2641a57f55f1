-- The window law over whole runs: from any instant to the same or a later one, both counted, the runs sent for a limited session or
-- pool are at most its burst plus its limit times the seconds between.
use Rattle.std.specs.Prelude.{◌≡◌, ℕ, ◌⊎◌, List, [], ◌∷◌, map, Some, filter, nat_eq}
use Rattle.bucket.specs.Windows.{Windowed}
use Rattle.history.specs.Histories.{Law, EveryHistoryKeeps}
use Rattle.history.specs.Logs.{Given, sends_in, sent_for, sent_in, instant_of, openings_in, pools_in}
use Rattle.history.specs.Steps.{Event}
use Rattle.scheduling.specs.Scheduling.{Sent}
use Rattle.values.specs.declared.rates.Rates.{Rates}

-- the instants of those sends that go to the account of a number, the newest first
abbrev pub instants_for : (Sent → ℕ) → List Sent → ℕ → List ℕ
instants_for account sends x = map instant_of (filter (λ s. nat_eq (account s) x) sends)

-- the session of this name, or the pool of this number, was opened or made with these rates, whether or not it was closed since
abbrev pub IsGiven : List Given → ℕ → Rates → Type 0
IsGiven [] x r = ⊥
IsGiven (g ∷ given) x r = ((g.number ≡ x) × (g.rates ≡ r)) ⊎ IsGiven given x r

-- of all sessions by name, or of all pools by number: the rates that each was given, and the sends that go to each
pub record Limits (given : List Given) (sends : ℕ → List ℕ) : Type 0 where
  -- over microseconds, and both sides taken 1,000,000 times
  pub windowed : (x : ℕ) (r : Rates) (limit : ℕ) → IsGiven given x r → r.limit ≡ Some limit → Windowed limit r.burst (sends x)
  -- a name or number has one set of rates
  pub once : (x : ℕ) (r s : Rates) → IsGiven given x r → IsGiven given x s → r ≡ s
  -- and every send goes to one that was given rates
  pub none_else : (x : ℕ) → ((r : Rates) → IsGiven given x r → ⊥) → sends x ≡ []

pub record WithinLimits (log : List Event) : Type 0 where
  pub sessions : Limits (openings_in log) (instants_for sent_for (sends_in log))
  pub pools : Limits (pools_in log) (instants_for sent_in (sends_in log))

abbrev pub WindowsLaw : Law
WindowsLaw level start log m = WithinLimits log

-- at every moment of every history
abbrev pub Windows : Type 0
Windows = EveryHistoryKeeps WindowsLaw
