-- Serving runs through a device that is kept as full as it goes. A device D is given by its meaning and by what its calls do exactly.
use Rattle.std.specs.Prelude.{◌≡◌, ℕ, ◌+◌, ◌<◌, ◌≤◌, List, [], ◌∷◌, ◌++◌, length, take, drop, Option, MatchOption}
use Rattle.std.specs.Option.{option_to_list}
use Rattle.values.specs.declared.io.Run.{Run}
use Rattle.device.specs.Meaning.{Meaning, Same, held_by, Worked, Took}

-- runs were put one after the other
abbrev pub PutAll : {D : Type 0} → (D → Run → D → Type 0) → D → List Run → D → Type 0
PutAll puts d [] e = e ≡ d
PutAll {D} puts d (run ∷ runs) f = (e : D) × puts d run e × PutAll puts e runs f

-- the runs at work are more by these, and nothing else is changed
pub record Joined (m : Meaning) (runs : List Run) (n : Meaning) : Type 0 where
  pub working : Same (m.working ++ runs) n.working
  pub done : Same m.done n.done
  pub depth : n.depth ≡ m.depth

-- the first k of these runs were put in their order, and no more only for want of runs or of room
pub record Filled {D : Type 0} (means : D → Meaning) (puts : D → Run → D → Type 0) (d : D) (runs : List Run) (k : ℕ) (e : D) : Type 0 where
  pub exact : PutAll puts d (take k runs) e
  pub meant : Joined (means d) (take k runs) (means e)
  pub within : k ≤ length runs
  pub full : k < length runs → (means e).depth ≤ held_by (means e)

-- one turn: what fits was put, the device worked once, and a done run, if there was one, was taken
pub record Turn {D : Type 0} (means : D → Meaning) (puts : D → Run → D → Type 0) (works : D → ℕ → D → Type 0) (takes : D → Run → D → Type 0) (d : D) (runs : List Run) (k : ℕ) (r : Option Run) (g : D) : Type 0 where
  pub full : D
  pub moved : D
  pub count : ℕ
  pub filled : Filled means puts d runs k full
  pub worked : Worked (means full) (means moved) count
  pub worked_exactly : works full count moved
  pub took : MatchOption r ((means moved).done ≡ []) (λ run. Took (means moved) run (means g))
  pub took_exactly : MatchOption r (g ≡ moved) (λ run. takes moved run g)

-- turn after turn from the device d on: so many of the runs were put, these were served, and the device is e
pub data Course {D : Type 0} (means : D → Meaning) (puts : D → Run → D → Type 0) (works : D → ℕ → D → Type 0) (takes : D → Run → D → Type 0) (runs : List Run) (d : D) : ℕ → List Run → D → Type 0 where
  start : Course means puts works takes runs d 0 [] d
  turn : {next : ℕ} {served : List Run} {e : D} (k : ℕ) (r : Option Run) {f : D} → Course means puts works takes runs d next served e → Turn means puts works takes e (drop next runs) k r f → Course means puts works takes runs d (next + k) (served ++ option_to_list r) f

-- the runs were served in a course of turns; from an empty device each run exactly once, and the device is empty again
pub record Served {D : Type 0} (means : D → Meaning) (puts : D → Run → D → Type 0) (works : D → ℕ → D → Type 0) (takes : D → Run → D → Type 0) (d : D) (runs served : List Run) (e : D) : Type 0 where
  pub next : ℕ
  pub course : Course means puts works takes runs d next served e
  pub whole : held_by (means d) ≡ 0 → Same runs served × (held_by (means e) ≡ 0)
