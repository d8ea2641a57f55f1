-- What a device means, and what its calls do to that.
use Rattle.std.specs.Prelude.{◌≡◌, ℕ, ◌+◌, ◌<◌, List, [], ◌∷◌, ◌++◌, length, sum_by}
use Rattle.values.specs.declared.io.Run.{Run}

-- two collections are the same, whatever their order: by every weight that elements can be given, the sums are equal
abbrev pub Same : {X : Type 0} → List X → List X → Type 0
Same {X} xs ys = (weight : X → ℕ) → sum_by weight xs ≡ sum_by weight ys

-- the runs at work and the runs done, whose order is of no account, and how many runs the device takes
pub record Meaning : Type 0 where
  pub working : List Run
  pub done : List Run
  pub depth : ℕ

-- how many runs a device holds
abbrev pub held_by : Meaning → ℕ
held_by m = length m.working + length m.done

-- a run was put: there was room, and it is at work with the others
pub record Put (m : Meaning) (run : Run) (n : Meaning) : Type 0 where
  pub room : held_by m < m.depth
  pub working : Same (m.working ++ run ∷ []) n.working
  pub done : Same m.done n.done
  pub depth : n.depth ≡ m.depth

-- so many runs were moved from at work to done; which ones is open
pub record Worked (m n : Meaning) (count : ℕ) : Type 0 where
  pub moved : List Run
  pub many : length moved ≡ count
  pub working : Same m.working (moved ++ n.working)
  pub done : Same (m.done ++ moved) n.done
  pub depth : n.depth ≡ m.depth

-- a done run was taken out; which one is open
pub record Took (m : Meaning) (run : Run) (n : Meaning) : Type 0 where
  pub working : Same m.working n.working
  pub done : Same m.done (run ∷ n.done)
  pub depth : n.depth ≡ m.depth
