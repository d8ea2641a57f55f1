-- A bay's runs, and exactly what its calls do to them, order included.
use Rattle.std.specs.Prelude.{◌≡◌, ℕ, ◌<◌, [], ◌∷◌, ◌++◌, length, slice_index_or}
use Rattle.std.specs.List.{remove}
use Rattle.values.specs.declared.io.Run.{Run}
use Rattle.device.specs.declared.bay.Bay.{Bay}
use Rattle.device.specs.Meaning.{Meaning}
use Rattle.device.specs.Runs.{runs_of}

-- the runs at work in the order of putting, and those done in the order of being done
abbrev pub bay_means : Bay → Meaning
bay_means b = record { working = runs_of b.at_work; done = runs_of b.done; depth = b.depth }

-- a run joined those at work, behind the others
abbrev pub joined : Meaning → Run → Meaning
joined m run = record { working = m.working ++ run ∷ []; done = m.done; depth = m.depth }

-- the run at a place was done, and stands behind those done before it
pub record Finished (m : Meaning) (place : ℕ) (run : Run) (n : Meaning) : Type 0 where
  pub within : place < length m.working
  pub is : run ≡ slice_index_or m.working place run
  pub left : n ≡ record { working = remove m.working place; done = m.done ++ run ∷ []; depth = m.depth }

-- the run done longest was taken out
pub record TookFirst (m : Meaning) (run : Run) (n : Meaning) : Type 0 where
  pub within : 0 < length m.done
  pub is : run ≡ slice_index_or m.done 0 run
  pub left : n ≡ record { working = m.working; done = remove m.done 0; depth = m.depth }
