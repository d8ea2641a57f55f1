-- What a disk means, and exactly what its calls do. Its policy is given by which place it picks and by what a served run changes in it.
use Rattle.std.specs.Prelude.{◌≡◌, ℕ, zero, suc, List, length}
use Rattle.values.specs.declared.io.Run.{Run}
use Rattle.device.specs.declared.disk.Disk.{Disk}
use Rattle.device.specs.Bays.{bay_means, joined, Finished, TookFirst}
use Rattle.device.specs.Meaning.{Meaning}

abbrev pub disk_means : {P : Type 0} → Disk P → Meaning
disk_means d = bay_means d.bay

-- a run stands behind those at work, and the policy stays
abbrev pub disk_puts : {P : Type 0} → Disk P → Run → Disk P → Type 0
disk_puts d run e = (disk_means e ≡ joined (disk_means d) run) × (e.policy ≡ d.policy)

-- the run at the place that the policy picks, this one, is done, and the policy took note of it
pub record ServedNext {P : Type 0} (picks : P → List Run → ℕ → Type 0) (moves : P → Run → P → Type 0) (d : Disk P) (run : Run) (e : Disk P) : Type 0 where
  pub place : ℕ
  pub picked : picks d.policy (disk_means d).working place
  pub finished : Finished (disk_means d) place run (disk_means e)
  pub moved : moves d.policy run e.policy

-- one run is moved, or none is at work and nothing changes
abbrev pub disk_works : {P : Type 0} → (P → List Run → ℕ → Type 0) → (P → Run → P → Type 0) → Disk P → ℕ → Disk P → Type 0
disk_works picks moves d zero e = (length (disk_means d).working ≡ 0) × (e ≡ d)
disk_works picks moves d (suc k) e = (k ≡ 0) × ((run : Run) × ServedNext picks moves d run e)

-- the run done longest is given, and the policy stays
abbrev pub disk_takes : {P : Type 0} → Disk P → Run → Disk P → Type 0
disk_takes d run e = TookFirst (disk_means d) run (disk_means e) × (e.policy ≡ d.policy)
