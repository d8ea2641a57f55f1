-- What the line store and the elevator mean, and exactly what their calls do: disks with two policies.
use Rattle.std.specs.Prelude.{◌≡◌, ℕ, List}
use Rattle.values.specs.Extents.{end_of}
use Rattle.values.specs.declared.io.Run.{Run}
use Rattle.device.specs.declared.disk.Disk.{Disk}
use Rattle.device.specs.declared.elevator.Arm.{Arm}
use Rattle.device.specs.declared.store.OldestFirst.{OldestFirst}
use Rattle.device.specs.Disks.{disk_means, disk_puts, ServedNext, disk_works, disk_takes}
use Rattle.device.specs.Meaning.{Meaning}
use Rattle.device.specs.Sweeps.{Nearest}

-- ---- the line store

-- the oldest run at work is next
abbrev pub store_picks : OldestFirst → List Run → ℕ → Type 0
store_picks p runs place = place ≡ 0

-- and serving it changes nothing in the policy
abbrev pub store_moves : OldestFirst → Run → OldestFirst → Type 0
store_moves p run q = q ≡ p

abbrev pub store_means : Disk OldestFirst → Meaning
store_means = disk_means

-- a run stands behind those at work
abbrev pub store_puts : Disk OldestFirst → Run → Disk OldestFirst → Type 0
store_puts = disk_puts

-- the oldest run at work, this one, is done
abbrev pub OldestDone : Disk OldestFirst → Run → Disk OldestFirst → Type 0
OldestDone = ServedNext store_picks store_moves

-- one run is moved, or none is at work and nothing changes
abbrev pub store_works : Disk OldestFirst → ℕ → Disk OldestFirst → Type 0
store_works = disk_works store_picks store_moves

-- the run done longest is given
abbrev pub store_takes : Disk OldestFirst → Run → Disk OldestFirst → Type 0
store_takes = disk_takes

-- ---- the elevator

-- the run that the arm meets first is next
abbrev pub elevator_picks : Arm → List Run → ℕ → Type 0
elevator_picks arm runs place = Nearest arm.address runs place

-- and once it was served the arm stands at its end
abbrev pub elevator_moves : Arm → Run → Arm → Type 0
elevator_moves arm run after = after.address ≡ end_of run.extent

abbrev pub elevator_means : Disk Arm → Meaning
elevator_means = disk_means

-- a run stands behind those at work, and the arm stays
abbrev pub elevator_puts : Disk Arm → Run → Disk Arm → Type 0
elevator_puts = disk_puts

-- the run that the arm meets first, this one, is done, and the arm stands at its end
abbrev pub SweptTo : Disk Arm → Run → Disk Arm → Type 0
SweptTo = ServedNext elevator_picks elevator_moves

-- one run is moved, or none is at work and nothing changes
abbrev pub elevator_works : Disk Arm → ℕ → Disk Arm → Type 0
elevator_works = disk_works elevator_picks elevator_moves

-- the run done longest is given, and the arm stays
abbrev pub elevator_takes : Disk Arm → Run → Disk Arm → Type 0
elevator_takes = disk_takes
