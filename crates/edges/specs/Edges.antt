-- The edges of the rules, in one statement.
use Rattle.std.specs.Prelude.{◌≡◌, ℕ, Bool, true, false, List, [], ◌∷◌, Some}
use Rattle.account.specs.Accounts.{units_at, free_at, sent_at}
use Rattle.choosing.specs.Chosen.{chosen}
use Rattle.device.specs.Sweeps.{Nearest}
use Rattle.heads.specs.Heads.{head_of}
use Rattle.line.specs.Line.{without}
use Rattle.service.specs.Laws.{ReservesOf112}
use Rattle.sharing.specs.Levels.{even_level}
use Rattle.sharing.specs.Rules.{rule_level}
use Rattle.sharing.specs.declared.shipped.Rule.TheVariants.{Water}
use Rattle.usage.specs.Usage.{moved_to, sent_one, unused}
use Rattle.values.specs.declared.io.Io.{Io}
use Rattle.values.specs.declared.io.Run.{Run}
use Rattle.edges.specs.Examples.{mark_at, emptied, filled, saving, two32, one33then32, head_run, tables_with, each_one_read}

-- of two runs that the elevator has at work, its arm meets the one at a place first, and no other
abbrev pub MeetsFirst : (arm : ℕ) → List Run → ℕ → Type 0
MeetsFirst arm runs place = Nearest arm runs place × ((other : ℕ) → Nearest arm runs other → other ≡ place)

pub record Edges : Type 0 where
  -- limit 3 and a limit bucket of 0 at instant 0: at 333,333 it holds 999,999 units and is short, at 333,334 it is free
  pub holds : (units_at emptied 333333).limit ≡ Some 999999
  pub short : free_at 333333 emptied ≡ false
  pub free : free_at 333334 emptied ≡ true
  -- a full bucket of burst 2 holds 2,000,000 an hour later, whatever its rate
  pub full : (limit : ℕ) → (units_at (filled limit) 3600000000).limit ≡ Some 2000000
  -- a reserve bucket of 600,000, a run sent: 0
  pub emptied_by_run : (number : ℕ) (due : Bool) → (sent_at 0 number due saving).reserve_units ≡ 0
  -- 32 and 32 adjoining sectors are one run; of 33 and 32 the head run is the 33 alone and, that taken out, the 32
  pub one_run : head_of 0 two32 ≡ Some (head_run 2 0 64)
  pub first_run : head_of 0 one33then32 ≡ Some (head_run 1 0 33)
  pub second_run : head_of 0 (without (λ (io : Io). io.session) 0 1 one33then32) ≡ Some (head_run 1 33 32)
  -- throughput 112: reserves 60 and 52 pass, 60 and 53 give refusal 11
  pub reserves : ReservesOf112
  -- of the marks (40, 7) and (40, 9) the first goes, whichever place it has
  pub lower_number : chosen even_level (tables_with (mark_at 40 7) (mark_at 40 9)) each_one_read 40 ≡ Some (record { place = 0; due = true })
  pub lower_number_second : chosen even_level (tables_with (mark_at 40 9) (mark_at 40 7)) each_one_read 40 ≡ Some (record { place = 1; due = true })
  -- arm 116, runs at 100 and 500: the elevator goes to 500, whichever was put first
  pub onward : (x y : Run) → x.extent.address ≡ 100 → y.extent.address ≡ 500 → MeetsFirst 116 (x ∷ y ∷ []) 1
  pub onward_first : (x y : Run) → x.extent.address ≡ 500 → y.extent.address ≡ 100 → MeetsFirst 116 (x ∷ y ∷ []) 0
  -- one run now and one in the quarter before: water 1,900,000
  pub water : (first second : Bool) → rule_level Water (sent_one second (moved_to 1 (sent_one first (unused 0)))) ≡ 1900000
