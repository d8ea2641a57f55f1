-- One send from the session that goes next, and the head runs that it leaves.
use Rattle.std.proofs.Common.{◌≡◌, ℕ, ◌+◌, ◌-◌, ◌<◌, ◌≤◌, Bool, true, false, cond, ltb, ◌≢◌, List, ◌++◌, length, get_or, drop, set, is_some, Some, None, Option, sym, refl, ap, ◌∙◌, subst, ⊎_elim, arith}
use mathlib.Core.HLevel.{⊥_prop}
use mathlib.Core.Logic.{∥∥₁_elim}
use Rattle.choosing.proofs.Lawful.{choice_laws}
use Rattle.choosing.specs.Chosen.{chosen}
use Rattle.choosing.specs.Free.{run_at, usable_head}
use Rattle.choosing.specs.declared.choose.Choice.{Choice}
use Rattle.device.specs.Meaning.{Meaning, held_by, Put}
use Rattle.heads.specs.Heads.{HeadRun, head_says, head_for, head_of, grown}
use Rattle.heads.specs.declared.head.Head.{Head}
use Rattle.line.specs.Line.{Closed, records_of, without}
use Rattle.service.proofs.Facts.{counts_in}
use Rattle.service.specs.Moments.{Moment, moment_of}
use Rattle.service.specs.Rows.{session, blank_session, is_present}
use Rattle.service.specs.Sound.{Numbers}
use Rattle.service.specs.declared.rows.Session.{Session}
use Rattle.service.specs.declared.rows.Tables.{Tables}
use Rattle.std.proofs.lemmas.List.{get_or-set_same, get_or-set_other, take_all, length-take, length-append, length-drop, drop_at, drop-drop, get_or_default}
use Rattle.std.proofs.lemmas.Bool.{both_ways, cases_eq, cond-true, lt-ltb}
use Rattle.std.specs.Option.{option_map}
use Rattle.usage.specs.declared.ServiceRecord.{ServiceRecord}
use Rattle.values.specs.declared.io.Io.{Io}
use Rattle.values.specs.declared.io.Run.{Run}
use Rattle.scheduling.proofs.Choosing.{head_present}
use Rattle.scheduling.proofs.Lines.{without_else, without_most}
use Rattle.scheduling.specs.Exact.{HeadsRight, PastKept}
use Rattle.scheduling.specs.Sending.{SentAs, head_at, most_runs, next_choice, owner_of, present_name, sent_line, sent_row, sent_tables, used_of, Sends}

-- ---- the choice by the head runs that were found

module _ (level : ServiceRecord → ℕ) (m : Moment) (heads : List (Option Head)) (right : HeadsRight m heads) (micros : ℕ) (latest : m.tables.latest ≡ micros) where
  pub as_chosen : (r : Option Choice) → r ≡ chosen level m.tables (run_at heads) micros → chosen level m.tables (head_at m) m.tables.latest ≡ r
  as_chosen r e =
      ap (chosen level m.tables (head_at m)) latest
      ∙ (sym (choice_laws.choice_by_places level m.tables (run_at heads) (head_at m) micros right) ∙ sym e)

  -- none is chosen
  pub none_next : None ≡ chosen level m.tables (run_at heads) micros → next_choice level m ≡ None
  none_next e = ap (λ o. cond (ltb (held_by m.device) (most_runs m)) o None) (as_chosen None e) ∙ same (ltb (held_by m.device) (most_runs m))
    where
      same : (b : Bool) → cond {A = Option Choice} b None None ≡ None
      same true = refl
      same false = refl

  -- one is chosen, and there is room
  pub one_next : (c : Choice) → held_by m.device < most_runs m → Some c ≡ chosen level m.tables (run_at heads) micros → next_choice level m ≡ Some c
  one_next c room e = cond-true (ltb (held_by m.device) (most_runs m)) _ None (lt-ltb _ _ room) ∙ as_chosen (Some c) e

-- ---- what a send may count on

-- the numbers cannot overflow
pub record Bounds (t : Tables) (k count : ℕ) : Type 0 where
  pub given : t.orders < 9000000000
  pub few : (session t k).inside + count ≤ 4000000000

pub bounded : (t : Tables) (k count : ℕ) → Numbers t → k < 64 → count ≤ (session t k).unsent → Bounds t k count
bounded t k count f l enough =
    let r = counts_in t.arrivals (session t k) (f.counts k l) in
    record {
      given = omega (arith, f.numbered, f.few, f.openings, f.places);
      few = omega (arith, r.0, r.1, f.few);
    }

-- ---- head runs after a send

module _ (m : Moment) (p count : ℕ) (due : Bool) (f : Numbers m.tables) (here : is_present (session m.tables p).state ≡ true) (d : Meaning) where
  abbrev t : Tables
  t = m.tables

  abbrev q : ℕ
  q = (session t p).name

  abbrev line : List Io
  line = used_of m.waiting

  abbrev after : Moment
  after = record { tables = sent_tables t p due count; places = m.places; waiting = sent_line m p count; device = d }

  -- all of what is left is used
  all_used : used_of after.waiting ≡ after.waiting
  all_used = take_all 4096 (sent_line m p count) (omega (arith, without_most q count line, length-take 4096 m.waiting))

  -- another session has another name
  other_name : (k : ℕ) → k ≢ p → is_present (session t k).state ≡ true → q ≡ (session t k).name → ⊥
  other_name k ne there e = ∥∥₁_elim f.sound ⊥_prop (λ s. ne (s.names_apart k p there here (sym e)))

  same_others : (k : ℕ) → k ≢ p → head_at after k ≡ head_at m k
  same_others k ne =
      ap (λ (r : Session). head_for (present_name r) (used_of after.waiting)) (get_or-set_other t.sessions p k (sent_row t.latest t.orders due count (session t p)) blank_session ne)
      ∙ (ap (head_for (present_name (session t k))) all_used ∙ by (is_present (session t k).state) refl)
    where
      by : (b : Bool) → is_present (session t k).state ≡ b → head_for (cond b (Some (session t k).name) None) (without owner_of q count line) ≡ head_for (cond b (Some (session t k).name) None) line
      by true e = ap grown (without_else q count (session t k).name line (other_name k ne e))
      by false e = refl

  -- the row of the session that was sent from keeps its state and its name
  row_after : p < length t.sessions → session after.tables p ≡ sent_row t.latest t.orders due count (session t p)
  row_after l = get_or-set_same t.sessions p (sent_row t.latest t.orders due count (session t p)) blank_session l

  still_present : p < length t.sessions → is_present (session after.tables p).state ≡ true
  still_present l = ap (λ (r : Session). is_present r.state) (row_after l) ∙ here

  pub heads_after : (heads : List (Option Head)) (new : Option Head) → p < 64 → length heads ≡ 64 → HeadsRight m heads → option_map head_says new ≡ head_of (session after.tables p).name (used_of after.waiting) → HeadsRight after (set heads p new)
  heads_after heads new l wide right found k within =
      ⊎_elim
      (λ (e : k ≡ p). subst (λ j. run_at (set heads p new) j ≡ head_at after j) (sym e)
      (ap (option_map head_says) (get_or-set_same heads p new None (omega arith)) ∙ (found ∙ sym (head_present after p (still_present (omega (arith, f.wide)))))))
      (λ (ne : k ≢ p). ap (option_map head_says) (get_or-set_other heads p k new None ne) ∙ (right k within ∙ sym (same_others k ne)))
      (cases_eq k p)

-- ---- the lent table after a send

-- the places past the 4,096th stay as they were
pub past_kept : (kept places places' : List Io) (len' : ℕ) → length kept ≤ 4096 → length kept ≤ length places → Closed kept places places' len' → PastKept places places'
past_kept kept places places' len' short within c =
    (ap length c.table ∙ omega (arith, length-append kept (drop (length kept) places), length-drop (length kept) places), ap (drop 4096) c.table ∙ behind kept places 4096 short)
  where
    behind : (xs ys : List Io) (n : ℕ) → length xs ≤ n → drop n (xs ++ drop (length xs) ys) ≡ drop n ys
    behind xs ys n l =
        let e : length xs + (n - length xs) ≡ n = omega arith in
        let at : drop (length xs) (xs ++ drop (length xs) ys) ≡ drop (length xs) ys = drop_at xs (drop (length xs) ys) (length xs) refl in
        ap (λ k. drop k (xs ++ drop (length xs) ys)) (sym e)
        ∙ (sym (drop-drop (n - length xs) (length xs) (xs ++ drop (length xs) ys))
        ∙ (ap (drop (n - length xs)) at ∙ (drop-drop (n - length xs) (length xs) ys ∙ ap (λ k. drop k ys) e)))

-- ---- one send, from what the code did

-- the head run that was read at the chosen place
module _ (r : Session) (heads : List (Option Head)) (p : ℕ) (d : Option Head) (l : p < 64) (wide : length heads ≡ 64) where
  read_head : usable_head r (option_map head_says (get_or heads p d)) ≡ usable_head r (run_at heads p)
  read_head = ap (λ h. usable_head r (option_map head_says h)) (get_or_default heads p d None (omega arith))

  pub never_none : None ≡ usable_head r (option_map head_says (get_or heads p d)) → is_some (usable_head r (run_at heads p)) ≡ true → ⊥
  never_none e some =
      let none : usable_head r (run_at heads p) ≡ None = sym (e ∙ read_head) in
      let z : is_some {T = HeadRun} None ≡ true = sym (ap is_some none) ∙ some in
      both_ways _ refl z

  pub usable_read : (h : HeadRun) → Some h ≡ usable_head r (option_map head_says (get_or heads p d)) → usable_head r (run_at heads p) ≡ Some h
  usable_read h e = sym (e ∙ read_head)

module _ (level : ServiceRecord → ℕ) (t : Tables) (places : List Io) (len : ℕ) (held held' : Meaning) (c : Choice) (head : HeadRun) where
  abbrev from : Moment
  from = moment_of t places len held

  abbrev kept : List Io
  kept = sent_line from c.place head.count

  module _ (places' : List Io) (len' : ℕ) (closed : Closed kept places places' len') where
    pub past_after : PastKept places places'
    past_after =
        let a = without_most (session t c.place).name head.count (used_of (records_of places len)) in
        let b = length-take 4096 (records_of places len) in
        let e = length-take len places in
        past_kept kept places places' len' (omega arith) (omega arith) closed

    abbrev to : Tables → Moment
    to t' = moment_of t' places' len' held'

    abbrev sent : Moment
    sent = record { tables = sent_tables t c.place c.due head.count; places = length places; waiting = kept; device = held' }

    pub left_as : (t' : Tables) → t' ≡ sent_tables t c.place c.due head.count → to t' ≡ sent
    left_as t' e =
        ap to e
        ∙ (ap (λ n. record { tables = sent_tables t c.place c.due head.count; places = n; waiting = records_of places' len'; device = held' }) past_after.0
        ∙ ap (λ line. record { tables = sent_tables t c.place c.due head.count; places = length places; waiting = line; device = held' }) closed.left)

    pub one_send : (t' : Tables) → t' ≡ sent_tables t c.place c.due head.count → next_choice level from ≡ Some c → usable_head (session t c.place) (head_at from c.place) ≡ Some head → (run : Run) → SentAs (session t c.place) head run → Put held run held' → Sends level from c run (to t')
    one_send t' e goes usable run sent_as put = record { goes = goes; head = head; usable = usable; sent_as = sent_as; put = put; leaves = left_as t' e }

    pub heads_then : (t' : Tables) → t' ≡ sent_tables t c.place c.due head.count → Numbers t → is_present (session t c.place).state ≡ true → (heads : List (Option Head)) (new : Option Head) → c.place < 64 → length heads ≡ 64 → HeadsRight from heads → option_map head_says new ≡ head_of (session t' c.place).name (used_of (records_of places' len')) → HeadsRight (to t') (set heads c.place new)
    heads_then t' e f here heads new l wide right found =
        let at : option_map head_says new ≡ head_of (session sent.tables c.place).name (used_of sent.waiting) = found ∙ ap (λ (x : Moment). head_of (session x.tables c.place).name (used_of x.waiting)) (left_as t' e) in
        subst (λ (x : Moment). HeadsRight x (set heads c.place new)) (sym (left_as t' e)) (heads_after from c.place head.count c.due f here held' heads new l wide right at)
