-- What the choice of a send says of the session chosen and of its head run.
use Rattle.std.proofs.Common.{◌≡◌, ℕ, ◌≤◌, Bool, true, false, cond, ◌&&◌, ltb, leb, List, [], ◌∷◌, Some, None, MatchBool, Option, sym, ap, subst, arith}
use Rattle.choosing.proofs.Passing.{never, there, one, passed}
use Rattle.choosing.proofs.Rightly.{is_right, sendable}
use Rattle.choosing.specs.Chosen.{chosen}
use Rattle.choosing.specs.Free.{usable_head}
use Rattle.choosing.specs.Right.{RightChoice, CanSend, Free, ByMark, ByLevel, Moment as ChoosingMoment}
use Rattle.choosing.specs.declared.choose.Choice.{Choice}
use Rattle.device.specs.Meaning.{held_by}
use Rattle.heads.specs.Heads.{HeadRun, head_for, head_of, of_session, grow, grown, alone, longer, joins}
use Rattle.service.specs.Moments.{Moment}
use Rattle.service.specs.Rows.{session, is_present}
use Rattle.service.specs.declared.rows.Session.{Session}
use Rattle.std.proofs.lemmas.Bool.{and_parts, leb-true}
use Rattle.usage.specs.declared.ServiceRecord.{ServiceRecord}
use Rattle.values.specs.declared.io.Io.{Io}
use Rattle.scheduling.specs.Sending.{head_at, most_runs, next_choice, used_of}

-- the tables, head runs and instant that a choice looks at
abbrev pub seen_at : Moment → ChoosingMoment
seen_at m = record { tables = m.tables; heads = head_at m; micros = m.tables.latest }

module _ (level : ServiceRecord → ℕ) (m : Moment) (c : Choice) (goes : next_choice level m ≡ Some c) where
  abbrev parts : (ltb (held_by m.device) (most_runs m) ≡ true) × (chosen level m.tables (head_at m) m.tables.latest ≡ Some c)
  parts = there (ltb (held_by m.device) (most_runs m)) (chosen level m.tables (head_at m) m.tables.latest) c goes

  -- the choice is right in the words of the rules, and a run can be sent from its place
  pub right_choice : RightChoice level (seen_at m) (Some c)
  right_choice = is_right level (seen_at m) (Some c) (sym parts.1)

  pub can_send : CanSend m.tables (head_at m) c.place
  can_send = sendable level (seen_at m) (Some c) right_choice

  pub free_choice : Free (seen_at m) c.place
  free_choice = by c.due right_choice
    where
      by : (b : Bool) → MatchBool b (ByMark (seen_at m) c.place) (ByLevel level (seen_at m) c.place) → Free (seen_at m) c.place
      by true h = h.due.free
      by false h = h.free

-- what a usable head run is
pub record Usable (r : Session) (head : Option HeadRun) (h : HeadRun) : Type 0 where
  pub is : head ≡ Some h
  pub present : is_present r.state ≡ true
  pub enough : h.count ≤ r.unsent

pub usable_is : (r : Session) (head : Option HeadRun) (h : HeadRun) → usable_head r head ≡ Some h → Usable r head h
usable_is r None h e = never h e
usable_is r (Some g) h e =
    let p = passed (is_present r.state && leb g.count r.unsent) g h e in
    let q = and_parts (is_present r.state) (leb g.count r.unsent) p.0 in
    record {
      is = ap Some p.1;
      present = q.0;
      enough = subst (λ (x : HeadRun). x.count ≤ r.unsent) p.1 (leb-true _ _ q.1);
    }

-- a head run has an I/O
grow_some : (h : HeadRun) (ios : List Io) → 1 ≤ h.count → 1 ≤ (grow h ios).count
grow_some h [] l = l
grow_some h (io ∷ ios) l = by (joins h io) (grow_some (longer h io) ios (omega arith))
  where
    by : (b : Bool) → 1 ≤ (grow (longer h io) ios).count → 1 ≤ (cond b (grow (longer h io) ios) h).count
    by true k = k
    by false k = l

grown_some : (ios : List Io) (h : HeadRun) → grown ios ≡ Some h → 1 ≤ h.count
grown_some [] h e = never h e
grown_some (io ∷ ios) h e = subst (λ (x : HeadRun). 1 ≤ x.count) (one (grow (alone io) ios) h e) (grow_some (alone io) ios (omega arith))

-- the head run of a present session
pub head_present : (m : Moment) (k : ℕ) → is_present (session m.tables k).state ≡ true → head_at m k ≡ head_of (session m.tables k).name (used_of m.waiting)
head_present m k p = ap (λ b. head_for (cond b (Some (session m.tables k).name) None) (used_of m.waiting)) p

pub head_some : (name : ℕ) (line : List Io) (h : HeadRun) → head_of name line ≡ Some h → 1 ≤ h.count
head_some name line h e = grown_some (of_session name line) h e
