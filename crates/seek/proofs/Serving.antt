-- Turn after turn: from an empty device each turn serves one run, so that in the end each run was served once.
use Rattle.std.proofs.Common.{◌≡◌, ℕ, ◌+◌, ◌<◌, ◌≤◌, min, List, [], ◌∷◌, ◌++◌, length, take, drop, Some, None, sum_by, Option, sym, refl, ap, ◌∙◌, subst, ⊎_elim, arith, drop-drop, take-add, MatchOption}
use Rattle.std.specs.Option.{option_to_list}
use Rattle.std.proofs.lemmas.List.{append-nil, length-append, length-drop, length-take-le, take_all, nil_from_length}
use Rattle.std.proofs.lemmas.Bool.{cases_lt}
use Rattle.std.proofs.lemmas.List.Sums.{sum_by-append, sum_by-cons}
use Rattle.values.specs.declared.io.Run.{Run}
use Rattle.device.specs.Meaning.{Meaning, Same, held_by, Worked, Took}
use Rattle.device.proofs.Collections.{same_length}
use Rattle.seek.specs.Courses.{Joined, Turn, Course, start, turn, Served}

-- from an empty device: what was put was served or is at work, nothing waits to be taken, and each of i turns served one
pub record Counted (runs : List Run) (i next : ℕ) (served : List Run) (m : Meaning) : Type 0 where
  pub whole : Same (take next runs) (served ++ m.working)
  pub done : m.done ≡ []
  pub many : length served ≡ i

-- what a turn did to the collections
record Turned (m : Meaning) (rest : List Run) (k : ℕ) (r : Option Run) (p : Meaning) : Type 0 where
  full : Meaning
  moved : Meaning
  count : ℕ
  joined : Joined m (take k rest) full
  within : k ≤ length rest
  room : k < length rest → 1 ≤ held_by full
  worked : Worked full moved count
  one : count ≡ min 1 (length full.working)
  took : MatchOption r (moved.done ≡ []) (λ run. Took moved run p)

-- how many runs each collection has in a turn
module _ (m : Meaning) (rest : List Run) (k : ℕ) (r : Option Run) (p : Meaning) (t : Turned m rest k r p) where
  working_more : length t.full.working ≡ length m.working + k
  working_more =
      let a = same_length (m.working ++ take k rest) t.full.working t.joined.working in
      let b = length-append m.working (take k rest) in
      let c = length-take-le k rest t.within in
      omega arith

  done_same : length t.full.done ≡ length m.done
  done_same = sym (same_length m.done t.full.done t.joined.done)

  done_more : length t.moved.done ≡ length m.done + t.count
  done_more =
      let a = same_length (t.full.done ++ t.worked.moved) t.moved.done t.worked.done in
      let b = length-append t.full.done t.worked.moved in
      let c = t.worked.many in
      let d = done_same in
      omega arith

module _ (runs : List Run) (i next : ℕ) (served : List Run) (m : Meaning) (lt : i < length runs) (le : next ≤ length runs) (h : Counted runs i next served m) (k : ℕ) where
  -- something is at work while a run is left
  at_work_lem : (r : Option Run) (p : Meaning) (t : Turned m (drop next runs) k r p) → 1 ≤ length t.full.working
  at_work_lem r p t =
      let a = working_more m (drop next runs) k r p t in
      let b = done_same m (drop next runs) k r p t in
      let c = length-drop next runs in
      let d = same_length (take next runs) (served ++ m.working) h.whole in
      let e = length-append served m.working in
      let f = length-take-le next runs le in
      let g = h.many in
      let z : length m.done ≡ 0 = ap length h.done in
      let w = t.within in
      ⊎_elim (λ (l : next + k < length runs). omega (arith, t.room (omega arith))) (λ (l : length runs ≤ next + k). omega arith) (cases_lt (next + k) (length runs))

  counted_none : (p : Meaning) → Turned m (drop next runs) k None p → ⊥
  counted_none p t =
      let a = done_more m (drop next runs) k None p t in
      let b = at_work_lem None p t in
      let c = t.one in
      let z : length t.moved.done ≡ 0 = ap length t.took in
      omega arith

  -- the run served, and the others as they were
  counted_some : (run : Run) (p : Meaning) → Turned m (drop next runs) k (Some run) p → Counted runs (i + 1) (next + k) (served ++ run ∷ []) p
  counted_some run p t =
      let a = done_more m (drop next runs) k (Some run) p t in
      let b = at_work_lem (Some run) p t in
      let c = t.one in
      let z : length m.done ≡ 0 = ap length h.done in
      let took = same_length t.moved.done (run ∷ p.done) t.took.done in
      let none : length p.done ≡ 0 = omega arith in
      let nil : p.done ≡ [] = nil_from_length p.done none in
      record {
        whole = λ weight.
            let w0 = h.whole weight in
            let w1 = t.joined.working weight in
            let w2 = t.joined.done weight in
            let w3 = t.worked.working weight in
            let w4 = t.worked.done weight in
            let w5 = t.took.working weight in
            let w6 = t.took.done weight in
            let s0 = sum_by-append weight served m.working in
            let s1 = sum_by-append weight m.working (take k (drop next runs)) in
            let s2 = sum_by-append weight t.worked.moved t.moved.working in
            let s3 = sum_by-append weight t.full.done t.worked.moved in
            let s4 = sum_by-cons weight run p.done in
            let s5 = sum_by-append weight (served ++ run ∷ []) p.working in
            let s6 = sum_by-append weight served (run ∷ []) in
            let s7 = sum_by-cons weight run [] in
            let e0 : sum_by weight m.done ≡ 0 = ap (sum_by weight) h.done in
            let e1 : sum_by weight p.done ≡ 0 = ap (sum_by weight) nil in
            let e2 : sum_by weight (take (next + k) runs) ≡ sum_by weight (take next runs) + sum_by weight (take k (drop next runs)) = ap (sum_by weight) (take-add next k runs) ∙ sum_by-append weight (take next runs) (take k (drop next runs)) in
            omega arith;
        done = nil;
        many = let l = length-append served (run ∷ []) in let g = h.many in omega arith;
      }

-- ---- a device, turn after turn

module _ {D : Type 0} (means : D → Meaning) (puts : D → Run → D → Type 0) (works : D → ℕ → D → Type 0) (takes : D → Run → D → Type 0) (deep : (d : D) → 1 ≤ (means d).depth) (steady : (d e : D) (count : ℕ) → works d count e → count ≡ min 1 (length (means d).working)) (d : D) (runs : List Run) where
  -- i turns were made
  pub record Serving (i next : ℕ) (served : List Run) (e : D) : Type 0 where
    pub course : Course means puts works takes runs d next served e
    pub within : next ≤ length runs
    pub counted : held_by (means d) ≡ 0 → Counted runs i next served (means e)

  -- the same, by what is left of the runs
  pub record Turning (i : ℕ) (rest : List Run) (served : List Run) (e : D) : Type 0 where
    pub next : ℕ
    pub left : rest ≡ drop next runs
    pub serving : Serving i next served e

  turned : (e : D) (rest : List Run) (k : ℕ) (r : Option Run) (f : D) → Turn means puts works takes e rest k r f → Turned (means e) rest k r (means f)
  turned e rest k r f t = record {
    full = means t.full;
    moved = means t.moved;
    count = t.count;
    joined = t.filled.meant;
    within = t.filled.within;
    room = λ lt. let h = t.filled.full lt in let g = deep t.full in omega arith;
    worked = t.worked;
    one = steady t.full t.moved t.count t.worked_exactly;
    took = t.took;
  }

  serving_none : Serving 0 0 [] d
  serving_none = record {
    course = start;
    within = omega arith;
    counted = λ z. record { whole = λ weight. ap (sum_by weight) (sym (nil_from_length (means d).working (omega arith))); done = nil_from_length (means d).done (omega arith); many = refl };
  }

  pub turning_none : (served : List Run) → served ≡ [] → Turning 0 runs served d
  turning_none served e = record { next = 0; left = refl; serving = subst (λ l. Serving 0 0 l d) (sym e) serving_none }

  -- one turn more
  module _ (i next : ℕ) (served : List Run) (e : D) (h : Serving i next served e) (lt : i < length runs) (k : ℕ) (f : D) where
    put_within : (r : Option Run) → Turn means puts works takes e (drop next runs) k r f → next + k ≤ length runs
    put_within r t = let a = t.filled.within in let b = length-drop next runs in let c = h.within in omega arith

    counted_more : (r : Option Run) → Turn means puts works takes e (drop next runs) k r f → held_by (means d) ≡ 0 → Counted runs (i + 1) (next + k) (served ++ option_to_list r) (means f)
    counted_more None t z = absurd (counted_none runs i next served (means e) lt h.within (h.counted z) k (means f) (turned e (drop next runs) k None f t))
    counted_more (Some run) t z = counted_some runs i next served (means e) lt h.within (h.counted z) k run (means f) (turned e (drop next runs) k (Some run) f t)

    serving_more : (rest : List Run) (r : Option Run) (now_served : List Run) → rest ≡ drop next runs → Turn means puts works takes e rest k r f → now_served ≡ served ++ option_to_list r → Serving (i + 1) (next + k) now_served f
    serving_more rest r now_served at t s =
        let t' = subst (λ l. Turn means puts works takes e l k r f) at t in
        subst (λ l. Serving (i + 1) (next + k) l f) (sym s) (record { course = turn k r h.course t'; within = put_within r t'; counted = counted_more r t' })

  pub turning_more : (i : ℕ) (rest served : List Run) (e : D) → Turning i rest served e → i < length runs → (k : ℕ) (f : D) (r : Option Run) (now_rest now_served : List Run) → Turn means puts works takes e rest k r f → now_rest ≡ drop k rest → now_served ≡ served ++ option_to_list r → Turning (i + 1) now_rest now_served f
  turning_more i rest served e h lt k f r now_rest now_served t left s = record {
    next = h.next + k;
    left = left ∙ (ap (drop k) h.left ∙ drop-drop k h.next runs);
    serving = serving_more i h.next served e h.serving lt k f rest r now_served h.left t s;
  }

  -- as many turns as runs
  serving_all : (i next : ℕ) (served : List Run) (e : D) → i ≡ length runs → Serving i next served e → Served means puts works takes d runs served e
  serving_all i next served e all h = record {
    next = next;
    course = h.course;
    whole = λ z.
        let c = h.counted z in
        let a = same_length (take next runs) (served ++ (means e).working) c.whole in
        let b = length-append served (means e).working in
        let l = length-take-le next runs h.within in
        let m = c.many in
        let w = h.within in
        let none : length (means e).working ≡ 0 = omega arith in
        let many : length runs ≤ next = omega arith in
        let idle : length (means e).done ≡ 0 = ap length c.done in (
          (λ weight. ap (sum_by weight) (sym (take_all next runs many)) ∙ (c.whole weight ∙ (ap (λ l. sum_by weight (served ++ l)) (nil_from_length (means e).working none) ∙ ap (sum_by weight) (append-nil served)))),
          omega arith,
        );
  }

  pub turning_all : (i : ℕ) (rest served : List Run) (e : D) → i ≡ length runs → Turning i rest served e → Served means puts works takes d runs served e
  turning_all i rest served e all h = serving_all i h.next served e all h.serving
