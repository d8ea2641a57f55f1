-- A service record counts what was sent.
use Rattle.std.proofs.Common.{◌≡◌, ℕ, zero, suc, ◌+◌, ◌-◌, ◌<◌, ◌≤◌, true, false, cond, eqb, ltb, List, [], ◌∷◌, length, get_or, set, sym, refl, ap, ◌∙◌, subst, inl, inr, arith}
use Rattle.std.proofs.lemmas.List.{get_or-replicate, length-set}
use Rattle.std.proofs.lemmas.Bool.{cases_lt}
use Rattle.std.proofs.lemmas.Bool.Decides.{nat_tests}
use Rattle.usage.specs.declared.ServiceRecord.{ServiceRecord}
use Rattle.usage.specs.Usage.{moved_to, one_more, sent_one}
use Rattle.usage.specs.Histories.{Send, latest, Rising, record_of, sent_ago, not_due_count}
use Rattle.usage.proofs.Windows.{place_is, width_is}
use Rattle.usage.proofs.Moves.{at, moved, unmoved}

-- no send is later than a quarter
abbrev NoneLater : ℕ → List Send → Type 0
NoneLater last [] = Unit {0}
NoneLater last (send ∷ sends) = (send.quarter ≤ last) × NoneLater last sends

none_later : (start last : ℕ) (sends : List Send) → Rising start sends → latest start sends ≤ last → NoneLater last sends
none_later start last [] h l = tt
none_later start last (send ∷ sends) h l = (l, none_later start last sends h.1 (omega arith))

-- how many were sent some quarters ago, so many quarters later

ago_later : (n place quarter : ℕ) (sends : List Send) → n ≤ place → sent_ago (place - n) quarter sends ≡ sent_ago place (quarter + n) sends
ago_later n place quarter [] h = refl
ago_later n place quarter (send ∷ sends) h =
    let more = ago_later n place quarter sends h in
    let same : ◌≡◌ {A = ℕ} (cond (eqb (send.quarter + (place - n)) quarter) 1 0) (cond (eqb (send.quarter + place) (quarter + n)) 1 0) = grind (arith, nat_tests) in
    omega arith

ago_none : (n place quarter : ℕ) (sends : List Send) → place < n → NoneLater quarter sends → sent_ago place (quarter + n) sends ≡ 0
ago_none n place quarter [] h p = refl
ago_none n place quarter (send ∷ sends) h p =
    let more = ago_none n place quarter sends h p.1 in
    let none : ◌≡◌ {A = ℕ} (cond (eqb (send.quarter + place) (quarter + n)) 1 0) 0 = grind (arith, nat_tests) in
    omega arith

ago_most : (place present : ℕ) (sends : List Send) → sent_ago place present sends ≤ length sends
ago_most place present [] = omega arith
ago_most place present (send ∷ sends) =
    let more = ago_most place present sends in
    let one : cond (eqb (send.quarter + place) present) 1 0 ≤ 1 = grind (arith, nat_tests) in
    omega arith

-- a record's window counts the sends
record Tells (sends : List Send) (r : ServiceRecord) : Type 0 where
  long : length r.recent ≡ 20
  window : (place : ℕ) → place < 20 → get_or r.recent place 0 ≡ sent_ago place r.quarter sends

tells_at : (sends : List Send) (r : ServiceRecord) (quarter : ℕ) → NoneLater r.quarter sends → r.quarter < quarter → Tells sends r → Tells sends (at quarter r)
tells_at sends r quarter p h t =
    let n = quarter - r.quarter in
    let e : r.quarter + n ≡ quarter = omega arith in
    record {
      long = width_is 20 n r.recent t.long;
      window = λ place b. place_is 20 n r.recent place b ∙ (elim (cases_lt place n) [
        | inl l ↦
            let none : sent_ago place quarter sends ≡ 0 = ap (λ q. sent_ago place q sends) (sym e) ∙ ago_none n place r.quarter sends l p in
            grind (arith, nat_tests)
        | inr l ↦
            let old = t.window (place - n) (omega arith) in
            let later : sent_ago (place - n) r.quarter sends ≡ sent_ago place quarter sends = ago_later n place r.quarter sends l ∙ ap (λ q. sent_ago place q sends) e in
            grind (arith, nat_tests)
      ]);
    }

-- moved on, a record still counts the sends, and stands at the quarter
tells_moved : (sends : List Send) (r : ServiceRecord) (quarter : ℕ) → NoneLater r.quarter sends → r.quarter ≤ quarter → Tells sends r → Tells sends (moved_to quarter r) × ((moved_to quarter r).quarter ≡ quarter)
tells_moved sends r quarter p h t =
    elim (cases_lt r.quarter quarter) [
      | inl l ↦ let e = moved quarter r l in (subst (λ s. Tells sends s) (sym e) (tells_at sends r quarter p l t), ap (λ s. s.quarter) e)
      | inr l ↦ let e = unmoved quarter r l in (subst (λ s. Tells sends s) (sym e) t, ap (λ s. s.quarter) e ∙ (omega arith))
    ]

one_more_is : (count : ℕ) → count < 4294967295 → one_more count ≡ count + 1
one_more_is count h = omega arith

front_counts : (counts : List ℕ) (v place d : ℕ) → 0 < length counts → get_or (set counts 0 v) place d ≡ cond (eqb place 0) v (get_or counts place d)
front_counts [] v place d h = omega arith
front_counts (x ∷ xs) v zero d h = refl
front_counts (x ∷ xs) v (suc place) d h = grind (arith, nat_tests)

tells_sent : (sends : List Send) (r : ServiceRecord) (send : Send) → length sends < 4294967295 → r.quarter ≡ send.quarter → Tells sends r → Tells (send ∷ sends) (sent_one send.due r)
tells_sent sends r send few q t =
    let l : 0 < length r.recent = omega (arith, t.long) in
    let old = t.window 0 (omega arith) in
    let few0 = ago_most 0 r.quarter sends in
    let one = one_more_is (get_or r.recent 0 0) (omega arith) in
    record {
      long = simp length-set t.long;
      window = λ place b.
          let here = t.window place b in
          let front = front_counts r.recent (one_more (get_or r.recent 0 0)) place 0 l in
          elim (cases_lt 0 place) [
            | inl m ↦ grind (arith, nat_tests)
            | inr m ↦ let z : place ≡ 0 = omega arith in grind (arith, nat_tests)
          ];
    }

-- after the sends
tells_all : (start : ℕ) (sends : List Send) → Rising start sends → length sends < 4294967296 → Tells sends (record_of start sends) × ((record_of start sends).quarter ≡ latest start sends)
tells_all start [] h few = (record { long = refl; window = λ place b. get_or-replicate 20 place 0 0 b }, refl)
tells_all start (send ∷ sends) h few =
    let before = tells_all start sends h.1 (omega arith) in
    let r = record_of start sends in
    let p = none_later start r.quarter sends h.1 (omega arith) in
    let on = tells_moved sends r send.quarter p (omega (arith, h.0, before.1)) before.0 in
    (tells_sent sends (moved_to send.quarter r) send (omega arith) on.1 on.0, on.1)

pub window_counts : (start present : ℕ) (sends : List Send) → Rising start sends → latest start sends ≤ present → length sends < 4294967296 → (place : ℕ) → place < 20 → get_or (moved_to present (record_of start sends)).recent place 0 ≡ sent_ago place present sends
window_counts start present sends h l few place b =
    let all = tells_all start sends h few in
    let r = record_of start sends in
    let p = none_later start r.quarter sends h (omega (arith, all.1)) in
    let on = tells_moved sends r present p (omega (arith, all.1)) all.0 in
    on.0.window place b ∙ ap (λ q. sent_ago place q sends) on.1

moved_not_due : (quarter : ℕ) (r : ServiceRecord) → (moved_to quarter r).not_due ≡ r.not_due
moved_not_due quarter r = elim (ltb r.quarter quarter) as (λ b. (cond b (at quarter r) r).not_due ≡ r.not_due) [ true ↦ refl | false ↦ refl ]

not_due_most : (sends : List Send) → not_due_count sends ≤ length sends
not_due_most [] = omega arith
not_due_most (send ∷ sends) =
    let more = not_due_most sends in
    elim send.due as (λ b. cond b 0 1 + not_due_count sends ≤ length (send ∷ sends)) [ true ↦ omega arith | false ↦ omega arith ]

not_due_all : (start : ℕ) (sends : List Send) → length sends < 4294967296 → (record_of start sends).not_due ≡ not_due_count sends
not_due_all start [] few = refl
not_due_all start (send ∷ sends) few =
    let r = record_of start sends in
    let before : (moved_to send.quarter r).not_due ≡ not_due_count sends = moved_not_due send.quarter r ∙ not_due_all start sends (omega arith) in
    let most = not_due_most sends in
    let n = (moved_to send.quarter r).not_due in
    elim send.due as (λ b. cond b n (one_more n) ≡ cond b 0 1 + not_due_count sends) [ true ↦ omega arith | false ↦ omega arith ]

pub not_due_counts : (start present : ℕ) (sends : List Send) → length sends < 4294967296 → (moved_to present (record_of start sends)).not_due ≡ not_due_count sends
not_due_counts start present sends few = moved_not_due present (record_of start sends) ∙ not_due_all start sends few
