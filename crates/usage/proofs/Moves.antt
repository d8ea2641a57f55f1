-- A record moved on twice, and many times.
use Rattle.std.proofs.Common.{◌≡◌, ℕ, ◌-◌, ◌<◌, ◌≤◌, cond, List, [], ◌∷◌, sym, refl, ap, ◌∙◌, inl, inr, arith}
use Rattle.std.proofs.lemmas.Bool.{lt-ltb, le-ltb, cases_lt}
use Rattle.usage.specs.declared.ServiceRecord.{ServiceRecord}
use Rattle.usage.specs.Usage.{shifted, moved_to}
use Rattle.usage.specs.Laws.{moved_through, NonePast}
use Rattle.usage.proofs.Windows.{shifted_twice}

-- the record with its window shifted, at a quarter
abbrev pub at : ℕ → ServiceRecord → ServiceRecord
at quarter r = record { quarter = quarter; recent = shifted (quarter - r.quarter) r.recent; not_due = r.not_due }

pub unmoved : (quarter : ℕ) (r : ServiceRecord) → quarter ≤ r.quarter → moved_to quarter r ≡ r
unmoved quarter r h = ap (λ b. cond b (at quarter r) r) (le-ltb r.quarter quarter h)

pub moved : (quarter : ℕ) (r : ServiceRecord) → r.quarter < quarter → moved_to quarter r ≡ at quarter r
moved quarter r h = ap (λ b. cond b (at quarter r) r) (lt-ltb r.quarter quarter h)

at_twice : (a b : ℕ) (r : ServiceRecord) → r.quarter ≤ a → a ≤ b → at b (at a r) ≡ at b r
at_twice a b r h l =
    ap (λ l. record { quarter = b; recent = l; not_due = r.not_due })
    (shifted_twice (b - a) (a - r.quarter) r.recent ∙ ap (λ n. shifted n r.recent) (omega arith))

pub moved_twice : (a b : ℕ) (r : ServiceRecord) → a ≤ b → moved_to b (moved_to a r) ≡ moved_to b r
moved_twice a b r h =
    elim (cases_lt r.quarter a) [
      | inr l ↦ ap (moved_to b) (unmoved a r l)
      | inl l ↦ ap (moved_to b) (moved a r l) ∙ (elim (cases_lt a b) [
        | inl m ↦ moved b (at a r) m ∙ at_twice a b r (omega arith) h ∙ sym (moved b r (omega arith))
        | inr m ↦ let e : a ≡ b = omega arith in unmoved b (at a r) m ∙ ap (λ q. at q r) e ∙ sym (moved b r (omega arith))
      ])
    ]

pub moved_through_lem : (last : ℕ) (quarters : List ℕ) (r : ServiceRecord) → NonePast last quarters → moved_to last (moved_through quarters r) ≡ moved_to last r
moved_through_lem last [] r h = refl
moved_through_lem last (quarter ∷ quarters) r h = moved_through_lem last quarters (moved_to quarter r) h.1 ∙ moved_twice quarter last r h.0
