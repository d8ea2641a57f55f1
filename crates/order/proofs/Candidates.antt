-- The least of optional keys, a missing one last, is the least candidate; and with names of their own there is no other.
use Rattle.std.proofs.Common.{◌≡◌, ℕ, Bool, true, false, cond, List, length, get_or, is_some, Some, None, Option, sym, refl, ap, ◌∙◌, subst, arith}
use Rattle.std.specs.List.{IsFirstBest}
use Rattle.std.proofs.lemmas.List.{get_or_read}
use Rattle.order.specs.Order.{missing_last}
use Rattle.order.specs.Least.{LeastCandidate, TiesShareName, DifferentNames, OnlyChoice}

-- a place cannot be with and without a key
pub never : {X : Type 0} {Y : Type 0} (o : Option X) (x : X) → o ≡ None → o ≡ Some x → Y
never o x p q = absurd (let z : ◌≡◌ {A = ℕ} 0 1 = cc in omega arith)

-- the first best, with a key there
first_with_key : {X : Type 0} (before : X → X → Bool) (keys : List (Option X)) (b : ℕ) (x : X) → IsFirstBest (missing_last before) keys (length keys) b → Some x ≡ get_or keys b (Some x) → LeastCandidate before keys (Some b)
first_with_key before keys b x f e =
    let here = get_or_read keys b (Some x) f.0 e None in (
      x,
      record {
        here = (f.0, sym here);
        least = λ k y c. sym (ap (λ u. missing_last before u (Some x)) c.1) ∙ (ap (λ u. missing_last before (get_or keys k None) u) here ∙ f.1 k None c.0);
        first = λ k y lt c. sym (ap (λ u. missing_last before (Some x) u) c.1) ∙ (ap (λ u. missing_last before u (get_or keys k None)) here ∙ f.2 k None lt);
      },
    )

-- a key goes before a missing one, so where the first best has no key none has one
first_without : {X : Type 0} (before : X → X → Bool) (keys : List (Option X)) (b : ℕ) → IsFirstBest (missing_last before) keys (length keys) b → None ≡ get_or keys b None → LeastCandidate before keys None
first_without before keys b f e = λ k lt. missing (get_or keys k None) (ap (λ u. missing_last before (get_or keys k None) u) e ∙ f.1 k None lt)
  where
    missing : (u : Option _) → missing_last before u None ≡ false → u ≡ None
    missing None h = refl
    missing (Some y) h = absurd (let z : ◌≡◌ {A = Bool} true false = h in let w : ◌≡◌ {A = ℕ} 0 1 = cc in omega arith)

-- the first best gives the least candidate, if a key stands there
pub least_candidate_from : {X : Type 0} (before : X → X → Bool) (keys : List (Option X)) (b : ℕ) (o : Option X) (r : Option ℕ) → IsFirstBest (missing_last before) keys (length keys) b → o ≡ get_or keys b o → r ≡ cond (is_some o) (Some b) None → LeastCandidate before keys r
least_candidate_from before keys b None r f e q = subst (LeastCandidate before keys) (sym q) (first_without before keys b f e)
least_candidate_from before keys b (Some x) r f e q = subst (LeastCandidate before keys) (sym q) (first_with_key before keys b x f e)

-- keys that tie have one name, so where names differ each candidate that no other goes before is the one chosen
pub only_choice : {X : Type 0} (before : X → X → Bool) (name : X → ℕ) (apart : TiesShareName before name) (keys : List (Option X)) (r : Option ℕ) → LeastCandidate before keys r → DifferentNames name keys → OnlyChoice before keys r
only_choice before name apart keys None h names c x here least = never (get_or keys c None) x (h c here.0) here.1
only_choice before name apart keys (Some b) h names c x here least =
    ap Some (names b c h.0 x h.1.here here (apart h.0 x (least b h.0 h.1.here) (h.1.least c x here)))
