-- The accounts of all sessions, or of all pools, beside their sends. What is said here serves both.
use Rattle.std.proofs.Common.{◌≡◌, ℕ, ◌+◌, ◌-◌, ◌<◌, ◌≤◌, Bool, true, ◌⊎◌, List, [], ◌∷◌, Some, sym, refl, ap, ◌∙◌, subst, inl, inr, ⊎_elim, arith}
use Rattle.account.specs.Accounts.{opened, sent_at, free_at}
use Rattle.account.specs.declared.row.Account.{Account}
use Rattle.bucket.proofs.Windows.{start_paid, send_paid}
use Rattle.bucket.specs.Buckets.{charged_limit, full_limit, may_send, run_cost, settled_limit, settled_units}
use Rattle.bucket.specs.Windows.{Paid, Windowed}
use Rattle.std.proofs.lemmas.Bool.{cases_lt, cases_eq, leb-true}
use Rattle.values.specs.declared.rates.Rates.{Rates}
use Rattle.history.specs.Logs.{Given}
use Rattle.windows.specs.Law.{IsGiven, Limits}

-- ---- one account

-- the limit bucket of an account whose sends were at these instants, where a limit is set
pub record Bucket (limit : ℕ) (ts : List ℕ) (a : Account) : Type 0 where
  pub units : ℕ
  pub holds : a.limit_units ≡ Some units
  pub paid : Paid limit a.burst ts a.settled_at units

-- an account whose sends were at these instants, none of them after now
pub record Fits (ts : List ℕ) (now : ℕ) (a : Account) : Type 0 where
  pub settled : a.settled_at ≤ now
  pub bucket : (limit : ℕ) → a.limit ≡ Some limit → Bucket limit ts a

-- it has these rates
pub record RatedAs (a : Account) (r : Rates) : Type 0 where
  pub limit : a.limit ≡ r.limit
  pub burst : a.burst ≡ r.burst

opened_fits : (rates : Rates) (now number : ℕ) → Fits [] now (opened rates now number)
opened_fits rates now number = record {
  settled = omega arith;
  bucket = λ limit e. record { units = _; holds = ap (λ l. full_limit l rates.burst) e; paid = start_paid limit rates.burst now };
}

later_fits : (ts : List ℕ) (now t : ℕ) (a : Account) → now ≤ t → Fits ts now a → Fits ts t a
later_fits ts now t a h f = record { settled = omega (arith, f.settled); bucket = f.bucket }

-- a run is sent at an instant at which the limit lets it go
module _ (ts : List ℕ) (now number : ℕ) (due : Bool) (a : Account) (free : free_at now a ≡ true) (f : Fits ts now a) where
  -- what the bucket holds when it is settled
  found : (limit : ℕ) (e : a.limit ≡ Some limit) (b : Bucket limit ts a) → settled_limit a.limit a.burst a.limit_units (now - a.settled_at) ≡ Some (settled_units limit a.burst b.units (now - a.settled_at))
  found limit e b = ap (λ l. settled_limit l a.burst a.limit_units (now - a.settled_at)) e ∙ ap (λ u. settled_limit (Some limit) a.burst u (now - a.settled_at)) b.holds

  charged : (limit : ℕ) → a.limit ≡ Some limit → Bucket limit (now ∷ ts) (sent_at now number due a)
  charged limit e =
      let b = f.bucket limit e in
      let held = settled_units limit a.burst b.units (now - a.settled_at) in
      let enough : run_cost ≤ held = leb-true run_cost held (sym (ap may_send (found limit e b)) ∙ free) in record {
        units = _;
        holds = ap charged_limit (found limit e b);
        paid = send_paid limit a.burst ts a.settled_at b.units now f.settled enough b.paid;
      }

  sent_fits : Fits (now ∷ ts) now (sent_at now number due a)
  sent_fits = record { settled = omega arith; bucket = charged }

-- ---- all accounts

-- S: the instants of the sends under a number; given: the rates that numbers were given; Has: the account that stands under a number;
-- next: the next number to be given
pub record Ledger (S : ℕ → List ℕ) (given : List Given) (Has : ℕ → Account → Type 0) (next now : ℕ) : Type 0 where
  -- the numbers given are those below the next, each once
  pub below : (x : ℕ) (r : Rates) → IsGiven given x r → x < next
  pub once : (x : ℕ) (r s : Rates) → IsGiven given x r → IsGiven given x s → r ≡ s
  pub known : (x : ℕ) → x < next → (r : Rates) × IsGiven given x r
  -- nothing is sent under a number to come, and of every number given the law holds, whether its account still stands or not
  pub unused : (x : ℕ) → next ≤ x → S x ≡ []
  pub windowed : (x : ℕ) (r : Rates) (limit : ℕ) → IsGiven given x r → r.limit ≡ Some limit → Windowed limit r.burst (S x)
  -- an account that stands has the rates its number was given, and fits the sends under it
  pub there : (x : ℕ) (a : Account) → Has x a → x < next
  pub same : (x : ℕ) (a : Account) (r : Rates) → Has x a → IsGiven given x r → RatedAs a r
  pub fits : (x : ℕ) (a : Account) → Has x a → Fits (S x) now a

-- nothing was given yet
pub empty : (Has : ℕ → Account → Type 0) → ((x : ℕ) (a : Account) → Has x a → ⊥) → Ledger (λ x. []) [] Has 0 0
empty Has nobody = record {
  below = λ x r o. absurd o;
  once = λ x r s o p. absurd o;
  known = λ x l. absurd (omega arith);
  unused = λ x l. refl;
  windowed = λ x r limit o e. absurd o;
  there = λ x a h. absurd (nobody x a h);
  same = λ x a r h o. absurd o;
  fits = λ x a h. absurd (nobody x a h);
}

module _ {S : ℕ → List ℕ} {given : List Given} {Has : ℕ → Account → Type 0} {next now : ℕ} (k : Ledger S given Has next now) where
  pub limits : Limits given S
  limits = record {
    windowed = k.windowed;
    once = k.once;
    none_else = λ x nobody. ⊎_elim (λ l. let r = k.known x l in absurd (nobody r.0 r.1)) (λ l. k.unused x l) (cases_lt x next);
  }

  -- the latest instant moves on
  pub later : (t : ℕ) → now ≤ t → Ledger S given Has next t
  later t h = record {
    below = k.below;
    once = k.once;
    known = k.known;
    unused = k.unused;
    windowed = k.windowed;
    there = k.there;
    same = k.same;
    fits = λ x a s. later_fits (S x) now t a h (k.fits x a s);
  }

  -- no account stands that did not
  pub fewer : (Has' : ℕ → Account → Type 0) → ((x : ℕ) (a : Account) → Has' x a → Has x a) → Ledger S given Has' next now
  fewer Has' old = record {
    below = k.below;
    once = k.once;
    known = k.known;
    unused = k.unused;
    windowed = k.windowed;
    there = λ x a h. k.there x a (old x a h);
    same = λ x a r h o. k.same x a r (old x a h) o;
    fits = λ x a h. k.fits x a (old x a h);
  }

  -- the next number is given, and its account starts full
  module _ (r : Rates) (number : ℕ) (Has' : ℕ → Account → Type 0) (new : (x : ℕ) (a : Account) → Has' x a → ((next ≡ x) × (opened r now number ≡ a)) ⊎ Has x a) where
    unsent : (x : ℕ) → next ≡ x → S x ≡ []
    unsent x e = k.unused x (omega arith)

    pub added : Ledger S (record { number = next; rates = r } ∷ given) Has' (next + 1) now
    added = record {
      below = λ x s. ⊎_elim (λ o. omega (arith, o.0)) (λ o. omega (arith, k.below x s o));
      once = λ x s u o p.
          ⊎_elim
          (λ a. ⊎_elim (λ b. sym a.1 ∙ b.1) (λ b. absurd (omega (arith, a.0, k.below x u b))) p)
          (λ a. ⊎_elim (λ b. absurd (omega (arith, b.0, k.below x s a))) (λ b. k.once x s u a b) p)
          o;
      known = λ x l. ⊎_elim (λ e. (r, inl (e, refl))) (λ d. let old = k.known x (omega arith) in (old.0, inr old.1)) (cases_eq next x);
      unused = λ x l. k.unused x (omega arith);
      windowed = λ x s limit o e.
          ⊎_elim
          (λ p. subst (Windowed limit s.burst) (sym (unsent x p.0)) (start_paid limit s.burst now).windowed)
          (λ p. k.windowed x s limit p e)
          o;
      there = λ x a h. ⊎_elim (λ p. omega (arith, p.0)) (λ p. omega (arith, k.there x a p)) (new x a h);
      same = λ x a s h o.
          ⊎_elim
          (λ p. ⊎_elim (λ q. subst (RatedAs a) q.1 (subst (λ (b : Account). RatedAs b r) p.1 (record { limit = refl; burst = refl }))) (λ q. absurd (omega (arith, p.0, k.below x s q))) o)
          (λ p. ⊎_elim (λ q. absurd (omega (arith, q.0, k.there x a p))) (λ q. k.same x a s p q) o)
          (new x a h);
      fits = λ x a h.
          ⊎_elim
          (λ p. subst (λ ts. Fits ts now a) (sym (unsent x p.0)) (subst (Fits [] now) p.1 (opened_fits r now number)))
          (λ p. k.fits x a p)
          (new x a h);
    }

  -- a run is sent under number x, whose account is charged
  module _ (x number : ℕ) (due : Bool) (a : Account) (stands : Has x a) (free : free_at now a ≡ true) (S' : ℕ → List ℕ) (here : (y : ℕ) → x ≡ y → S' y ≡ now ∷ S x) (other : (y : ℕ) → (x ≡ y → ⊥) → S' y ≡ S y) where
    after : Fits (now ∷ S x) now (sent_at now number due a)
    after = sent_fits (S x) now number due a free (k.fits x a stands)

    own_windowed : (r : Rates) (limit : ℕ) → IsGiven given x r → r.limit ≡ Some limit → Windowed limit r.burst (now ∷ S x)
    own_windowed r limit o e =
        let s = k.same x a r stands o in
        subst (λ b. Windowed limit b (now ∷ S x)) s.burst (after.bucket limit (s.limit ∙ e)).paid.windowed

    module _ (Has' : ℕ → Account → Type 0) (new : (y : ℕ) (b : Account) → Has' y b → ((x ≡ y) × (sent_at now number due a ≡ b)) ⊎ ((x ≡ y → ⊥) × Has y b)) where
      pub charge : Ledger S' given Has' next now
      charge = record {
        below = k.below;
        once = k.once;
        known = k.known;
        unused = λ y l. other y (λ e. omega (arith, k.there x a stands)) ∙ k.unused y l;
        windowed = λ y r limit o e.
            ⊎_elim
            (λ p. subst (Windowed limit r.burst) (sym (here y p)) (own_windowed r limit (subst (λ z. IsGiven given z r) (sym p) o) e))
            (λ d. subst (Windowed limit r.burst) (sym (other y d)) (k.windowed y r limit o e))
            (cases_eq x y);
        there = λ y b h. ⊎_elim (λ p. omega (arith, p.0, k.there x a stands)) (λ p. k.there y b p.1) (new y b h);
        same = λ y b r h o.
            ⊎_elim
            (λ p. let s = k.same x a r stands (subst (λ z. IsGiven given z r) (sym p.0) o) in subst (λ (c : Account). RatedAs c r) p.1 (record { limit = s.limit; burst = s.burst }))
            (λ p. k.same y b r p.1 o)
            (new y b h);
        fits = λ y b h.
            ⊎_elim
            (λ p. subst (λ ts. Fits ts now b) (sym (here y p.0)) (subst (Fits (now ∷ S x) now) p.1 after))
            (λ p. subst (λ ts. Fits ts now b) (sym (other y p.0)) (k.fits y b p.1))
            (new y b h);
      }
