-- The choice asks only which of the 64 places are free.
use Rattle.std.proofs.Common.{◌≡◌, ℕ, zero, suc, ◌+◌, ◌<◌, Bool, cond, ◌&&◌, ◌||◌, eqb, Some, None, Option, sym, refl, ap, ◌∙◌, add-one, arith}
use Rattle.choosing.proofs.Filling.{same_least}
use Rattle.choosing.specs.Chosen.{in_pool, level_choice, mark_or_level, chosen_of}
use Rattle.choosing.specs.Due.{own_mark, effective_mark, has_come, due_key, due_choice}
use Rattle.choosing.specs.Picks.{some_of}
use Rattle.choosing.specs.Spare.{is_free_in, pool_level, session_level, pool_key, session_key, pool_choice, session_choice}
use Rattle.order.specs.Keys.{mark_before, level_before}
use Rattle.order.specs.Order.{then_by}
use Rattle.service.specs.Rows.{session}
use Rattle.service.specs.declared.rows.Tables.{Tables}
use Rattle.usage.specs.declared.ServiceRecord.{ServiceRecord}

same_some : (n : ℕ) (f g : ℕ → Bool) → ((k : ℕ) → k < n → f k ≡ g k) → some_of n f ≡ some_of n g
unfolding some_of
same_some zero f g e = refl
same_some (suc n) f g e = ap (λ b. b || f n) (same_some n f g (λ k l. e k (omega arith))) ∙ ap (λ b. some_of n g || b) (e n (omega arith))

-- one place more was looked at
pub some_more : (test : ℕ → Bool) (n m : ℕ) (before this after : Bool) → before ≡ some_of n test → this ≡ test n → after ≡ (before || this) → m ≡ n + 1 → after ≡ some_of m test
unfolding some_of
some_more test n m before this after b t a e = a ∙ (ap (λ x. x || this) b ∙ (ap (λ x. some_of n test || x) t ∙ ap (λ k. some_of k test) (sym (add-one n) ∙ sym e)))

module _ (level : ServiceRecord → ℕ) (t : Tables) (f g : ℕ → Bool) (e : (k : ℕ) → k < 64 → f k ≡ g k) (micros : ℕ) where
  same_due : due_choice t f micros ≡ due_choice t g micros
  same_due = same_least (then_by mark_before mark_before) 64 (due_key t f micros) (due_key t g micros) (λ k l. ap (λ b. cond (b && has_come micros (effective_mark t k).at) (Some (effective_mark t k, own_mark t k)) None) (e k l))

  same_in : (p k : ℕ) → k < 64 → is_free_in t f p k ≡ is_free_in t g p k
  same_in p k l = ap (λ b. b && eqb (session t k).pool p) (e k l)

  same_session : (p : ℕ) → session_choice level t f micros p ≡ session_choice level t g micros p
  same_session p = same_least level_before 64 (session_key level t f micros p) (session_key level t g micros p) (λ k l. ap (λ b. cond b (Some (session_level level t micros k)) None) (same_in p k l))

  same_pool : pool_choice level t f micros ≡ pool_choice level t g micros
  same_pool = same_least level_before 16 (pool_key level t f micros) (pool_key level t g micros) (λ p l. ap (λ b. cond b (Some (pool_level level t micros p)) None) (same_some 64 (is_free_in t f p) (is_free_in t g p) (same_in p)))

  same_in_pool : (o : Option ℕ) → in_pool (session_choice level t f micros) o ≡ in_pool (session_choice level t g micros) o
  same_in_pool None = refl
  same_in_pool (Some p) = same_session p

  pub same_chosen : chosen_of level t f micros ≡ chosen_of level t g micros
  same_chosen =
      ap (λ o. mark_or_level o (level_choice level t f micros)) same_due
      ∙ ap (mark_or_level (due_choice t g micros)) (same_in_pool (pool_choice level t f micros) ∙ ap (in_pool (session_choice level t g micros)) same_pool)
