-- What may still pass: the marks of others that are not later than the mark of the one that waits.
use Rattle.std.proofs.Common.{◌≡◌, ℕ, ◌+◌, ◌<◌, ◌≤◌, Bool, true, false, not, ◌&&◌, eqb, ◌≢◌, count_by, sym, ap, ◌∙◌, arith}
use Rattle.account.specs.Accounts.{opened, units_at}
use Rattle.account.specs.declared.row.Account.{Account}
use Rattle.bucket.specs.Buckets.{charged_pair}
use Rattle.bucket.specs.Due.{mark_of}
use Rattle.order.specs.Keys.{mark_before}
use Rattle.order.specs.declared.keys.DueMark.{DueMark}
use Rattle.passing.proofs.Counting.{bit, bit_false, bit_le, count_set, count_le, tally, tally_more, tally_same, tally_le, tally_set, tally_others}
use Rattle.passing.proofs.Marks.{come_later, new_after}
use Rattle.passing.proofs.Telling.{Facts, Quiet, later, makes, opens, changes, stays}
use Rattle.passing.specs.Law.{is_due, mark_of_pool, others_present, other_pools}
use Rattle.scheduling.specs.Sending.{sent_row, sent_pool, sent_tables}
use Rattle.service.proofs.Sounding.{Kin}
use Rattle.service.specs.Calls.{opened_row, pool_made}
use Rattle.service.specs.Rows.{session, pool, blank_session, blank_pool, is_present}
use Rattle.service.specs.declared.rows.Pool.{Pool}
use Rattle.service.specs.declared.rows.Session.{Session}
use Rattle.service.specs.declared.rows.Tables.{Tables}
use Rattle.std.proofs.lemmas.List.{get_or-set_same, get_or-set_other}
use Rattle.std.proofs.lemmas.Bool.{and_parts, and_from, and_right, not_from_true}

-- not later than μ
abbrev pub within : DueMark → DueMark → Bool
within μ π = not (mark_before μ π)

-- a present session, other than x by name or by pool
abbrev pub other : (Session → ℕ) → ℕ → Session → Bool
other what x r = is_present r.state && not (eqb (what r) x)

-- whose own mark is not later than μ
abbrev pub ahead : (Session → ℕ) → ℕ → DueMark → Session → Bool
ahead what x μ r = other what x r && within μ r.account.mark

-- a pool other than p whose mark is not later than μ
abbrev pub pool_ahead : ℕ → DueMark → Tables → ℕ → Bool
pool_ahead p μ t i = not (eqb i p) && within μ (mark_of_pool t i)

-- how many sessions and pools those are
pub pending : (Session → ℕ) → ℕ → ℕ → DueMark → Tables → ℕ
pending what x p μ t = count_by (ahead what x μ) t.sessions + tally t.made (pool_ahead p μ t)

-- μ has come, and its order number was given
pub record Waits (μ : DueMark) (t : Tables) : Type 0 where
  pub over : is_due t μ ≡ true
  pub low : μ.number < t.orders

-- a mark set now is later
new_out : (μ : DueMark) (t : Tables) (reserve units : ℕ) → Waits μ t → within μ (mark_of reserve units t.latest t.orders) ≡ false
new_out μ t reserve units w = not_from_true (mark_before μ (mark_of reserve units t.latest t.orders)) (new_after t.latest μ reserve units t.orders w.over w.low)

pub quiet_waits : {μ : DueMark} {t u : Tables} → Quiet t u → Waits μ t → Waits μ u
quiet_waits {μ} {t} (later micros l e) w = rw e (record { over = come_later t.latest micros μ.at l w.over; low = w.low })
quiet_waits (makes rates l e) w = rw e (record { over = w.over; low = omega (arith, w.low) })
quiet_waits (opens number i rates l e) w = rw e (record { over = w.over; low = omega (arith, w.low) })
quiet_waits (changes n i y l kin e) w = rw e (record { over = w.over; low = w.low })
quiet_waits (stays e) w = rw e w

module _ (what : Session → ℕ) (alike : (y r : Session) → y.name ≡ r.name → y.pool ≡ r.pool → what y ≡ what r) (x p : ℕ) (μ : DueMark) where
  -- a row kept counts no more than it did
  kin_ahead : (y r : Session) → Kin y r → ahead what x μ y ≡ true → ahead what x μ r ≡ true
  kin_ahead y r kin h =
      let a = and_parts (other what x y) (within μ y.account.mark) h in
      let b = and_parts (is_present y.state) (not (eqb (what y) x)) a.0 in
      let k = kin b.0 in
      and_from (other what x r) (within μ r.account.mark)
      (and_from (is_present r.state) (not (eqb (what r) x)) k.0 (sym (ap (λ n. not (eqb n x)) (alike y r k.1 k.2)) ∙ b.1))
      (sym (ap (λ (a : Account). within μ a.mark) k.3) ∙ a.1)

  -- it never grows without a send
  pub quiet_pending : {t u : Tables} → Facts t → Quiet t u → Waits μ t → pending what x p μ u ≤ pending what x p μ t
  unfolding pending
  quiet_pending f (later micros l e) w = rw e (omega arith)
  quiet_pending {t} f (makes rates l e) w =
      let u = pool_made t.latest rates t t.made in
      let r : Pool = record { account = opened rates t.latest t.orders } in
      let here : mark_of_pool u t.made ≡ r.account.mark = ap (λ (q : Pool). q.account.mark) (get_or-set_same t.pools t.made r blank_pool (omega (arith, f.deep))) in
      let new : pool_ahead p μ u t.made ≡ false = and_right (not (eqb t.made p)) (within μ (mark_of_pool u t.made)) (ap (within μ) here ∙ new_out μ t rates.reserve 0 w) in
      let old : (i : ℕ) → i < t.made → pool_ahead p μ u i ≡ pool_ahead p μ t i = λ i h. ap (λ (q : Pool). not (eqb i p) && within μ q.account.mark) (get_or-set_other t.pools t.made i r blank_pool (λ same. omega arith)) in
      rw e (omega (arith, tally_more t.made (pool_ahead p μ u), bit_false (pool_ahead p μ u t.made) new, tally_same t.made (pool_ahead p μ u) (pool_ahead p μ t) old))
  quiet_pending {t} f (opens number i rates l e) w =
      let y = opened_row t.latest number rates t in
      let new : ahead what x μ y ≡ false = and_right (other what x y) (within μ y.account.mark) (new_out μ t rates.reserve 0 w) in
      rw e (omega (arith, count_set (ahead what x μ) t.sessions i y blank_session l, bit_false (ahead what x μ y) new))
  quiet_pending {t} f (changes n i y l kin e) w =
      rw e (omega (arith, count_set (ahead what x μ) t.sessions i y blank_session l, bit_le (ahead what x μ y) (ahead what x μ (session t i)) (kin_ahead y (session t i) kin)))
  quiet_pending f (stays e) w = rw e (omega arith)

  -- a send takes its session and its pool out
  pub send_pending : (t : Tables) (k : ℕ) (due : Bool) (count : ℕ) → Facts t → k < 64 → (session t k).pool < t.made → Waits μ t → pending what x p μ (sent_tables t k due count) + (bit (ahead what x μ (session t k)) + bit (pool_ahead p μ t (session t k).pool)) ≡ pending what x p μ t
  unfolding pending
  send_pending t k due count f l h w =
      let u = sent_tables t k due count in
      let q = (session t k).pool in
      let y = sent_row t.latest t.orders due count (session t k) in
      let r = sent_pool t.latest t.orders due (pool t q) in
      let gone : ahead what x μ y ≡ false = and_right (other what x y) (within μ y.account.mark) (new_out μ t (session t k).account.reserve (charged_pair (units_at (session t k).account t.latest)).reserve w) in
      let here : mark_of_pool u q ≡ r.account.mark = ap (λ (b : Pool). b.account.mark) (get_or-set_same t.pools q r blank_pool (omega (arith, f.deep, f.places))) in
      let out : pool_ahead p μ u q ≡ false = and_right (not (eqb q p)) (within μ (mark_of_pool u q)) (ap (within μ) here ∙ new_out μ t (pool t q).account.reserve (charged_pair (units_at (pool t q).account t.latest)).reserve w) in
      let same : (i : ℕ) → i ≢ q → pool_ahead p μ u i ≡ pool_ahead p μ t i = λ i ne. ap (λ (b : Pool). not (eqb i p) && within μ b.account.mark) (get_or-set_other t.pools q i r blank_pool ne) in
      omega (
        arith,
        count_set (ahead what x μ) t.sessions k y blank_session (omega (arith, f.wide)),
        bit_false (ahead what x μ y) gone,
        tally_set t.made q (pool_ahead p μ u) (pool_ahead p μ t) h same,
        bit_false (pool_ahead p μ u q) out,
      )

  -- at first it is at most what there is
  pub pending_most : (t : Tables) → p < t.made → pending what x p μ t ≤ others_present what x t + other_pools t
  unfolding pending
  pending_most t l =
      omega (
        arith,
        count_le (ahead what x μ) (other what x) t.sessions (λ r h. (and_parts (other what x r) (within μ r.account.mark) h).0),
        tally_le t.made (pool_ahead p μ t) (λ i. not (eqb i p)) (λ i under h. (and_parts (not (eqb i p)) (within μ (mark_of_pool t i)) h).0),
        tally_others t.made p l,
      )
