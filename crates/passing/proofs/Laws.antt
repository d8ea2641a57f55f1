-- The passing law: each send that passes lowers what may still pass.
use Rattle.std.proofs.Common.{◌≡◌, ℕ, suc, ◌+◌, ◌<◌, ◌≤◌, Bool, true, false, not, ◌&&◌, eqb, List, ◌++◌, length, get_or, set, count_by, sym, refl, ap, ◌∙◌, subst, ⊎_elim, arith}
use Rattle.account.specs.Accounts.{opened}
use Rattle.account.specs.declared.row.Account.{Account}
use Rattle.choosing.specs.Due.{own_mark, pool_mark}
use Rattle.choosing.specs.Picks.{some_of}
use Rattle.history.proofs.Courses.{joined}
use Rattle.history.specs.Histories.{Starts}
use Rattle.history.specs.Logs.{sends_in, sent_for, sent_in}
use Rattle.history.specs.Steps.{Event, SendStep, Course}
use Rattle.order.specs.Keys.{mark_before}
use Rattle.order.specs.declared.keys.DueMark.{DueMark}
use Rattle.passing.proofs.Counting.{bit, bit_true, at_most, count_cons, some_at}
use Rattle.passing.proofs.Passed.{free_present, sender_inside, sender_present, by_mark, pool_mark_lem, ahead_of_session, ahead_of_pool, due_by_own, due_by_pool, view_of}
use Rattle.passing.proofs.Pending.{within, other, ahead, pool_ahead, pending, Waits, quiet_waits, quiet_pending, send_pending, pending_most}
use Rattle.passing.proofs.Telling.{Facts, facts, Quiet, later, makes, opens, changes, stays, Tale, still, quiet, send, told}
use Rattle.passing.specs.Law.{is_due, mark_of_pool, is_waiting, is_free_of, passes_session, passes_pool, NoneFor, SessionsPassed, PoolsPassed, PassingLaw}
use Rattle.scheduling.specs.Scheduling.{Sent}
use Rattle.scheduling.specs.Sending.{free_to_go, sent_row, sent_pool, sent_tables}
use Rattle.service.proofs.Sounding.{Kin}
use Rattle.service.proofs.Tables.{each_set}
use Rattle.service.specs.Calls.{opened_row}
use Rattle.service.specs.Moments.{Moment}
use Rattle.service.specs.Rows.{session, pool, blank_session, blank_pool, is_present}
use Rattle.service.specs.Sound.{Numbers}
use Rattle.service.specs.declared.rows.Pool.{Pool}
use Rattle.service.specs.declared.rows.Session.{Session}
use Rattle.service.specs.declared.rows.Tables.{Tables}
use Rattle.std.proofs.lemmas.List.{get_or-set_other}
use Rattle.std.proofs.lemmas.Bool.{and_parts, and_from, eqb-true, ne_eqb, not_from_false}
use Rattle.usage.specs.declared.ServiceRecord.{ServiceRecord}

-- ---- a course, of whatever waits

-- the session that a send is made from
abbrev sender_of : Moment → Sent → Session
sender_of n sent = session n.tables sent.choice.place

-- what waits: the account x, a session or a pool, of the pool p and with the mark μ; the sends to it, and those that pass it
record Waiter : Type 0 where
  what : Session → ℕ
  alike : (y r : Session) → y.name ≡ r.name → y.pool ≡ r.pool → what y ≡ what r
  x : ℕ
  p : ℕ
  μ : DueMark
  account : Sent → ℕ
  passes : Sent → Bool

-- what may still pass it, and what a send takes out of that
abbrev ahead_of : Waiter → Tables → ℕ
ahead_of a t = pending a.what a.x a.p a.μ t

abbrev taken : Waiter → Tables → ℕ → ℕ
taken a t k = bit (ahead a.what a.x a.μ (session t k)) + bit (pool_ahead a.p a.μ t (session t k).pool)

-- what is known of it is kept by every step but its own sends, and where it is known a send that passes takes something out
record Watched (level : ServiceRecord → ℕ) (a : Waiter) (Known : Tables → Type 0) : Type 0 where
  of : {n o : Moment} {sent : Sent} → SendStep level n sent o → a.account sent ≡ a.what (sender_of n sent)
  quietly : {t u : Tables} → Quiet t u → Known t → Known u
  sending : (t : Tables) (k : ℕ) (due : Bool) (count : ℕ) → Facts t → k < 64 → (a.what (session t k) ≡ a.x → ⊥) → Known t → Known (sent_tables t k due count)
  falls : {n o : Moment} {sent : Sent} → SendStep level n sent o → Facts n.tables → Known n.tables → (a.what (sender_of n sent) ≡ a.x → ⊥) → a.passes sent ≡ true → 1 ≤ taken a n.tables sent.choice.place

-- passes so far and what may still pass are no more than what might at first
through : {level : ServiceRecord → ℕ} {a : Waiter} {Known : Tables → Type 0} {m n : Moment} {sends : List Sent} → Watched level a Known → Tale level m sends n → Waits a.μ m.tables → Known m.tables → NoneFor a.account a.x sends → (count_by a.passes sends + ahead_of a n.tables ≤ ahead_of a m.tables) × Waits a.μ n.tables × Known n.tables
through d still w h none = (omega arith, w, h)
through {a = a} d (quiet g f q) w h none =
    let r = through d g w h none in
    (omega (arith, r.0, quiet_pending a.what a.alike a.x a.p a.μ f q r.1), quiet_waits q r.1, d.quietly q r.2)
through {a = a} {Known = Known} d (send {sends = sends} {n = n} {o = o} {sent = sent} g f s) w h none =
    let r = through d g w h none.1 in
    let t = n.tables in
    let k = sent.choice.place in
    let u = sent_tables t k sent.choice.due s.sends.head.count in
    let left : o.tables ≡ u = ap (λ (y : Moment). y.tables) s.sends.leaves in
    let l = sender_inside s.sends in
    let others : a.what (session t k) ≡ a.x → ⊥ = λ e. none.0 (d.of s ∙ e) in
    let falls = at_most (a.passes sent) (taken a t k) (d.falls s f r.2 others) in
    let lower = send_pending a.what a.alike a.x a.p a.μ t k sent.choice.due s.sends.head.count f l (f.housed k (sender_present s.sends)) r.1 in
    let w' : Waits a.μ u = record { over = r.1.over; low = omega (arith, r.1.low) } in (
      omega (arith, r.0, count_cons a.passes sent sends, falls, lower, ap (ahead_of a) left),
      subst (Waits a.μ) (sym left) w',
      subst Known (sym left) (d.sending t k sent.choice.due s.sends.head.count f l others r.2),
    )

ne_not : (a b : ℕ) → (a ≡ b → ⊥) → not (eqb a b) ≡ true
ne_not a b h = not_from_false (eqb a b) (ne_eqb a b h)

-- a present session other than x whose mark is not after μ is counted; so is another pool
counted : (what : Session → ℕ) (x : ℕ) (μ : DueMark) (r : Session) → is_present r.state ≡ true → (what r ≡ x → ⊥) → mark_before μ r.account.mark ≡ false → bit (ahead what x μ r) ≡ 1
counted what x μ r p ne h =
    bit_true (ahead what x μ r) (and_from (other what x r) (within μ r.account.mark) (and_from (is_present r.state) (not (eqb (what r) x)) p (ne_not (what r) x ne)) (not_from_false (mark_before μ r.account.mark) h))

counted_pool : (p : ℕ) (μ : DueMark) (t : Tables) (q : ℕ) → (q ≡ p → ⊥) → mark_before μ (mark_of_pool t q) ≡ false → bit (pool_ahead p μ t q) ≡ 1
counted_pool p μ t q ne h = bit_true (pool_ahead p μ t q) (and_from (not (eqb q p)) (within μ (mark_of_pool t q)) (ne_not q p ne) (not_from_false (mark_before μ (mark_of_pool t q)) h))

-- what holds of each row still does where one is written for which it holds
each_row : (P : Session → Type 0) (rows : List Session) (i : ℕ) (y : Session) → i < length rows → ((k : ℕ) → P (get_or rows k blank_session)) → P y → (k : ℕ) → P (get_or (set rows i y) k blank_session)
each_row P rows i y l all h k = each_set P rows (suc k) i y blank_session l (λ j under. all j) h k (omega arith)

-- ---- a session that waits

-- a row has, if it is of the present session x, the mark μ and the pool p
abbrev Mine : ℕ → ℕ → DueMark → Session → Type 0
Mine x p μ r = is_present r.state ≡ true → r.name ≡ x → (r.account.mark ≡ μ) × (r.pool ≡ p)

record Stays (x p : ℕ) (μ : DueMark) (t : Tables) : Type 0 where
  known : x < t.opened
  only : (j : ℕ) → Mine x p μ (session t j)

kin_mine : (x p : ℕ) (μ : DueMark) (y r : Session) → Kin y r → Mine x p μ r → Mine x p μ y
kin_mine x p μ y r kin h present e =
    let k = kin present in
    let m = h k.0 (sym k.1 ∙ e) in
    (ap (λ (a : Account). a.mark) k.3 ∙ m.0, k.2 ∙ m.1)

quiet_stays : {x p : ℕ} {μ : DueMark} {t u : Tables} → Quiet t u → Stays x p μ t → Stays x p μ u
quiet_stays (later micros l e) h = rw e (record { known = h.known; only = h.only })
quiet_stays (makes rates l e) h = rw e (record { known = h.known; only = h.only })
quiet_stays {x} {p} {μ} {t} (opens number i rates l e) h =
    rw e
    (record {
      known = omega (arith, h.known);
      only = each_row (Mine x p μ) t.sessions i (opened_row t.latest number rates t) l h.only (λ present same. absurd (omega (arith, h.known)));
    })
quiet_stays {x} {p} {μ} {t} (changes n i y l kin e) h =
    rw e (record { known = h.known; only = each_row (Mine x p μ) t.sessions i y l h.only (kin_mine x p μ y (session t i) kin (h.only i)) })
quiet_stays (stays e) h = rw e h

send_stays : {x p : ℕ} {μ : DueMark} (t : Tables) (k : ℕ) (due : Bool) (count : ℕ) → Facts t → k < 64 → ((session t k).name ≡ x → ⊥) → Stays x p μ t → Stays x p μ (sent_tables t k due count)
send_stays {x} {p} {μ} t k due count f l ne h = record {
  known = h.known;
  only = each_row (Mine x p μ) t.sessions k (sent_row t.latest t.orders due count (session t k)) (omega (arith, f.wide)) h.only (λ present same. absurd (ne same));
}

abbrev waiting_session : ℕ → ℕ → DueMark → Waiter
waiting_session x p μ = record { what = λ r. r.name; alike = λ y r e q. e; x = x; p = p; μ = μ; account = sent_for; passes = passes_session x }

-- a send that passes it is made from a session, or a pool, whose mark is not later
session_falls : {level : ServiceRecord → ℕ} {x p : ℕ} {μ : DueMark} {n o : Moment} {sent : Sent} → SendStep level n sent o → Facts n.tables → Stays x p μ n.tables → ((sender_of n sent).name ≡ x → ⊥) → passes_session x sent ≡ true → 1 ≤ taken (waiting_session x p μ) n.tables sent.choice.place
session_falls {x = x} {p = p} {μ = μ} {n = n} {sent = sent} s f h ne e =
    let t = n.tables in
    let k = sent.choice.place in
    let b = and_parts (not (eqb (sent_for sent) x)) (some_of 64 (is_waiting x sent.before)) e in
    let r = some_at 64 (is_waiting x n) (sym (ap (λ m. some_of 64 (is_waiting x m)) s.before_is) ∙ b.1) in
    let j = r.0 in
    let is = and_parts (eqb (session t j).name x) (is_due t (own_mark t j) && free_to_go n j) r.2 in
    let goes = and_parts (is_due t (own_mark t j)) (free_to_go n j) is.1 in
    let mine = h.only j (free_present n j goes.1) (eqb-true (session t j).name x is.0) in
    let due = due_by_own n j r.1 goes.1 goes.0 in
    let present = sender_present s.sends in
    let q = (session t k).pool in
    ⊎_elim
    (λ u. omega (arith, counted (λ r. r.name) x μ (session t k) present ne (sym (ap (λ π. mark_before π (own_mark t k)) mine.0) ∙ u)))
    (λ u.
    let apart : q ≡ p → ⊥ = λ z. u.0 (z ∙ sym mine.1) in
    let its = pool_mark_lem t q (omega (arith, f.housed k present, f.places)) in
    let first : mark_before μ (mark_of_pool t q) ≡ false = sym (ap (mark_before μ) its) ∙ (sym (ap (λ π. mark_before π (pool_mark t q)) mine.0) ∙ u.1) in
    omega (arith, counted_pool p μ t q apart first))
    (ahead_of_session (view_of n) k j (by_mark s.sends j due) due)

session_watched : (level : ServiceRecord → ℕ) (x p : ℕ) (μ : DueMark) → Watched level (waiting_session x p μ) (Stays x p μ)
session_watched level x p μ = record { of = λ s. s.sends.sent_as.session_is; quietly = quiet_stays; sending = send_stays; falls = session_falls }

-- ---- a pool that waits

record Keeps (q : ℕ) (μ : DueMark) (t : Tables) : Type 0 where
  made : q < t.made
  mark : mark_of_pool t q ≡ μ

-- the mark of a pool where another is written
other_mark : (t : Tables) (i q : ℕ) (r : Pool) → (q ≡ i → ⊥) → (get_or (set t.pools i r) q blank_pool).account.mark ≡ mark_of_pool t q
other_mark t i q r ne = ap (λ (b : Pool). b.account.mark) (get_or-set_other t.pools i q r blank_pool ne)

quiet_keeps : {q : ℕ} {μ : DueMark} {t u : Tables} → Quiet t u → Keeps q μ t → Keeps q μ u
quiet_keeps (later micros l e) h = rw e (record { made = h.made; mark = h.mark })
quiet_keeps {q} {t = t} (makes rates l e) h =
    rw e (record { made = omega (arith, h.made); mark = other_mark t t.made q (record { account = opened rates t.latest t.orders }) (λ z. omega (arith, h.made)) ∙ h.mark })
quiet_keeps (opens number i rates l e) h = rw e (record { made = h.made; mark = h.mark })
quiet_keeps (changes n i y l kin e) h = rw e (record { made = h.made; mark = h.mark })
quiet_keeps (stays e) h = rw e h

send_keeps : {q : ℕ} {μ : DueMark} (t : Tables) (k : ℕ) (due : Bool) (count : ℕ) → Facts t → k < 64 → ((session t k).pool ≡ q → ⊥) → Keeps q μ t → Keeps q μ (sent_tables t k due count)
send_keeps {q} t k due count f l ne h =
    let i = (session t k).pool in
    record { made = h.made; mark = other_mark t i q (sent_pool t.latest t.orders due (pool t i)) (λ z. ne (sym z)) ∙ h.mark }

abbrev waiting_pool : ℕ → DueMark → Waiter
waiting_pool q μ = record { what = λ r. r.pool; alike = λ y r e z. z; x = q; p = q; μ = μ; account = sent_in; passes = passes_pool q }

pool_falls : {level : ServiceRecord → ℕ} {q : ℕ} {μ : DueMark} {n o : Moment} {sent : Sent} → SendStep level n sent o → Facts n.tables → Keeps q μ n.tables → ((sender_of n sent).pool ≡ q → ⊥) → passes_pool q sent ≡ true → 1 ≤ taken (waiting_pool q μ) n.tables sent.choice.place
pool_falls {q = q} {μ = μ} {n = n} {sent = sent} s f h ne e =
    let t = n.tables in
    let k = sent.choice.place in
    let i = (session t k).pool in
    let present = sender_present s.sends in
    let b = and_parts (not (eqb (sent_in sent) q)) (is_due sent.before.tables (mark_of_pool sent.before.tables q) && some_of 64 (is_free_of q sent.before)) e in
    let c = and_parts (is_due t (mark_of_pool t q)) (some_of 64 (is_free_of q n)) (sym (ap (λ (m : Moment). is_due m.tables (mark_of_pool m.tables q) && some_of 64 (is_free_of q m)) s.before_is) ∙ b.1) in
    let r = some_at 64 (is_free_of q n) c.1 in
    let j = r.0 in
    let is = and_parts (eqb (session t j).pool q) (free_to_go n j) r.2 in
    let its : pool_mark t (session t j).pool ≡ mark_of_pool t q = ap (pool_mark t) (eqb-true (session t j).pool q is.0) ∙ pool_mark_lem t q (omega (arith, h.made, f.places)) in
    let same : pool_mark t (session t j).pool ≡ μ = its ∙ h.mark in
    let due = due_by_pool n j r.1 is.1 (ap (is_due t) its ∙ c.0) in
    let theirs = pool_mark_lem t i (omega (arith, f.housed k present, f.places)) in
    ⊎_elim
    (λ u. omega (arith, counted (λ r. r.pool) q μ (session t k) present ne (sym (ap (λ π. mark_before π (own_mark t k)) same) ∙ u)))
    (λ u. omega (arith, counted_pool q μ t i ne (sym (ap (mark_before μ) theirs) ∙ (sym (ap (λ π. mark_before π (pool_mark t i)) same) ∙ u))))
    (ahead_of_pool (view_of n) k j (by_mark s.sends j due) due)

pool_watched : (level : ServiceRecord → ℕ) (q : ℕ) (μ : DueMark) → Watched level (waiting_pool q μ) (Keeps q μ)
pool_watched level q μ = record { of = λ {n} {o} {sent} s. ap (λ (m : Moment). (session m.tables sent.choice.place).pool) s.before_is; quietly = quiet_keeps; sending = send_keeps; falls = pool_falls }

-- ---- the law

-- from a moment on whose tables are sound, as far as it goes
sessions_passed : (level : ServiceRecord → ℕ) (m n : Moment) (sends : List Sent) → Facts m.tables → Tale level m sends n → SessionsPassed m sends
sessions_passed level m n sends f g k present due none =
    let t = m.tables in
    let x = (session t k).name in
    let p = (session t k).pool in
    let μ = own_mark t k in
    let mine : (j : ℕ) → Mine x p μ (session t j) = λ j there e.
    let z = f.names_apart j k there present e in
    (ap (own_mark t) z, ap (λ i. (session t i).pool) z)
    in
    let s : Stays x p μ t = record { known = f.names_below k present; only = mine } in
    let w : Waits μ t = record { over = due; low = f.marks_below k present } in
    omega (arith, (through (session_watched level x p μ) g w s none).0, pending_most (λ r. r.name) (λ y r e q. e) x p μ t (f.housed k present))

pools_passed : (level : ServiceRecord → ℕ) (m n : Moment) (sends : List Sent) → Facts m.tables → Tale level m sends n → PoolsPassed m sends
pools_passed level m n sends f g q made due none =
    let t = m.tables in
    let μ = mark_of_pool t q in
    let s : Keeps q μ t = record { made = made; mark = refl } in
    let w : Waits μ t = record { over = due; low = f.pool_marks_below q made } in
    omega (arith, (through (pool_watched level q μ) g w s none).0, pending_most (λ r. r.pool) (λ y r e z. z) q q μ t made)

pub passing_of_course : (level : ServiceRecord → ℕ) (start : Moment) → Starts start → (sound : (log : List Event) (m : Moment) → Course level start log m → Numbers m.tables) → (log : List Event) (n : Moment) → Course level start log n → PassingLaw level start log n
passing_of_course level start starts sound log n c late early m parted came went =
    let f = facts m.tables (sound early m came) in
    let g = told level m (λ log o d. sound (log ++ early) o (joined came d)) went in
    (sessions_passed level m n (sends_in late) f g, pools_passed level m n (sends_in late) f g)
