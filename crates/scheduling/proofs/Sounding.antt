-- Sound tables stay sound: an instant accepted, a single send, a whole scheduling call.
use Rattle.std.proofs.Common.{◌≡◌, ℕ, ◌<◌, ◌≤◌, Bool, true, leb, ◌≢◌, List, length, Ok, Err, sum_by, Result, sym, refl, ap, ◌∙◌, subst, arith, length-set}
use mathlib.Core.Logic.{∥∥₁_map}
use Rattle.account.proofs.Holding.{account_laws}
use Rattle.account.specs.Accounts.{is_sound, sent_at}
use Rattle.account.specs.declared.row.Account.{Account}
use Rattle.choosing.specs.declared.choose.Choice.{Choice}
use Rattle.service.proofs.Facts.{counts_are, counts_in}
use Rattle.service.proofs.Sounding.{below_more, apart_more, fits_later}
use Rattle.service.proofs.Tables.{each_set}
use Rattle.service.specs.Moments.{Moment}
use Rattle.service.specs.Rows.{session, pool, blank_session, blank_pool, is_present, counts_fit, pool_reserve, reserves_in, reserves_made, takes_of}
use Rattle.service.specs.Sound.{Sound, Numbers, Present, Made, account_fits, session_number, pool_number}
use Rattle.service.specs.declared.fault.ServiceFault.{ServiceFault}
use Rattle.service.specs.declared.rows.Pool.{Pool}
use Rattle.service.specs.declared.rows.Session.{Session}
use Rattle.service.specs.declared.rows.Tables.{Tables}
use Rattle.std.proofs.lemmas.List.{get_or-set_same, get_or-set_other}
use Rattle.std.proofs.lemmas.List.Sums.{sum_by-set}
use Rattle.std.proofs.lemmas.Bool.{and_from, le-leb, ltb-false}
use Rattle.usage.specs.declared.ServiceRecord.{ServiceRecord}
use Rattle.values.specs.declared.io.Run.{Run}
use Rattle.scheduling.proofs.Choosing.{can_send, usable_is, head_present, head_some}
use Rattle.scheduling.proofs.Tables.{each_row, same_part, take_sum}
use Rattle.scheduling.specs.declared.answer.Scheduled.{Scheduled}
use Rattle.scheduling.specs.Laws.{SendsStaySound}
use Rattle.scheduling.specs.Scheduling.{Sent, Chain, none, more, latest_at, ScheduleStep}
use Rattle.scheduling.specs.Sending.{head_at, sent_row, sent_pool, sent_tables, used_of, Sends}

-- ---- an instant is accepted

sound_later : (t : Tables) (micros : ℕ) → t.latest ≤ micros → Sound t → Sound (latest_at micros t)
sound_later t micros later s = record {
  sessions_fit = λ k p. fits_later t.latest micros (session t k).account later (s.sessions_fit k p);
  pools_fit = λ k p. fits_later t.latest micros (pool t k).account later (s.pools_fit k p);
  names_below = s.names_below;
  names_apart = s.names_apart;
  marks_below = s.marks_below;
  marks_apart = s.marks_apart;
  pool_marks_below = s.pool_marks_below;
  pool_marks_apart = s.pool_marks_apart;
  housed = s.housed;
  made_within = s.made_within;
  pool_within = s.pool_within;
  accepted_within = s.accepted_within;
}

accepting : (t : Tables) (micros : ℕ) → t.latest ≤ micros → micros ≤ 1099511627775 → Numbers t → Numbers (latest_at micros t)
accepting t micros later lawful f = record {
  lawful = lawful;
  places = f.places;
  openings = f.openings;
  few = f.few;
  counts = f.counts;
  wide = f.wide;
  deep = f.deep;
  numbered = f.numbered;
  sound = ∥∥₁_map f.sound (sound_later t micros later);
}

-- ---- a single send

-- an account that was sent from is sound, and settled at the present instant
sent_fits : (micros number : ℕ) (due : Bool) (a : Account) → is_sound a ≡ true → account_fits micros (sent_at micros number due a) ≡ true
sent_fits micros number due a h = and_from (is_sound (sent_at micros number due a)) (leb micros micros) (account_laws.sent_sound micros number due a h) (le-leb micros micros (omega arith))

module _ (t : Tables) (k : ℕ) (due : Bool) (count : ℕ) (l : k < length t.sessions) (lp : (session t k).pool < length t.pools) where
  abbrev after : Tables
  after = sent_tables t k due count

  abbrev row : Session
  row = sent_row t.latest t.orders due count (session t k)

  abbrev its : ℕ
  its = (session t k).pool

  abbrev share : Pool
  share = sent_pool t.latest t.orders due (pool t its)

  -- what the send leaves of every session: its state, its name, its pool, what it accepted and its reserve
  kept : {A : Type 0} (f : Session → A) → f row ≡ f (session t k) → (j : ℕ) → f (session after j) ≡ f (session t j)
  kept f e = same_part t.sessions k row blank_session l f e

  kept_pool : {A : Type 0} (f : Pool → A) → f share ≡ f (pool t its) → (j : ℕ) → f (pool after j) ≡ f (pool t j)
  kept_pool f e = same_part t.pools its share blank_pool lp f e

  was_present : (j : ℕ) → Present after j → Present t j
  was_present j p = sym (kept (λ r. is_present r.state) refl j) ∙ p

  other_row : (f : Session → ℕ) (j : ℕ) → Present after j → j ≢ k → Present t j × (f (session after j) ≡ f (session t j))
  other_row f j p ne = (was_present j p, ap f (get_or-set_other t.sessions k j row blank_session ne))

  other_pool : (j : ℕ) → Made after j → j ≢ its → Made t j × (pool_number after j ≡ pool_number t j)
  other_pool j h ne = (h, ap (λ (p : Pool). p.account.mark.number) (get_or-set_other t.pools its j share blank_pool ne))

  here_number : session_number after k ≡ t.orders
  here_number = ap (λ (r : Session). r.account.mark.number) (get_or-set_same t.sessions k row blank_session l)

  pool_here_number : pool_number after its ≡ t.orders
  pool_here_number = ap (λ (p : Pool). p.account.mark.number) (get_or-set_same t.pools its share blank_pool lp)

  same_shares : (p : ℕ) → reserves_in p after.sessions ≡ reserves_in p t.sessions
  same_shares p = let e = sum_by-set (takes_of p) t.sessions k row blank_session l in omega (arith, e)

  same_accepted : sum_by (λ (r : Session). r.accepted) after.sessions ≡ sum_by (λ (r : Session). r.accepted) t.sessions
  same_accepted = let e = sum_by-set (λ (r : Session). r.accepted) t.sessions k row blank_session l in omega (arith, e)

  same_made : reserves_made after ≡ reserves_made t
  same_made = take_sum pool_reserve t.pools t.made its share blank_pool lp refl

  module _ (own : is_sound (session t k).account ≡ true) (shared : is_sound (pool t its).account ≡ true) where
    sound_sent : Sound t → Sound after
    sound_sent s = record {
      sessions_fit = λ j p.
          each_row t.sessions k row blank_session l (λ i r. Present t i → account_fits t.latest r.account ≡ true)
          (λ q. sent_fits t.latest t.orders due (session t k).account own)
          (λ i ne q. s.sessions_fit i q)
          j (was_present j p);
      pools_fit = λ j h.
          each_row t.pools its share blank_pool lp (λ i r. Made t i → account_fits t.latest r.account ≡ true)
          (λ q. sent_fits t.latest t.orders due (pool t its).account shared)
          (λ i ne q. s.pools_fit i q)
          j h;
      names_below = λ j p. subst (λ n. n < t.opened) (sym (kept (λ r. r.name) refl j)) (s.names_below j (was_present j p));
      names_apart = λ i j p q e. s.names_apart i j (was_present i p) (was_present j q) (sym (kept (λ r. r.name) refl i) ∙ (e ∙ kept (λ r. r.name) refl j));
      marks_below = below_more (Present t) (Present after) (session_number t) (session_number after) k t.orders (other_row (λ r. r.account.mark.number)) here_number s.marks_below;
      marks_apart = apart_more (Present t) (Present after) (session_number t) (session_number after) k t.orders (other_row (λ r. r.account.mark.number)) here_number s.marks_below s.marks_apart;
      pool_marks_below = below_more (Made t) (Made after) (pool_number t) (pool_number after) its t.orders other_pool pool_here_number s.pool_marks_below;
      pool_marks_apart = apart_more (Made t) (Made after) (pool_number t) (pool_number after) its t.orders other_pool pool_here_number s.pool_marks_below s.pool_marks_apart;
      housed = λ j p. subst (λ n. n < t.made) (sym (kept (λ r. r.pool) refl j)) (s.housed j (was_present j p));
      made_within = subst (λ n. n ≤ t.throughput) (sym same_made) s.made_within;
      pool_within = λ p h. let a = s.pool_within p h in let b = same_shares p in let c = kept_pool (λ r. r.account.reserve) refl p in omega (arith, a, b, c);
      accepted_within = subst (λ n. n ≤ t.arrivals) (sym same_accepted) s.accepted_within;
    }

    numbers_sent : 1 ≤ count → count ≤ (session t k).unsent → Numbers t → Numbers after
    numbers_sent some enough f =
        let r = counts_in t.arrivals (session t k) (f.counts k (omega (arith, f.wide))) in
        let u = sum_by-set (λ (r : Session). r.unsent) t.sessions k row blank_session l in
        record {
          lawful = f.lawful;
          places = f.places;
          openings = f.openings;
          few = f.few;
          counts = each_set (λ r. counts_fit t.arrivals r ≡ true) t.sessions 64 k row blank_session l f.counts (counts_are t.arrivals row (omega (arith, r.0)) r.1);
          wide = length-set t.sessions k row ∙ f.wide;
          deep = length-set t.pools its share ∙ f.deep;
          numbered = omega (arith, f.numbered, u);
          sound = ∥∥₁_map f.sound sound_sent;
        }

sending : (level : ServiceRecord → ℕ) (m n : Moment) (choice : Choice) (run : Run) → Sends level m choice run n → Numbers m.tables → Numbers n.tables
sending level m n choice run s f =
    let can = can_send level m choice s.goes in
    let usable = usable_is (session m.tables choice.place) (head_at m choice.place) s.head s.usable in
    let some = head_some (session m.tables choice.place).name (used_of m.waiting) s.head (sym (head_present m choice.place usable.present) ∙ usable.is) in
    let l : choice.place < length m.tables.sessions = omega (arith, can.inside, f.wide) in
    let lp : (session m.tables choice.place).pool < length m.tables.pools = omega (arith, can.of_pool, f.deep) in
    subst (λ (x : Moment). Numbers x.tables) (sym s.leaves) (numbers_sent m.tables choice.place choice.due s.head.count l lp can.own_sound can.pool_sound some usable.enough f)

-- ---- the whole call

pub chain_sound : {level : ServiceRecord → ℕ} {m n : Moment} {sends : List Sent} → Chain level m sends n → Numbers m.tables → Numbers n.tables
chain_sound none f = f
chain_sound {level} (more {n = n} {o = o} {choice = choice} {run = run} c s) f = sending level n o choice run s (chain_sound c f)

scheduling : (level : ServiceRecord → ℕ) (micros : ℕ) → micros ≤ 1099511627775 → (answer : Result Scheduled ServiceFault) (m n : Moment) → ScheduleStep level micros answer m n → Numbers m.tables → Numbers n.tables
scheduling level micros lawful (Ok answer) m n s f = chain_sound s.chain (accepting m.tables micros (ltb-false micros m.tables.latest s.lawful) lawful f)
scheduling level micros lawful (Err fault) m n s f = subst (λ (x : Moment). Numbers x.tables) (sym s.2) f

pub sends_stay_sound_lem : SendsStaySound
sends_stay_sound_lem = record { accepting = accepting; sending = sending; scheduling = scheduling }
