-- What the type says of a service's tables in numbers, and that every call keeps it.
use Rattle.std.proofs.Common.{◌≡◌, ℕ, ◌+◌, ◌<◌, ◌≤◌, Bool, true, false, cond, eqb, ltb, leb, length, get_or, set, Some, None, Ok, Err, Option, Result, sym, refl, ◌∙◌, subst, arith, lit≤, length-set}
use mathlib.Core.Logic.{∥∥₁_map}
use Rattle.account.specs.Accounts.{opened}
use Rattle.device.specs.Meaning.{Meaning}
use Rattle.std.proofs.lemmas.List.Sums.{sum_by-set}
use Rattle.std.proofs.lemmas.Bool.{both_ways, leb-true, leb-false, le-leb, ltb-false, and_parts, and_from, cond_both}
use Rattle.values.specs.declared.io.Io.{Io}
use Rattle.values.specs.declared.io.Run.{Run}
use Rattle.values.specs.declared.rates.Rates.{Rates}
use Rattle.service.specs.Rows.{OpenAs, EndedAs, PresentAs, FreePlace, is_open, is_present, session, pool, blank_session, free_place, first_fit, counts_fit, unsent_in, reserves_made, reserves_in}
use Rattle.service.specs.declared.fault.ServiceWhy.TheVariants.{InstantBefore, NoSuchPool, NoPlace, NoReserve, WaitingLineFull, CountedOut, NotHandedBack}
use Rattle.service.specs.declared.fault.ServiceFault.{ServiceFault}
use Rattle.service.specs.declared.rows.HandedBack.{HandedBack}
use Rattle.service.specs.declared.rows.Session.{Session}
use Rattle.service.specs.declared.rows.State.{State}
use Rattle.service.specs.declared.rows.State.TheVariants.{Free, Open, Ended}
use Rattle.service.specs.declared.rows.Tables.{Tables}
use Rattle.service.specs.Faults.{refused}
use Rattle.service.specs.Calls.{new_tables, pool_in, pool_call, place_for, pool_made, open_in, open_call, opened_row, session_opened, with_sessions, accepted_row, arrival_at, arrival_in, arrival_call, ended_row, end_at, end_call, close_at, close_in, close_call, handed_row, hand_back_at, hand_back, Collected}
use Rattle.service.specs.Sound.{Numbers}
use Rattle.service.proofs.Finding.{found_within, found_fits}
use Rattle.service.proofs.Sounding.{Kin, sound_row, sound_open, sound_pool, sound_new}
use Rattle.service.proofs.Tables.{each_set, each_same}

pub counts_are : (n : ℕ) (r : Session) → r.unsent + r.inside ≤ r.accepted → r.accepted ≤ n → counts_fit n r ≡ true
counts_are n r p q = and_from (leb (r.unsent + r.inside) r.accepted) (leb r.accepted n) (le-leb _ _ p) (le-leb _ _ q)

pub counts_in : (n : ℕ) (r : Session) → counts_fit n r ≡ true → (r.unsent + r.inside ≤ r.accepted) × (r.accepted ≤ n)
counts_in n r h =
    let parts = and_parts (leb (r.unsent + r.inside) r.accepted) (leb r.accepted n) h in
    (leb-true _ _ parts.0, leb-true _ _ parts.1)

counts_more : (m n : ℕ) (r : Session) → m ≤ n → counts_fit m r ≡ true → counts_fit n r ≡ true
counts_more m n r l h = let p = counts_in m r h in counts_are n r p.0 (omega (arith, p.1))

open_present : (state : State) → is_open state ≡ true → is_present state ≡ true
open_present Free e = e
open_present Open e = refl
open_present Ended e = refl

-- one session's row changed, and perhaps the count of arrivals
row_changed : (t : Tables) (n i : ℕ) (y : Session) → Numbers t → t.arrivals ≤ n → n ≤ 4000000000 → i < length t.sessions → counts_fit n y ≡ true → y.unsent + t.arrivals ≤ (session t i).unsent + n → Kin y (session t i) → y.accepted + t.arrivals ≤ (session t i).accepted + n → Numbers (with_sessions t n (set t.sessions i y))
row_changed t n i y f more few l fits less kin accepted = record {
  lawful = f.lawful;
  places = f.places;
  openings = f.openings;
  few = few;
  counts = each_set (λ r. counts_fit n r ≡ true) t.sessions 64 i y blank_session l (λ k h. counts_more t.arrivals n (get_or t.sessions k blank_session) more (f.counts k h)) fits;
  wide = length-set t.sessions i y ∙ f.wide;
  deep = f.deep;
  numbered = after t.orders (unsent_in t.sessions) (unsent_in (set t.sessions i y)) y.unsent (session t i).unsent t.arrivals n t.opened t.made (sum_by-set (λ (r : Session). r.unsent) t.sessions i y blank_session l) less f.numbered;
  sound = ∥∥₁_map f.sound (sound_row t n i y l kin accepted);
}
  where
    after : (orders w w' y x a n p m : ℕ) → w' + x ≡ w + y → y + a ≤ x + n → orders + w ≤ a + p + m → orders + w' ≤ n + p + m
    after orders w w' y x a n p m e h k = omega arith

-- the row found has counts that fit, if it is one of the 64
row_counts : (t : Tables) (i : ℕ) → Numbers t → i < length t.sessions → ((session t i).unsent + (session t i).inside ≤ (session t i).accepted) × ((session t i).accepted ≤ t.arrivals)
row_counts t i f l = counts_in t.arrivals (session t i) (f.counts i (omega arith))

pub new_keeps : (throughput most : ℕ) → Numbers (new_tables throughput most)
new_keeps throughput most = record {
  lawful = lit≤ tt;
  places = lit≤ tt;
  openings = lit≤ tt;
  few = lit≤ tt;
  counts = each_same (λ r. counts_fit 0 r ≡ true) 64 free_place blank_session refl;
  wide = refl;
  deep = refl;
  numbered = lit≤ tt;
  sound = ∣ sound_new throughput most ∣₁;
}

module _ (t : Tables) (f : Numbers t) where
  pub end_keeps : (name : ℕ) → Numbers (end_call name t).1
  end_keeps name = by (first_fit (OpenAs name) t.sessions) refl
    where
      by : (o : Option ℕ) → first_fit (OpenAs name) t.sessions ≡ o → Numbers (end_at name t o).1
      by None e = f
      by (Some i) e =
          let l = found_within (OpenAs name) t.sessions i e in
          let r = row_counts t i f l in
          row_changed t t.arrivals i (ended_row (session t i)) f (omega arith) f.few l (counts_are t.arrivals (ended_row (session t i)) r.0 r.1) (omega arith) (λ p. (open_present (session t i).state (and_parts (is_open (session t i).state) (eqb (session t i).name name) (found_fits (OpenAs name) t.sessions i e)).0, refl, refl, refl)) (omega arith)

  pub close_keeps : (name : ℕ) → Numbers (close_call name t).1
  close_keeps name = by (first_fit (EndedAs name) t.sessions) refl
    where
      freed : (i : ℕ) → i < length t.sessions → (b : Bool) → Numbers (close_in name t (cond b (Err (refused NotHandedBack)) (Ok i))).1
      freed i l true = f
      freed i l false = row_changed t t.arrivals i free_place f (omega arith) f.few l (counts_are t.arrivals free_place (lit≤ tt) (omega arith)) (omega arith) (λ p. absurd (both_ways false refl p)) (omega arith)

      by : (o : Option ℕ) → first_fit (EndedAs name) t.sessions ≡ o → Numbers (close_in name t (close_at t o)).1
      by None e = f
      by (Some i) e = freed i (found_within (EndedAs name) t.sessions i e) (ltb 0 ((session t i).unsent + (session t i).inside))

  pub arrival_keeps : (full : Bool) (io : Io) → Numbers (arrival_call full io t).1
  arrival_keeps full io = by (first_fit (OpenAs io.session) t.sessions) refl
    where
      counted : (i : ℕ) → i < length t.sessions → (b : Bool) → leb 4000000000 t.arrivals ≡ b → Numbers (arrival_in t (cond b (Err (refused CountedOut)) (Ok i))).1
      counted i l true e = f
      counted i l false e =
          let r = row_counts t i f l in
          let few = leb-false _ _ e in
          row_changed t (t.arrivals + 1) i (accepted_row (session t i)) f (omega arith) (omega (arith, few)) l (counts_are (t.arrivals + 1) (accepted_row (session t i)) (omega (arith, r.0)) (omega (arith, r.1))) (omega arith) (λ p. (p, refl, refl, refl)) (omega arith)

      put : (i : ℕ) → i < length t.sessions → (b : Bool) → Numbers (arrival_in t (cond b (Err (refused WaitingLineFull)) (cond (leb 4000000000 t.arrivals) (Err (refused CountedOut)) (Ok i)))).1
      put i l true = f
      put i l false = counted i l (leb 4000000000 t.arrivals) refl

      by : (o : Option ℕ) → first_fit (OpenAs io.session) t.sessions ≡ o → Numbers (arrival_in t (arrival_at full t o)).1
      by None e = f
      by (Some i) e = put i (found_within (OpenAs io.session) t.sessions i e) full

  pub hand_back_keeps : (run : Run) → Numbers (hand_back run t).1
  hand_back_keeps run = by (first_fit (PresentAs run.session) t.sessions) refl
    where
      by : (o : Option ℕ) → first_fit (PresentAs run.session) t.sessions ≡ o → Numbers (hand_back_at run t o).1
      by None e = f
      by (Some i) e =
          let l = found_within (PresentAs run.session) t.sessions i e in
          let r = row_counts t i f l in
          let less = row_changed t t.arrivals i (handed_row run.count (session t i)) f (omega arith) f.few l (counts_are t.arrivals (handed_row run.count (session t i)) (omega (arith, r.0)) r.1) (omega arith) (λ p. (p, refl, refl, refl)) (omega arith) in
          cond_both (ltb (session t i).inside run.count) (record { run = run; foreign = true }, t) (record { run = run; foreign = false }, with_sessions t t.arrivals (set t.sessions i (handed_row run.count (session t i)))) (λ (o : HandedBack × Tables). Numbers o.1) (λ e. f) (λ e. less)

  pub pool_keeps : (micros : ℕ) (rates : Rates) → micros ≤ 1099511627775 → Numbers (pool_call micros rates t).1
  pool_keeps micros rates lawful = early (ltb micros t.latest) refl
    where
      made : t.latest ≤ micros → t.made < 16 → reserves_made t + rates.reserve ≤ t.throughput → Numbers (pool_made micros rates t t.made)
      made later less room = record {
        lawful = lawful;
        places = omega arith;
        openings = f.openings;
        few = f.few;
        counts = f.counts;
        wide = f.wide;
        deep = length-set t.pools t.made (record { account = opened rates micros t.orders }) ∙ f.deep;
        numbered = omega (arith, f.numbered);
        sound = let l : t.made < length t.pools = omega (arith, f.deep) in ∥∥₁_map f.sound (sound_pool t micros rates l later room);
      }

      short : (b : Bool) → t.latest ≤ micros → t.made < 16 → ltb t.throughput (reserves_made t + rates.reserve) ≡ b → Numbers (pool_in micros rates t (cond b (Err (refused NoReserve)) (Ok t.made))).1
      short true later less e = f
      short false later less e = made later less (ltb-false t.throughput (reserves_made t + rates.reserve) e)

      many : (b : Bool) → t.latest ≤ micros → leb 16 t.made ≡ b → Numbers (pool_in micros rates t (cond b (Err (refused NoPlace)) (cond (ltb t.throughput (reserves_made t + rates.reserve)) (Err (refused NoReserve)) (Ok t.made)))).1
      many true later e = f
      many false later e = short (ltb t.throughput (reserves_made t + rates.reserve)) later (leb-false 16 t.made e) refl

      early : (b : Bool) → ltb micros t.latest ≡ b → Numbers (pool_in micros rates t (cond b (Err (refused InstantBefore)) (cond (leb 16 t.made) (Err (refused NoPlace)) (cond (ltb t.throughput (reserves_made t + rates.reserve)) (Err (refused NoReserve)) (Ok t.made))))).1
      early true e = f
      early false e = many (leb 16 t.made) (ltb-false micros t.latest e) refl

  pub open_keeps : (micros number : ℕ) (rates : Rates) → micros ≤ 1099511627775 → Numbers (open_call micros number rates t).1
  open_keeps micros number rates lawful = early (ltb micros t.latest) (leb t.made number) refl refl
    where
      opening : (i : ℕ) → i < length t.sessions → t.latest ≤ micros → number < t.made → reserves_in number t.sessions + rates.reserve ≤ (pool t number).account.reserve → t.opened < 4000000000 → Numbers (session_opened micros number rates t i)
      opening i l later made room less =
          let y = opened_row micros number rates t in record {
            lawful = lawful;
            places = f.places;
            openings = omega arith;
            few = f.few;
            counts = each_set (λ r. counts_fit t.arrivals r ≡ true) t.sessions 64 i y blank_session l f.counts (counts_are t.arrivals y (lit≤ tt) (omega arith));
            wide = length-set t.sessions i y ∙ f.wide;
            deep = f.deep;
            numbered = omega (arith, f.numbered, sum_by-set (λ (r : Session). r.unsent) t.sessions i y blank_session l);
            sound = ∥∥₁_map f.sound (sound_open t micros number i rates l later made room);
          }

      counted : (i : ℕ) → i < length t.sessions → t.latest ≤ micros → number < t.made → reserves_in number t.sessions + rates.reserve ≤ (pool t number).account.reserve → (b : Bool) → leb 4000000000 t.opened ≡ b → Numbers (open_in micros number rates t (cond b (Err (refused CountedOut)) (Ok i))).1
      counted i l later made room true e = f
      counted i l later made room false e = opening i l later made room (leb-false 4000000000 t.opened e)

      short : (i : ℕ) → i < length t.sessions → t.latest ≤ micros → number < t.made → (b : Bool) → ltb (pool t number).account.reserve (reserves_in number t.sessions + rates.reserve) ≡ b → Numbers (open_in micros number rates t (cond b (Err (refused NoReserve)) (cond (leb 4000000000 t.opened) (Err (refused CountedOut)) (Ok i)))).1
      short i l later made true e = f
      short i l later made false e = counted i l later made (ltb-false (pool t number).account.reserve (reserves_in number t.sessions + rates.reserve) e) (leb 4000000000 t.opened) refl

      by : t.latest ≤ micros → number < t.made → (o : Option ℕ) → first_fit FreePlace t.sessions ≡ o → Numbers (open_in micros number rates t (place_for number rates t o)).1
      by later made None e = f
      by later made (Some i) e = short i (found_within FreePlace t.sessions i e) later made (ltb (pool t number).account.reserve (reserves_in number t.sessions + rates.reserve)) refl

      early : (a b : Bool) → ltb micros t.latest ≡ a → leb t.made number ≡ b → Numbers (open_in micros number rates t (cond a (Err (refused InstantBefore)) (cond b (Err (refused NoSuchPool)) (place_for number rates t (first_fit FreePlace t.sessions))))).1
      early true b p q = f
      early false true p q = f
      early false false p q = by (ltb-false micros t.latest p) (leb-false t.made number q) (first_fit FreePlace t.sessions) refl

  pub collect_keeps : (r : Result HandedBack ServiceFault) (full : Bool) (m : Meaning) (t' : Tables) (m' : Meaning) → Collected r full t m t' m' → Numbers t'
  collect_keeps (Ok back) full m t' m' done = subst Numbers (sym done.3) (hand_back_keeps back.run)
  collect_keeps (Err fault) full m t' m' done = subst Numbers (sym done.1) f
