-- What holds of the tables at every moment is kept where a row changes, a session is opened and a pool is made.
use Rattle.std.proofs.Common.{◌≡◌, ℕ, suc, ◌+◌, ◌<◌, ◌≤◌, Bool, true, false, cond, ◌&&◌, eqb, leb, ◌≢◌, List, [], ◌∷◌, length, get_or, take, set, replicate, sum_by, sym, refl, ap, ◌∙◌, subst, ⊎_elim, zero-le, le_of_eq, arith, lit≤}
use Rattle.account.specs.Accounts.{is_sound, opened}
use Rattle.account.specs.declared.row.Account.{Account}
use Rattle.account.proofs.Holding.{account_laws}
use Rattle.std.proofs.lemmas.List.{get_or-set_same, get_or-set_other, get_or-replicate, get_or_past, take_more_set}
use Rattle.std.proofs.lemmas.List.Sums.{sum_by-cons, sum_by-set, sum_by_push}
use Rattle.std.proofs.lemmas.Bool.{cases_eq, cases_lt, both_ways, leb-true, le-leb, and_parts, and_from, cond-true, cond-false, eq-eqb, ne_eqb}
use Rattle.values.specs.declared.rates.Rates.{Rates}
use Rattle.service.specs.declared.rows.Pool.{Pool}
use Rattle.service.specs.declared.rows.Session.{Session}
use Rattle.service.specs.declared.rows.Tables.{Tables}
use Rattle.service.specs.Rows.{session, pool, blank_session, blank_pool, free_place, is_present, takes_of, reserves_in, pool_reserve, reserves_made}
use Rattle.service.specs.Calls.{new_tables, with_sessions, opened_row, session_opened, pool_made}
use Rattle.service.specs.Sound.{Sound, Present, Made, account_fits, name_at, session_number, pool_number, Below, Apart}

-- ---- numbers of places

module _ (Is Is' : ℕ → Type 0) (number number' : ℕ → ℕ) where
  -- places that were among the others before, with the same numbers
  below_kept : (n : ℕ) → ((k : ℕ) → Is' k → Is k × (number' k ≡ number k)) → Below Is number n → Below Is' number' n
  below_kept n old below k p = let q = old k p in let h = below k q.0 in omega (arith, q.1)

  apart_kept : ((k : ℕ) → Is' k → Is k × (number' k ≡ number k)) → Apart Is number → Apart Is' number'
  apart_kept old apart j k p q e = let a = old j p in let b = old k q in apart j k a.0 b.0 (sym a.1 ∙ (e ∙ b.1))

  -- one place more, whose number is above the others
  module _ (i n : ℕ) (old : (k : ℕ) → Is' k → k ≢ i → Is k × (number' k ≡ number k)) (here : number' i ≡ n) (below : Below Is number n) where
    pub below_more : Below Is' number' (n + 1)
    below_more k p =
        ⊎_elim (λ (e : k ≡ i). let q = ap number' e ∙ here in omega (arith, q)) (λ (ne : k ≢ i). let q = old k p ne in let h = below k q.0 in omega (arith, q.1)) (cases_eq k i)

    pub apart_more : Apart Is number → Apart Is' number'
    apart_more apart j k p q e =
        ⊎_elim
        (λ (ej : j ≡ i). ⊎_elim (λ (ek : k ≡ i). ej ∙ sym ek)
        (λ (nk : k ≢ i). let b = old k q nk in let h = below k b.0 in let a = ap number' ej ∙ here in absurd (omega (arith, a, b.1, e)))
        (cases_eq k i))
        (λ (nj : j ≢ i). ⊎_elim
        (λ (ek : k ≡ i). let b = old j p nj in let h = below j b.0 in let a = ap number' ek ∙ here in absurd (omega (arith, a, b.1, e)))
        (λ (nk : k ≢ i). let a = old j p nj in let b = old k q nk in apart j k a.0 b.0 (sym a.1 ∙ (e ∙ b.1)))
        (cases_eq k i))
        (cases_eq j i)

-- ---- accounts

pub fits_later : (m n : ℕ) (a : Account) → m ≤ n → account_fits m a ≡ true → account_fits n a ≡ true
fits_later m n a l h =
    let parts = and_parts (is_sound a) (leb a.settled_at m) h in
    let at = leb-true a.settled_at m parts.1 in
    and_from (is_sound a) (leb a.settled_at n) parts.0 (le-leb a.settled_at n (omega (arith, at)))

fits_opened : (rates : Rates) (micros number : ℕ) → account_fits micros (opened rates micros number) ≡ true
fits_opened rates micros number = and_from (is_sound (opened rates micros number)) (leb micros micros) (account_laws.opened_sound rates micros number) (le-leb micros micros (omega arith))

-- ---- one session's row changed

-- the row is free, or a session that was present with the same name, pool and account
abbrev pub Kin : Session → Session → Type 0
Kin y r = is_present y.state ≡ true → (is_present r.state ≡ true) × (y.name ≡ r.name) × (y.pool ≡ r.pool) × (y.account ≡ r.account)

kin_all : (rows : List Session) (i : ℕ) (y : Session) → i < length rows → Kin y (get_or rows i blank_session) → (k : ℕ) → Kin (get_or (set rows i y) k blank_session) (get_or rows k blank_session)
kin_all rows i y l kin k =
    ⊎_elim
    (λ (e : k ≡ i). subst (λ j. Kin (get_or (set rows i y) j blank_session) (get_or rows j blank_session)) (sym e) (subst (λ z. Kin z (get_or rows i blank_session)) (sym (get_or-set_same rows i y blank_session l)) kin))
    (λ (ne : k ≢ i). subst (λ z. Kin z (get_or rows k blank_session)) (sym (get_or-set_other rows i k y blank_session ne)) (λ p. (p, refl, refl, refl)))
    (cases_eq k i)

takes_kin : (p : ℕ) (y r : Session) → Kin y r → takes_of p y ≤ takes_of p r
takes_kin p y r kin = by (is_present y.state) refl
  where
    by : (b : Bool) → is_present y.state ≡ b → cond (b && eqb y.pool p) y.account.reserve 0 ≤ takes_of p r
    by false e = zero-le
    by true e =
        let q = kin e in
        le_of_eq (ap (λ n. cond (eqb n p) y.account.reserve 0) q.2
        ∙ (ap (λ (a : Account). cond (eqb r.pool p) a.reserve 0) q.3
        ∙ ap (λ b. cond (b && eqb r.pool p) r.account.reserve 0) (sym q.0)))

pub sound_row : (t : Tables) (n i : ℕ) (y : Session) → i < length t.sessions → Kin y (session t i) → y.accepted + t.arrivals ≤ (session t i).accepted + n → Sound t → Sound (with_sessions t n (set t.sessions i y))
sound_row t n i y l kin less s =
    let t' = with_sessions t n (set t.sessions i y) in
    let all : (k : ℕ) → Kin (session t' k) (session t k) = kin_all t.sessions i y l kin in record {
      sessions_fit = λ k p. let q = all k p in subst (λ (a : Account). account_fits t.latest a ≡ true) (sym q.3) (s.sessions_fit k q.0);
      pools_fit = s.pools_fit;
      names_below = below_kept (Present t) (Present t') (name_at t) (name_at t') t.opened (λ k p. let q = all k p in (q.0, q.1)) s.names_below;
      names_apart = apart_kept (Present t) (Present t') (name_at t) (name_at t') (λ k p. let q = all k p in (q.0, q.1)) s.names_apart;
      marks_below = below_kept (Present t) (Present t') (session_number t) (session_number t') t.orders (λ k p. let q = all k p in (q.0, ap (λ (a : Account). a.mark.number) q.3)) s.marks_below;
      marks_apart = apart_kept (Present t) (Present t') (session_number t) (session_number t') (λ k p. let q = all k p in (q.0, ap (λ (a : Account). a.mark.number) q.3)) s.marks_apart;
      pool_marks_below = s.pool_marks_below;
      pool_marks_apart = s.pool_marks_apart;
      housed = λ k p. let q = all k p in subst (λ m. m < t.made) (sym q.2) (s.housed k q.0);
      made_within = s.made_within;
      pool_within = λ p h. less_sum (reserves_in p (set t.sessions i y)) (takes_of p (session t i)) (reserves_in p t.sessions) (takes_of p y) (pool t p).account.reserve (sum_by-set (takes_of p) t.sessions i y blank_session l) (takes_kin p y (session t i) kin) (s.pool_within p h);
      accepted_within = more_sum (sum_by (λ (r : Session). r.accepted) (set t.sessions i y)) (session t i).accepted (sum_by (λ (r : Session). r.accepted) t.sessions) y.accepted t.arrivals n (sum_by-set (λ (r : Session). r.accepted) t.sessions i y blank_session l) less s.accepted_within;
    }
  where
    less_sum : (w' x w z m : ℕ) → w' + x ≡ w + z → z ≤ x → w ≤ m → w' ≤ m
    less_sum w' x w z m e h k = omega arith

    more_sum : (w' x w z a n : ℕ) → w' + x ≡ w + z → z + a ≤ x + n → w ≤ a → w' ≤ n
    more_sum w' x w z a n e h k = omega arith

-- ---- a session opened

module _ (t : Tables) (micros number i : ℕ) (rates : Rates) (l : i < length t.sessions) (later : t.latest ≤ micros) (made : number < t.made) (room : reserves_in number t.sessions + rates.reserve ≤ (pool t number).account.reserve) (s : Sound t) where
  abbrev new_row : Session
  new_row = opened_row micros number rates t

  abbrev after_open : Tables
  after_open = session_opened micros number rates t i

  here_open : session after_open i ≡ new_row
  here_open = get_or-set_same t.sessions i new_row blank_session l

  other_open : (k : ℕ) → k ≢ i → session after_open k ≡ session t k
  other_open k ne = get_or-set_other t.sessions i k new_row blank_session ne

  old_open : (f : Session → ℕ) (k : ℕ) → Present after_open k → k ≢ i → Present t k × (f (session after_open k) ≡ f (session t k))
  old_open f k p ne = (subst (λ (r : Session). is_present r.state ≡ true) (other_open k ne) p, ap f (other_open k ne))

  each_open : (P : Session → Type 0) → P new_row → ((k : ℕ) → Present t k → P (session t k)) → (k : ℕ) → Present after_open k → P (session after_open k)
  each_open P new old k p =
      ⊎_elim (λ (e : k ≡ i). subst (λ j. P (session after_open j)) (sym e) (subst P (sym here_open) new)) (λ (ne : k ≢ i). subst P (sym (other_open k ne)) (old k (subst (λ (r : Session). is_present r.state ≡ true) (other_open k ne) p))) (cases_eq k i)

  share_open : (p : ℕ) → p < t.made → reserves_in p after_open.sessions ≤ (pool t p).account.reserve
  share_open p h =
      let e = sum_by-set (takes_of p) t.sessions i new_row blank_session l in
      let old = s.pool_within p h in
      ⊎_elim
      (λ (same : number ≡ p).
      let v : takes_of p new_row ≡ rates.reserve = cond-true (eqb number p) rates.reserve 0 (eq-eqb number p same) in
      let g : reserves_in p t.sessions + rates.reserve ≤ (pool t p).account.reserve = subst (λ q. reserves_in q t.sessions + rates.reserve ≤ (pool t q).account.reserve) same room in
      added (reserves_in p after_open.sessions) (takes_of p (session t i)) (reserves_in p t.sessions) (takes_of p new_row) rates.reserve (pool t p).account.reserve e v g)
      (λ (other : number ≢ p).
      let v : takes_of p new_row ≡ 0 = cond-false (eqb number p) rates.reserve 0 (ne_eqb number p other) in
      added (reserves_in p after_open.sessions) (takes_of p (session t i)) (reserves_in p t.sessions) (takes_of p new_row) 0 (pool t p).account.reserve e v (omega arith))
      (cases_eq number p)
    where
      added : (w' x w z r m : ℕ) → w' + x ≡ w + z → z ≡ r → w + r ≤ m → w' ≤ m
      added w' x w z r m e v h = omega arith

  pub sound_open : Sound after_open
  sound_open = record {
    sessions_fit = each_open (λ (r : Session). account_fits micros r.account ≡ true) (fits_opened rates micros t.orders) (λ k p. fits_later t.latest micros (session t k).account later (s.sessions_fit k p));
    pools_fit = λ k p. fits_later t.latest micros (pool t k).account later (s.pools_fit k p);
    names_below = below_more (Present t) (Present after_open) (name_at t) (name_at after_open) i t.opened (old_open (λ r. r.name)) (ap (λ (r : Session). r.name) here_open) s.names_below;
    names_apart = apart_more (Present t) (Present after_open) (name_at t) (name_at after_open) i t.opened (old_open (λ r. r.name)) (ap (λ (r : Session). r.name) here_open) s.names_below s.names_apart;
    marks_below = below_more (Present t) (Present after_open) (session_number t) (session_number after_open) i t.orders (old_open (λ r. r.account.mark.number)) (ap (λ (r : Session). r.account.mark.number) here_open) s.marks_below;
    marks_apart = apart_more (Present t) (Present after_open) (session_number t) (session_number after_open) i t.orders (old_open (λ r. r.account.mark.number)) (ap (λ (r : Session). r.account.mark.number) here_open) s.marks_below s.marks_apart;
    pool_marks_below = λ k p. let h = s.pool_marks_below k p in omega arith;
    pool_marks_apart = s.pool_marks_apart;
    housed = each_open (λ (r : Session). r.pool < t.made) made s.housed;
    made_within = s.made_within;
    pool_within = share_open;
    accepted_within = none_more (sum_by (λ (r : Session). r.accepted) after_open.sessions) (session t i).accepted (sum_by (λ (r : Session). r.accepted) t.sessions) t.arrivals (sum_by-set (λ (r : Session). r.accepted) t.sessions i new_row blank_session l) s.accepted_within;
  }
    where
      none_more : (w' x w a : ℕ) → w' + x ≡ w + 0 → w ≤ a → w' ≤ a
      none_more w' x w a e h = omega arith

-- ---- a pool made

all_zero : {X : Type 0} (f : X → ℕ) (d : X) (xs : List X) → ((k : ℕ) → f (get_or xs k d) ≡ 0) → sum_by f xs ≡ 0
all_zero f d [] h = refl
all_zero f d (x ∷ xs) h = let a = h 0 in let b = all_zero f d xs (λ k. h (suc k)) in sum_by-cons f x xs ∙ omega (arith, a, b)

-- no session is of a pool that was not made
none_taken : (t : Tables) → Sound t → reserves_in t.made t.sessions ≡ 0
none_taken t s = all_zero (takes_of t.made) blank_session t.sessions (λ k. by k (is_present (session t k).state) refl)
  where
    by : (k : ℕ) (b : Bool) → is_present (session t k).state ≡ b → cond (b && eqb (session t k).pool t.made) (session t k).account.reserve 0 ≡ 0
    by k false e = refl
    by k true e = let h = s.housed k e in cond-false (eqb (session t k).pool t.made) (session t k).account.reserve 0 (ne_eqb (session t k).pool t.made (λ q. omega (arith, q)))

module _ (t : Tables) (micros : ℕ) (rates : Rates) (l : t.made < length t.pools) (later : t.latest ≤ micros) (room : reserves_made t + rates.reserve ≤ t.throughput) (s : Sound t) where
  abbrev new_pool : Pool
  new_pool = record { account = opened rates micros t.orders }

  abbrev after_pool : Tables
  after_pool = pool_made micros rates t t.made

  here_pool : pool after_pool t.made ≡ new_pool
  here_pool = get_or-set_same t.pools t.made new_pool blank_pool l

  other_pool : (k : ℕ) → k ≢ t.made → pool after_pool k ≡ pool t k
  other_pool k ne = get_or-set_other t.pools t.made k new_pool blank_pool ne

  old_pool : (k : ℕ) → Made after_pool k → k ≢ t.made → Made t k × (pool_number after_pool k ≡ pool_number t k)
  old_pool k p ne = (below t.made k p ne, ap (λ (r : Pool). r.account.mark.number) (other_pool k ne))
    where
      below : (m k : ℕ) → k < m + 1 → k ≢ m → k < m
      below m k p ne = ⊎_elim (λ (h : k < m). h) (λ (h : m ≤ k). absurd (ne (omega arith))) (cases_lt k m)

  each_pool : (P : ℕ → Pool → Type 0) → P t.made new_pool → ((k : ℕ) → Made t k → P k (pool t k)) → (k : ℕ) → Made after_pool k → P k (pool after_pool k)
  each_pool P new old k p =
      ⊎_elim (λ (e : k ≡ t.made). subst (λ j. P j (pool after_pool j)) (sym e) (subst (P t.made) (sym here_pool) new)) (λ (ne : k ≢ t.made). subst (P k) (sym (other_pool k ne)) (old k (old_pool k p ne).0)) (cases_eq k t.made)

  pub sound_pool : Sound after_pool
  sound_pool = record {
    sessions_fit = λ k p. fits_later t.latest micros (session t k).account later (s.sessions_fit k p);
    pools_fit = each_pool (λ k r. account_fits micros r.account ≡ true) (fits_opened rates micros t.orders) (λ k p. fits_later t.latest micros (pool t k).account later (s.pools_fit k p));
    names_below = s.names_below;
    names_apart = s.names_apart;
    marks_below = λ k p. let h = s.marks_below k p in omega arith;
    marks_apart = s.marks_apart;
    pool_marks_below = below_more (Made t) (Made after_pool) (pool_number t) (pool_number after_pool) t.made t.orders old_pool (ap (λ (r : Pool). r.account.mark.number) here_pool) s.pool_marks_below;
    pool_marks_apart = apart_more (Made t) (Made after_pool) (pool_number t) (pool_number after_pool) t.made t.orders old_pool (ap (λ (r : Pool). r.account.mark.number) here_pool) s.pool_marks_below s.pool_marks_apart;
    housed = λ k p. let h = s.housed k p in omega arith;
    made_within = sum_made;
    pool_within = each_pool (λ k r. reserves_in k t.sessions ≤ r.account.reserve) (let z = none_taken t s in omega (arith, z)) s.pool_within;
    accepted_within = s.accepted_within;
  }
    where
      sum_made : reserves_made after_pool ≤ t.throughput
      sum_made =
          let e = ap (sum_by pool_reserve) (take_more_set t.pools t.made new_pool l) ∙ sum_by_push pool_reserve (take t.made t.pools) new_pool in
          omega (arith, e, room)

-- ---- a service with no pools and no sessions

none_present : (k : ℕ) → is_present (get_or (replicate 64 free_place) k blank_session).state ≡ false
none_present k =
    ⊎_elim (λ (h : k < 64). ap (λ (r : Session). is_present r.state) (get_or-replicate 64 k free_place blank_session h)) (λ (h : 64 ≤ k). ap (λ (r : Session). is_present r.state) (get_or_past (replicate 64 free_place) k blank_session h)) (cases_lt k 64)

pub sound_new : (throughput most : ℕ) → Sound (new_tables throughput most)
sound_new throughput most = record {
  sessions_fit = λ k p. absurd (both_ways _ (none_present k) p);
  pools_fit = λ k h. absurd (omega arith);
  names_below = λ k p. absurd (both_ways _ (none_present k) p);
  names_apart = λ j k p q e. absurd (both_ways _ (none_present k) q);
  marks_below = λ k p. absurd (both_ways _ (none_present k) p);
  marks_apart = λ j k p q e. absurd (both_ways _ (none_present k) q);
  pool_marks_below = λ k h. absurd (omega arith);
  pool_marks_apart = λ j k p q e. absurd (omega arith);
  housed = λ k p. absurd (both_ways _ (none_present k) p);
  made_within = zero-le;
  pool_within = λ p h. absurd (omega arith);
  accepted_within = lit≤ tt;
}
