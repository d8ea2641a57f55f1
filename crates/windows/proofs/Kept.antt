-- What is kept between the tables and the log: the ledgers of the sessions by name and of the pools by number.
use Rattle.std.proofs.Common.{◌≡◌, ℕ, ◌+◌, ◌<◌, ◌≤◌, Bool, true, false, ◌⊎◌, List, [], ◌∷◌, length, get_or, set, replicate, sym, refl, ap, ◌∙◌, subst, inl, inr, ⊎_elim, arith}
use Rattle.account.specs.Accounts.{opened, sent_at, free_at}
use Rattle.account.specs.declared.row.Account.{Account}
use Rattle.history.specs.Logs.{Given}
use Rattle.scheduling.specs.Scheduling.{latest_at}
use Rattle.scheduling.specs.Sending.{sent_row, sent_pool, sent_tables}
use Rattle.service.proofs.Sounding.{Kin}
use Rattle.service.specs.Calls.{new_tables, pool_made, opened_row, session_opened, with_sessions}
use Rattle.service.specs.Rows.{session, pool, blank_session, blank_pool, free_place, no_pool, is_present}
use Rattle.service.specs.Sound.{Present, name_at, Apart}
use Rattle.service.specs.declared.rows.Pool.{Pool}
use Rattle.service.specs.declared.rows.Session.{Session}
use Rattle.service.specs.declared.rows.Tables.{Tables}
use Rattle.std.proofs.lemmas.List.{length-set, get_or-set_same, get_or-set_other, length-replicate, get_or-replicate, get_or_past}
use Rattle.std.proofs.lemmas.Bool.{cases_lt, cases_eq, both_ways}
use Rattle.values.specs.declared.rates.Rates.{Rates}
use Rattle.windows.proofs.Ledger.{Ledger, empty, later, fewer, added, charge}

-- the accounts of the present sessions by name, and of the pools made by number
abbrev pub Own : List Session → ℕ → Account → Type 0
Own rows x a = (place : ℕ) × (is_present (get_or rows place blank_session).state ≡ true) × ((get_or rows place blank_session).name ≡ x) × ((get_or rows place blank_session).account ≡ a)

abbrev pub Shared : List Pool → ℕ → ℕ → Account → Type 0
Shared pools made q a = (q < made) × ((get_or pools q blank_pool).account ≡ a)

-- S, P: the instants of the sends of each session and pool; O, M: the rates that sessions were opened and pools made with
pub record Kept (S P : ℕ → List ℕ) (O M : List Given) (t : Tables) : Type 0 where
  pub deep : length t.pools ≡ 16
  -- no two present sessions have one name, and each has a pool
  pub apart : Apart (Present t) (name_at t)
  pub housed : (k : ℕ) → Present t k → (session t k).pool < t.made
  pub own : Ledger S O (Own t.sessions) t.opened t.latest
  pub shared : Ledger P M (Shared t.pools t.made) t.made t.latest

-- ---- rows

-- what is read at a place after a row was written
pub read_set : {X : Type 0} (xs : List X) (i k : ℕ) (y d : X) → i < length xs → ((k ≡ i) × (get_or (set xs i y) k d ≡ y)) ⊎ ((k ≡ i → ⊥) × (get_or (set xs i y) k d ≡ get_or xs k d))
read_set xs i k y d l =
    ⊎_elim
    (λ e. inl (e, ap (λ j. get_or (set xs i y) j d) e ∙ get_or-set_same xs i y d l))
    (λ ne. inr (ne, get_or-set_other xs i k y d ne))
    (cases_eq k i)

-- a present session stands in the table
pub present_within : (rows : List Session) (k : ℕ) → is_present (get_or rows k blank_session).state ≡ true → k < length rows
present_within rows k p =
    ⊎_elim
    (λ l. l)
    (λ l. absurd (both_ways (is_present (get_or rows k blank_session).state) (ap (λ (r : Session). is_present r.state) (get_or_past rows k blank_session l)) p))
    (cases_lt k (length rows))

-- no session is present in a table of free places
pub none_present : (n k : ℕ) → is_present (get_or (replicate n free_place) k blank_session).state ≡ false
none_present n k =
    ⊎_elim
    (λ l. ap (λ (r : Session). is_present r.state) (get_or-replicate n k free_place blank_session l))
    (λ l. ap (λ (r : Session). is_present r.state) (get_or_past (replicate n free_place) k blank_session (simp length-replicate l)))
    (cases_lt k n)

-- ---- what each change of the tables keeps

pub start_keeps : (throughput most : ℕ) → Kept (λ x. []) (λ q. []) [] [] (new_tables throughput most)
start_keeps throughput most = record {
  deep = refl;
  apart = λ j k p q e. absurd (no j p);
  housed = λ k p. absurd (no k p);
  own = empty (Own (replicate 64 free_place)) (λ x a h. no h.0 h.1);
  shared = empty (Shared (replicate 16 no_pool) 0) (λ q a h. omega (arith, h.0));
}
  where
    no : (k : ℕ) → is_present (get_or (replicate 64 free_place) k blank_session).state ≡ true → ⊥
    no k p = both_ways (is_present (get_or (replicate 64 free_place) k blank_session).state) (none_present 64 k) p

module _ {S P : ℕ → List ℕ} {O M : List Given} (t : Tables) (k : Kept S P O M t) where
  -- a later instant is accepted
  pub accept_keeps : (micros : ℕ) → t.latest ≤ micros → Kept S P O M (latest_at micros t)
  accept_keeps micros h = record {
    deep = k.deep;
    apart = k.apart;
    housed = k.housed;
    own = later k.own micros h;
    shared = later k.shared micros h;
  }

  -- one row changed, free now or with the name, pool and account that it had
  module _ (n i : ℕ) (y : Session) (l : i < length t.sessions) (kin : Kin y (session t i)) where
    abbrev rows : List Session
    rows = set t.sessions i y

    old : (j : ℕ) → Kin (get_or rows j blank_session) (session t j)
    old j =
        ⊎_elim
        (λ p. subst (λ (r : Session). Kin r (session t j)) (sym p.1) (subst (λ h. Kin y (session t h)) (sym p.0) kin))
        (λ p. subst (λ (r : Session). Kin r (session t j)) (sym p.1) (λ h. (h, refl, refl, refl)))
        (read_set t.sessions i j y blank_session l)

    pub row_keeps : Kept S P O M (with_sessions t n rows)
    row_keeps = record {
      deep = k.deep;
      apart = λ a b p q e. let f = old a p in let g = old b q in k.apart a b f.0 g.0 (sym f.1 ∙ (e ∙ g.1));
      housed = λ j p. let f = old j p in subst (λ h. h < t.made) (sym f.2) (k.housed j f.0);
      own = fewer k.own (Own rows) (λ x a h. let f = old h.0 h.1 in (h.0, f.0, sym f.1 ∙ h.2, sym f.3 ∙ h.3));
      shared = k.shared;
    }

  -- a pool is made
  module _ (rates : Rates) (room : t.made < 16) where
    abbrev new_pool : Pool
    new_pool = record { account = opened rates t.latest t.orders }

    abbrev pools : List Pool
    pools = set t.pools t.made new_pool

    made_new : (q : ℕ) (a : Account) → Shared pools (t.made + 1) q a → ((t.made ≡ q) × (opened rates t.latest t.orders ≡ a)) ⊎ Shared t.pools t.made q a
    made_new q a h =
        ⊎_elim
        (λ p. inl (sym p.0, sym (ap (λ (x : Pool). x.account) p.1) ∙ h.1))
        (λ p. inr (omega (arith, h.0, p.0), sym (ap (λ (x : Pool). x.account) p.1) ∙ h.1))
        (read_set t.pools t.made q new_pool blank_pool (omega (arith, k.deep)))

    pub make_keeps : Kept S P O (record { number = t.made; rates = rates } ∷ M) (pool_made t.latest rates t t.made)
    make_keeps = record {
      deep = length-set t.pools t.made new_pool ∙ k.deep;
      apart = k.apart;
      housed = λ j p. omega (arith, k.housed j p);
      own = k.own;
      shared = added k.shared rates t.orders (Shared pools (t.made + 1)) made_new;
    }

  -- a session is opened in a pool that was made
  module _ (number i : ℕ) (rates : Rates) (l : i < length t.sessions) (made : number < t.made) where
    abbrev newcomer : Session
    newcomer = opened_row t.latest number rates t

    abbrev rows_opened : List Session
    rows_opened = set t.sessions i newcomer

    abbrev place : ℕ → Session
    place j = get_or rows_opened j blank_session

    -- the newcomer, or a session that was present
    who : (j : ℕ) → is_present (place j).state ≡ true → ((j ≡ i) × (place j ≡ newcomer)) ⊎ (Present t j × (place j ≡ session t j))
    who j p =
        ⊎_elim
        (λ q. inl q)
        (λ q. inr (subst (λ (r : Session). is_present r.state ≡ true) q.1 p, q.1))
        (read_set t.sessions i j newcomer blank_session l)

    -- a name that was there before is below the newcomer's
    old_name : (j : ℕ) → Present t j × (place j ≡ session t j) → (place j).name < t.opened
    old_name j q = subst (λ (r : Session). r.name < t.opened) (sym q.1) (k.own.there (session t j).name (session t j).account (j, q.0, refl, refl))

    new_name : (j : ℕ) → (j ≡ i) × (place j ≡ newcomer) → (place j).name ≡ t.opened
    new_name j q = ap (λ (r : Session). r.name) q.1

    opened_new : (x : ℕ) (a : Account) → Own rows_opened x a → ((t.opened ≡ x) × (opened rates t.latest t.orders ≡ a)) ⊎ Own t.sessions x a
    opened_new x a h =
        ⊎_elim
        (λ q. inl (sym (new_name h.0 q) ∙ h.2, sym (ap (λ (r : Session). r.account) q.1) ∙ h.3))
        (λ q. inr (h.0, q.0, sym (ap (λ (r : Session). r.name) q.1) ∙ h.2, sym (ap (λ (r : Session). r.account) q.1) ∙ h.3))
        (who h.0 h.1)

    pub open_keeps : Kept S P (record { number = t.opened; rates = rates } ∷ O) M (session_opened t.latest number rates t i)
    open_keeps = record {
      deep = k.deep;
      apart = λ a b p q e.
          ⊎_elim
          (λ f. ⊎_elim (λ g. f.0 ∙ sym g.0) (λ g. absurd (omega (arith, e, new_name a f, old_name b g))) (who b q))
          (λ f. ⊎_elim (λ g. absurd (omega (arith, e, new_name b g, old_name a f))) (λ g. k.apart a b f.0 g.0 (sym (ap (λ (r : Session). r.name) f.1) ∙ (e ∙ ap (λ (r : Session). r.name) g.1))) (who b q))
          (who a p);
      housed = λ j p.
          ⊎_elim
          (λ q. subst (λ (r : Session). r.pool < t.made) (sym q.1) made)
          (λ q. subst (λ (r : Session). r.pool < t.made) (sym q.1) (k.housed j q.0))
          (who j p);
      own = added k.own rates t.orders (Own rows_opened) opened_new;
      shared = k.shared;
    }

  -- a run of the present session at a place is sent, which its own account and its pool's let go
  module _
      (at : ℕ)
      (due : Bool)
      (count : ℕ)
      (present : Present t at)
      (own_free : free_at t.latest (session t at).account ≡ true)
      (of_pool : (session t at).pool < 16)
      (pool_free : free_at t.latest (pool t (session t at).pool).account ≡ true)
      (S' P' : ℕ → List ℕ)
      (here : (y : ℕ) → (session t at).name ≡ y → S' y ≡ t.latest ∷ S (session t at).name)
      (other : (y : ℕ) → ((session t at).name ≡ y → ⊥) → S' y ≡ S y)
      (pool_here : (q : ℕ) → (session t at).pool ≡ q → P' q ≡ t.latest ∷ P (session t at).pool)
      (pool_other : (q : ℕ) → ((session t at).pool ≡ q → ⊥) → P' q ≡ P q)
    where
      abbrev sender : Session
      sender = session t at

      abbrev its_pool : Pool
      its_pool = pool t sender.pool

      abbrev sent_rows : List Session
      sent_rows = set t.sessions at (sent_row t.latest t.orders due count sender)

      abbrev sent_pools : List Pool
      sent_pools = set t.pools sender.pool (sent_pool t.latest t.orders due its_pool)

      -- the sender charged, or another session that was present
      which : (j : ℕ) → is_present (get_or sent_rows j blank_session).state ≡ true → ((j ≡ at) × (get_or sent_rows j blank_session ≡ sent_row t.latest t.orders due count sender)) ⊎ ((j ≡ at → ⊥) × Present t j × (get_or sent_rows j blank_session ≡ session t j))
      which j p =
          ⊎_elim
          (λ q. inl q)
          (λ q. inr (q.0, subst (λ (r : Session). is_present r.state ≡ true) q.1 p, q.1))
          (read_set t.sessions at j (sent_row t.latest t.orders due count sender) blank_session (present_within t.sessions at present))

      -- each that is present after was present before, with its name and its pool
      was : (j : ℕ) → is_present (get_or sent_rows j blank_session).state ≡ true → Present t j × ((get_or sent_rows j blank_session).name ≡ (session t j).name) × ((get_or sent_rows j blank_session).pool ≡ (session t j).pool)
      was j p =
          ⊎_elim
          (λ q. let e = ap (session t) (sym q.0) in (subst (Present t) (sym q.0) present, ap (λ (r : Session). r.name) q.1 ∙ ap (λ (r : Session). r.name) e, ap (λ (r : Session). r.pool) q.1 ∙ ap (λ (r : Session). r.pool) e))
          (λ q. (q.1, ap (λ (r : Session). r.name) q.2, ap (λ (r : Session). r.pool) q.2))
          (which j p)

      sent_own : (y : ℕ) (b : Account) → Own sent_rows y b → ((sender.name ≡ y) × (sent_at t.latest t.orders due sender.account ≡ b)) ⊎ ((sender.name ≡ y → ⊥) × Own t.sessions y b)
      sent_own y b h =
          ⊎_elim
          (λ q. inl (sym (ap (λ (r : Session). r.name) q.1) ∙ h.2, sym (ap (λ (r : Session). r.account) q.1) ∙ h.3))
          (λ q.
          let name : (session t h.0).name ≡ y = sym (ap (λ (r : Session). r.name) q.2) ∙ h.2 in
          inr ((λ e. q.0 (k.apart h.0 at q.1 present (name ∙ sym e))), (h.0, q.1, name, sym (ap (λ (r : Session). r.account) q.2) ∙ h.3)))
          (which h.0 h.1)

      sent_shared : (q : ℕ) (b : Account) → Shared sent_pools t.made q b → ((sender.pool ≡ q) × (sent_at t.latest t.orders due its_pool.account ≡ b)) ⊎ ((sender.pool ≡ q → ⊥) × Shared t.pools t.made q b)
      sent_shared q b h =
          ⊎_elim
          (λ p. inl (sym p.0, sym (ap (λ (x : Pool). x.account) p.1) ∙ h.1))
          (λ p. inr ((λ e. p.0 (sym e)), (h.0, sym (ap (λ (x : Pool). x.account) p.1) ∙ h.1)))
          (read_set t.pools sender.pool q (sent_pool t.latest t.orders due its_pool) blank_pool (omega (arith, k.deep)))

      pub send_keeps : Kept S' P' O M (sent_tables t at due count)
      send_keeps = record {
        deep = length-set t.pools sender.pool (sent_pool t.latest t.orders due its_pool) ∙ k.deep;
        apart = λ a b p q e. let f = was a p in let g = was b q in k.apart a b f.0 g.0 (sym f.1 ∙ (e ∙ g.1));
        housed = λ j p. let f = was j p in subst (λ h. h < t.made) (sym f.2) (k.housed j f.0);
        own = charge k.own sender.name t.orders due sender.account (at, present, refl, refl) own_free S' here other (Own sent_rows) sent_own;
        shared = charge k.shared sender.pool t.orders due its_pool.account (k.housed at present, refl) pool_free P' pool_here pool_other (Shared sent_pools t.made) sent_shared;
      }
