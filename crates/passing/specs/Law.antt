-- The passing law over whole runs: how often others go first while a session or a pool is due and free to go.
use Rattle.std.specs.Prelude.{◌≡◌, ℕ, ◌+◌, ◌-◌, ◌<◌, ◌≤◌, Bool, true, not, ◌&&◌, List, [], ◌∷◌, ◌++◌, count_by, ◌==◌, ◌≢◌}
use Rattle.choosing.specs.Due.{own_mark, has_come}
use Rattle.choosing.specs.Picks.{some_of}
use Rattle.history.specs.Histories.{Law, EveryHistoryKeeps}
use Rattle.history.specs.Logs.{sends_in, sent_for, sent_in}
use Rattle.history.specs.Steps.{Event, Course}
use Rattle.order.specs.declared.keys.DueMark.{DueMark}
use Rattle.scheduling.specs.Scheduling.{Sent}
use Rattle.scheduling.specs.Sending.{free_to_go}
use Rattle.service.specs.Moments.{Moment}
use Rattle.service.specs.Rows.{session, pool, is_present}
use Rattle.service.specs.Sound.{Present}
use Rattle.service.specs.declared.rows.Session.{Session}
use Rattle.service.specs.declared.rows.Tables.{Tables}

-- due: an accepted call's instant has reached that of the mark
abbrev pub is_due : Tables → DueMark → Bool
is_due t mark = has_come t.latest mark.at

-- the mark of the pool of a number
abbrev pub mark_of_pool : Tables → ℕ → DueMark
mark_of_pool t number = (pool t number).account.mark

-- at a place stands the session of that name, due by its own mark and free to go
abbrev pub is_waiting : ℕ → Moment → ℕ → Bool
is_waiting name m k = (session m.tables k).name == name && (is_due m.tables (own_mark m.tables k) && free_to_go m k)

-- at a place stands a session of the pool that is free to go
abbrev pub is_free_of : ℕ → Moment → ℕ → Bool
is_free_of number m k = (session m.tables k).pool == number && free_to_go m k

-- the send passes the session of that name: just before it, the session is due and free to go, and the run belongs to another
abbrev pub passes_session : ℕ → Sent → Bool
passes_session name s = not (sent_for s == name) && some_of 64 (is_waiting name s.before)

-- the send passes the pool of that number: just before it, the pool is due and one of its sessions free to go, and the run is another pool's
abbrev pub passes_pool : ℕ → Sent → Bool
passes_pool number s = not (sent_in s == number) && (is_due s.before.tables (mark_of_pool s.before.tables number) && some_of 64 (is_free_of number s.before))

-- none of some sends goes to the account of that number
abbrev pub NoneFor : (Sent → ℕ) → ℕ → List Sent → Type 0
NoneFor account x [] = Unit {0}
NoneFor account x (s ∷ sends) = (account s ≢ x) × NoneFor account x sends

-- how many other sessions, by name or by pool, are present: open or ended
abbrev pub others_present : (Session → ℕ) → ℕ → Tables → ℕ
others_present what x t = count_by (λ r. is_present r.state && not (what r == x)) t.sessions

-- the pools that were made, less one's own
abbrev pub other_pools : Tables → ℕ
other_pools t = t.made - 1

-- of sends from a moment on: each session that is due then, until its next send, is passed at most once for each other session
-- present at that moment and once for each other pool there was
abbrev pub SessionsPassed : Moment → List Sent → Type 0
SessionsPassed m sends =
    (k : ℕ) → Present m.tables k → is_due m.tables (own_mark m.tables k) ≡ true → NoneFor sent_for (session m.tables k).name sends →
    count_by (passes_session (session m.tables k).name) sends ≤ others_present (λ r. r.name) (session m.tables k).name m.tables + other_pools m.tables

-- each pool that is due then, until the next send of any of its sessions, at most once for each other pool there was and each session
-- present in those
abbrev pub PoolsPassed : Moment → List Sent → Type 0
PoolsPassed m sends =
    (number : ℕ) → number < m.tables.made → is_due m.tables (mark_of_pool m.tables number) ≡ true → NoneFor sent_in number sends →
    count_by (passes_pool number) sends ≤ others_present (λ r. r.pool) number m.tables + other_pools m.tables

-- Wherever the log is parted, at the moment that lies between: for what was due at that moment the bounds hold of the sends since.
-- The moment at which something became due is one of these: right after the instant was accepted, before what its call adds, or right
-- after its own last send.
abbrev pub PassingLaw : Law
PassingLaw level start log n =
    (late early : List Event) (m : Moment) → log ≡ late ++ early → Course level start early m → Course level m late n →
    SessionsPassed m (sends_in late) × PoolsPassed m (sends_in late)

-- at every moment of every history
abbrev pub Passing : Type 0
Passing = EveryHistoryKeeps PassingLaw
