-- What holds at the end of every course from a making on holds at every moment of every history.
use Rattle.std.proofs.Common.{◌≡◌, ℕ, List, [], ◌∷◌, ◌++◌, Ok, sym, refl, subst, arith}
use Rattle.scheduling.proofs.Sounding.{sends_stay_sound_lem}
use Rattle.service.proofs.Lasting.{stays_sound}
use Rattle.service.specs.Moments.{Moment, makes_pool, opens, arrives, ends, closes, collects}
use Rattle.service.specs.Sound.{Numbers}
use Rattle.service.specs.declared.rows.Tables.{Tables}
use Rattle.usage.specs.declared.ServiceRecord.{ServiceRecord}
use Rattle.values.specs.declared.instant.Instant.{Instant}
use Rattle.history.proofs.Courses.{course_of}
use Rattle.history.specs.Histories.{Starts, Law, EveryHistoryKeeps}
use Rattle.history.specs.Laws.{HistoryLaws, PartsAtMoments}
use Rattle.history.specs.Steps.{Event, Accepting, Making, Opening, Arriving, Sending, Working, Collecting, Ending, Closing, Step, Course, begins, goes_on, AtEvery}

-- ---- a law of courses is a law of histories

module _ (law : Law) (level : ServiceRecord → ℕ) (start : Moment) (holds : (log : List Event) (m : Moment) → Course level start log m → law level start log m) where
  at_every : {log : List Event} {m : Moment} (c : Course level start log m) → AtEvery (law level start) c
  at_every begins = holds [] start begins
  at_every (goes_on {m = m} {event = event} {n = n} c s) = (holds _ n (goes_on c s), at_every c)

pub every_history : (law : Law) → ((level : ServiceRecord → ℕ) (start : Moment) → Starts start → (log : List Event) (m : Moment) → Course level start log m → law level start log m) → EveryHistoryKeeps law
every_history law holds level start starts past m h = (course_of h, at_every law level start (holds level start starts) (course_of h))

-- ---- the tables are sound

moved : (n o : Moment) → n ≡ o → Numbers o.tables → Numbers n.tables
moved n o e f = subst (λ (x : Moment). Numbers x.tables) (sym e) f

-- the latest accepted instant
latest_of : (t : Tables) → Numbers t → Instant
latest_of t f = record { micros = t.latest; lawful = f.lawful }

step_sound : (level : ServiceRecord → ℕ) (m : Moment) (event : Event) (n : Moment) → Step level m event n → Numbers m.tables → Numbers n.tables
step_sound level m (Accepting micros) n s f = moved n _ s.leaves (sends_stay_sound_lem.accepting m.tables micros s.later s.lawful f)
step_sound level m (Making number rates) n s f = stays_sound.from_then (makes_pool (record { micros = m.tables.latest; lawful = f.lawful }) rates) (Ok number) m n s f
step_sound level m (Opening name number rates) n s f = stays_sound.from_then (opens (record { micros = m.tables.latest; lawful = f.lawful }) number rates) (Ok name) m n s f
step_sound level m (Arriving io number) n s f = stays_sound.from_then (arrives io) (Ok number) m n s f
step_sound level m (Sending sent) n s f = sends_stay_sound_lem.sending level m n sent.choice sent.run s.sends f
step_sound level m (Working count) n s f = moved n _ s.leaves f
step_sound level m (Collecting back) n s f = stays_sound.from_then (collects 1 [] (back ∷ [])) (Ok back) m n (refl, s.took, s.back_is, s.leaves, refl) f
step_sound level m (Ending name) n s f = stays_sound.from_then (ends name) (Ok name) m n s f
step_sound level m (Closing name) n s f = stays_sound.from_then (closes name) (Ok name) m n s f

sound_from : {level : ServiceRecord → ℕ} {start : Moment} {log : List Event} {m : Moment} → Numbers start.tables → Course level start log m → Numbers m.tables
sound_from f begins = f
sound_from {level} f (goes_on {m = m} {event = event} {n = n} c s) = step_sound level m event n s (sound_from f c)

pub course_sound : (level : ServiceRecord → ℕ) (start : Moment) → Starts start → (log : List Event) (m : Moment) → Course level start log m → Numbers m.tables
course_sound level start starts log m c = sound_from (subst Numbers (sym starts.tables) (stays_sound.at_first starts.throughput starts.most)) c

-- ---- a log parted

module _ (level : ServiceRecord → ℕ) (start : Moment) where
  abbrev Parted : List Event → List Event → Moment → Type 0
  Parted late early n = (m : Moment) × Course level start early m × Course level m late n

  parted : (late : List Event) {log early : List Event} {n : Moment} → Course level start log n → log ≡ late ++ early → Parted late early n
  parted [] {n = n} c e = (n, subst (λ log. Course level start log n) e c, begins)
  parted (x ∷ late) begins e = absurd (let z : ◌≡◌ {A = ℕ} 0 1 = cc in omega arith)
  parted (x ∷ late) {early = early} (goes_on {log = log} {m = m} {event = event} {n = n} c s) e =
      let same : event ≡ x = cc in
      let rest : log ≡ late ++ early = cc in
      let p = parted late c rest in
      (p.0, p.1, goes_on p.2 (subst (λ y. Step level m y n) same s))

pub history_laws : HistoryLaws
history_laws = record {
  sound = every_history (λ level start log m. Numbers m.tables) course_sound;
  parts = every_history PartsAtMoments (λ level start starts log n c late early e. parted level start late c e);
}
