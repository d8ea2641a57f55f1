-- What every step keeps, over plain lists: what each session had accepted, what was handed back, the rows, the line, and what is inside.
use Rattle.std.proofs.Common.{◌≡◌, ℕ, ◌+◌, ◌-◌, ◌<◌, ◌≤◌, Bool, true, false, cond, ◌&&◌, eqb, ltb, leb, List, [], ◌∷◌, ◌++◌, length, get_or, take, drop, set, Some, sum_by, sym, refl, ap, ◌∙◌, subst, arith}
use Rattle.device.specs.Meaning.{Same}
use Rattle.heads.specs.Heads.{HeadRun, of_session, head_of}
use Rattle.line.specs.Line.{without}
use Rattle.scheduling.specs.Sending.{owner_of, SentAs}
use Rattle.service.specs.Rows.{blank_session, is_present}
use Rattle.service.specs.declared.rows.Session.{Session}
use Rattle.std.specs.List.{AllByRecursion as All}
use Rattle.std.proofs.lemmas.List.{length-append, append_assoc, append-nil, take-append-drop, take_at, drop_at, take-append-le, drop-append-le, length-take, length-drop}
use Rattle.std.proofs.ByRecursion.{All-weaker}
use Rattle.std.proofs.lemmas.List.Sums.{sum_by-cons, sum_by-set}
use Rattle.std.proofs.lemmas.Bool.Decides.{nat_tests}
use Rattle.std.proofs.lemmas.Bool.{eq-eqb, ne_eqb}
use Rattle.values.specs.declared.io.Io.{Io}
use Rattle.values.specs.declared.io.Run.{Run}
use Rattle.values.specs.Direction.{direction_number}
use Rattle.whereabouts.specs.Places.{has_number, MakeUp, MadeOf, count_for}
use Rattle.scheduling.proofs.Lines.{without_own, without_else, without_most}
use Rattle.whereabouts.proofs.Lines.{of_push}
use Rattle.whereabouts.proofs.Runs.{head_made}
use Rattle.whereabouts.proofs.Sums.{split, named, Stands, weight, at, one, at_cons, weight_named, weight_other, none_at, only_at, somewhere, name_of, named_other, set_here, set_other, Said, all_same}

-- a run is made of I/Os that its session had accepted
abbrev pub OwnMade : (ℕ → List Io) → Run → Type 0
OwnMade A run = MadeOf (A run.session) run

-- the same, as said of its six numbers
abbrev own_made : (ℕ → List Io) → Said
own_made A session first count direction address sectors = MakeUp (take count (drop first (A session))) count direction address sectors

-- A: what each session had accepted; B: the runs handed back; held: the runs inside the device
pub record Kept (A : ℕ → List Io) (B : List Run) (rows : List Session) (opened : ℕ) (line : List Io) (held : List Run) : Type 0 where
  -- no two present sessions have one name, and no name to come was used
  pub once : (n : ℕ) → at n one rows ≤ 1
  pub ahead : (n : ℕ) → opened ≤ n → (at n one rows ≡ 0) × (length (A n) ≡ 0)
  -- the counts in a present session's row
  pub accepts : (n : ℕ) → 1 ≤ at n one rows → at n (λ r. r.accepted) rows ≡ length (A n)
  pub waits : (n : ℕ) → at n (λ r. r.unsent) rows ≡ length (of_session n line)
  pub holds : (n : ℕ) → at n (λ r. r.inside) rows ≡ sum_by (count_for n) held
  -- what waits is the end of what was accepted
  pub sent : (n : ℕ) → (g : List Io) × (A n ≡ g ++ of_session n line)
  -- what was sent is inside or handed back, once
  pub covered : (n k : ℕ) → sum_by (has_number n k) held + sum_by (has_number n k) B ≡ cond (ltb k (length (A n) - length (of_session n line))) 1 0
  pub inner : All (OwnMade A) held
  pub outer : All (OwnMade A) B
  -- the line is never longer than what is used of it
  pub short : length line ≤ 4096

-- ---- at the start

none_present : (n : ℕ) (g : Session → ℕ) (rows : List Session) → All (λ r. is_present r.state ≡ false) rows → at n g rows ≡ 0
none_present n g [] h = refl
none_present n g (r ∷ rows) h =
    let e : named n r ≡ false = rw h.0 in
    omega (arith, at_cons n g r rows, weight_other n g r e, none_present n g rows h.1)

pub start_keeps : (rows : List Session) → All (λ r. is_present r.state ≡ false) rows → Kept (λ n. []) [] rows 0 [] []
start_keeps rows h = record {
  once = λ n. omega (arith, none_present n one rows h);
  ahead = λ n l. (none_present n one rows h, refl);
  accepts = λ n l. none_present n (λ r. r.accepted) rows h;
  waits = λ n. none_present n (λ r. r.unsent) rows h;
  holds = λ n. none_present n (λ r. r.inside) rows h;
  sent = λ n. ([], refl);
  covered = λ n i. grind (arith, nat_tests);
  inner = tt;
  outer = tt;
  short = omega arith;
}

-- the order inside the device is of no account
pub same_keeps : {A : ℕ → List Io} {B : List Run} {rows : List Session} {opened : ℕ} {line : List Io} {held : List Run} (held' : List Run) → Same held held' → Kept A B rows opened line held → Kept A B rows opened line held'
same_keeps {A} {held = held} held' e k = record {
  once = k.once;
  ahead = k.ahead;
  accepts = k.accepts;
  waits = k.waits;
  holds = λ n. k.holds n ∙ e (count_for n);
  sent = k.sent;
  covered = λ n i. omega (arith, k.covered n i, e (has_number n i));
  inner = all_same (own_made A) held held' e k.inner;
  outer = k.outer;
  short = k.short;
}

-- a run's I/Os stay what they are when more is accepted
made_more : (xs ys : List Io) (run : Run) → MadeOf xs run → MadeOf (xs ++ ys) run
made_more xs ys run m =
    let l : run.first + run.count ≤ length xs = omega (arith, m.some, m.counted, length-take run.count (drop run.first xs), length-drop run.first xs) in
    let e : drop run.first (xs ++ ys) ≡ drop run.first xs ++ ys = drop-append-le run.first xs ys (omega arith) in
    let f : take run.count (drop run.first xs ++ ys) ≡ take run.count (drop run.first xs) = take-append-le run.count (drop run.first xs) ys (omega (arith, length-drop run.first xs)) in
    subst (λ ios. MakeUp ios run.count (direction_number run.direction) run.extent.address run.extent.length) (sym (ap (take run.count) e ∙ f)) m

-- sending c of the w that wait: their numbers come next
next_numbers : (a w c i : ℕ) → c ≤ w → w ≤ a → cond (leb (a - w) i && ltb i (a - w + c)) 1 0 + cond (ltb i (a - w)) 1 0 ≡ cond (ltb i (a - (w - c))) 1 0
next_numbers a w c i h l = grind (arith, nat_tests)

module _ (A : ℕ → List Io) (B : List Run) (rows : List Session) (opened : ℕ) (line : List Io) (held : List Run) (k : Kept A B rows opened line held) where
  -- ---- a free place gets the next name

  pub open_keeps : (place : ℕ) (new : Session) → place < length rows → is_present (get_or rows place blank_session).state ≡ false → named opened new ≡ true → new.accepted ≡ 0 → new.unsent ≡ 0 → new.inside ≡ 0 → Kept A B (set rows place new) (opened + 1) line held
  open_keeps place new w free is none_accepted none_unsent none_inside = record {
    once = split (λ n. at n one after ≤ 1) opened (omega (arith, here one)) (λ n d. omega (arith, other n one d, k.once n));
    ahead = λ n l. let d : opened ≡ n → ⊥ = λ e. omega arith in (omega (arith, other n one d, (k.ahead n (omega arith)).0), (k.ahead n (omega arith)).1);
    accepts = split (λ n. 1 ≤ at n one after → at n (λ r. r.accepted) after ≡ length (A n)) opened
        (λ h. omega (arith, here (λ r. r.accepted), none_accepted, (k.ahead opened (omega arith)).1))
        (λ n d h. omega (arith, other n (λ r. r.accepted) d, k.accepts n (omega (arith, other n one d))));
    waits = split (λ n. at n (λ r. r.unsent) after ≡ length (of_session n line)) opened
        (omega (arith, here (λ r. r.unsent), none_unsent, k.waits opened, none_at opened (λ r. r.unsent) rows (k.ahead opened (omega arith)).0))
        (λ n d. other n (λ r. r.unsent) d ∙ k.waits n);
    holds = split (λ n. at n (λ r. r.inside) after ≡ sum_by (count_for n) held) opened
        (omega (arith, here (λ r. r.inside), none_inside, k.holds opened, none_at opened (λ r. r.inside) rows (k.ahead opened (omega arith)).0))
        (λ n d. other n (λ r. r.inside) d ∙ k.holds n);
    sent = k.sent;
    covered = k.covered;
    inner = k.inner;
    outer = k.outer;
    short = k.short;
  }
    where
      after : List Session
      after = set rows place new

      old : Session
      old = get_or rows place blank_session

      unnamed : (n : ℕ) → named n old ≡ false
      unnamed n = rw free

      other : (n : ℕ) (g : Session → ℕ) → (opened ≡ n → ⊥) → at n g after ≡ at n g rows
      other n g d = omega (arith, sum_by-set (weight n g) rows place new blank_session w, weight_other n g old (unnamed n), weight_other n g new (named_other opened n new is d))

      here : (g : Session → ℕ) → at opened g after ≡ g new
      here g = omega (arith, sum_by-set (weight opened g) rows place new blank_session w, weight_other opened g old (unnamed opened), weight_named opened g new is, none_at opened g rows (k.ahead opened (omega arith)).0)

  module _ (q place : ℕ) (s : Stands rows place q) where
    -- the row of the present session q
    abbrev pub mine : Session
    mine = get_or rows place blank_session

    mine_is : (g : Session → ℕ) → at q g rows ≡ g mine
    mine_is g = only_at q g rows place (k.once q) s

    used : opened ≤ q → ⊥
    used l = omega (arith, (k.ahead q l).0, mine_is one)

    pub my_accepts : mine.accepted ≡ length (A q)
    my_accepts = omega (arith, k.accepts q (omega (arith, mine_is one)), mine_is (λ r. r.accepted))

    pub my_waits : mine.unsent ≡ length (of_session q line)
    my_waits = omega (arith, k.waits q, mine_is (λ r. r.unsent))

    pub my_holds : mine.inside ≡ sum_by (count_for q) held
    my_holds = omega (arith, k.holds q, mine_is (λ r. r.inside))

    -- the row is written, under the same name
    module _ (new : Session) (is : named q new ≡ true) where
      here : (g : Session → ℕ) → at q g (set rows place new) ≡ g new
      here g = set_here q g rows place new (k.once q) s ∙ weight_named q g new is

      other : (n : ℕ) (g : Session → ℕ) → (q ≡ n → ⊥) → at n g (set rows place new) ≡ at n g rows
      other n g d = set_other q n g rows place new s (named_other q n new is d) d

      -- ending alters no number
      pub end_keeps : new.accepted ≡ mine.accepted → new.unsent ≡ mine.unsent → new.inside ≡ mine.inside → Kept A B (set rows place new) opened line held
      end_keeps ea eu ei = record {
        once = λ n. omega (arith, unaltered n one refl, k.once n);
        ahead = λ n l. (omega (arith, unaltered n one refl, (k.ahead n l).0), (k.ahead n l).1);
        accepts = λ n h. omega (arith, unaltered n (λ r. r.accepted) ea, k.accepts n (omega (arith, unaltered n one refl)));
        waits = λ n. unaltered n (λ r. r.unsent) eu ∙ k.waits n;
        holds = λ n. unaltered n (λ r. r.inside) ei ∙ k.holds n;
        sent = k.sent;
        covered = k.covered;
        inner = k.inner;
        outer = k.outer;
        short = k.short;
      }
        where
          unaltered : (n : ℕ) (g : Session → ℕ) → g new ≡ g mine → at n g (set rows place new) ≡ at n g rows
          unaltered n g e = split (λ n. at n g (set rows place new) ≡ at n g rows) q (omega (arith, here g, e, mine_is g)) (λ n d. other n g d) n

    -- closing takes a row with nothing unsent and nothing inside
    pub close_keeps : (new : Session) → is_present new.state ≡ false → mine.unsent ≡ 0 → mine.inside ≡ 0 → Kept A B (set rows place new) opened line held
    close_keeps new gone u i = record {
      once = split (λ n. at n one after ≤ 1) q (omega (arith, nothing one)) (λ n d. omega (arith, others n one d, k.once n));
      ahead = λ n l. let d : q ≡ n → ⊥ = λ e. used (omega arith) in (omega (arith, others n one d, (k.ahead n l).0), (k.ahead n l).1);
      accepts = split (λ n. 1 ≤ at n one after → at n (λ r. r.accepted) after ≡ length (A n)) q
          (λ h. absurd (omega (arith, nothing one)))
          (λ n d h. omega (arith, others n (λ r. r.accepted) d, k.accepts n (omega (arith, others n one d))));
      waits = split (λ n. at n (λ r. r.unsent) after ≡ length (of_session n line)) q
          (omega (arith, nothing (λ r. r.unsent), my_waits))
          (λ n d. others n (λ r. r.unsent) d ∙ k.waits n);
      holds = split (λ n. at n (λ r. r.inside) after ≡ sum_by (count_for n) held) q
          (omega (arith, nothing (λ r. r.inside), my_holds))
          (λ n d. others n (λ r. r.inside) d ∙ k.holds n);
      sent = k.sent;
      covered = k.covered;
      inner = k.inner;
      outer = k.outer;
      short = k.short;
    }
      where
        after : List Session
        after = set rows place new

        unnamed : (n : ℕ) → named n new ≡ false
        unnamed n = rw gone

        nothing : (g : Session → ℕ) → at q g after ≡ 0
        nothing g = set_here q g rows place new (k.once q) s ∙ weight_other q g new (unnamed q)

        others : (n : ℕ) (g : Session → ℕ) → (q ≡ n → ⊥) → at n g after ≡ at n g rows
        others n g d = set_other q n g rows place new s (unnamed n) d

  -- ---- an arrival

  abbrev pub grown_by : Io → ℕ → List Io
  grown_by io n = cond (eqb io.session n) (A n ++ io ∷ []) (A n)

  module _ (io : Io) (place : ℕ) (s : Stands rows place io.session) (room : length line < 4096) where
    abbrev whose : ℕ
    whose = io.session

    my_mark : eqb whose whose ≡ true
    my_mark = eq-eqb whose whose refl

    grown_here : grown_by io whose ≡ A whose ++ io ∷ []
    grown_here = rw my_mark

    grown_other : (n : ℕ) → (whose ≡ n → ⊥) → grown_by io n ≡ A n
    grown_other n d = let e : eqb io.session n ≡ false = ne_eqb whose n d in rw e

    line_here : of_session whose (line ++ io ∷ []) ≡ of_session whose line ++ io ∷ []
    line_here = of_push whose line io ∙ ap {B = List Io} (λ b. of_session whose line ++ cond b (io ∷ []) []) my_mark

    line_other : (n : ℕ) → (whose ≡ n → ⊥) → of_session n (line ++ io ∷ []) ≡ of_session n line
    line_other n d = of_push n line io ∙ (ap {B = List Io} (λ b. of_session n line ++ cond b (io ∷ []) []) (ne_eqb whose n d) ∙ append-nil (of_session n line))

    grown_length : length (grown_by io whose) ≡ length (A whose) + 1
    grown_length = ap length grown_here ∙ length-append (A whose) (io ∷ [])

    line_length : length (of_session whose (line ++ io ∷ [])) ≡ length (of_session whose line) + 1
    line_length = ap length line_here ∙ length-append (of_session whose line) (io ∷ [])

    made_grown : (run : Run) → OwnMade A run → OwnMade (grown_by io) run
    made_grown run m = by (eqb io.session run.session)
      where
        by : (b : Bool) → MadeOf (cond b (A run.session ++ io ∷ []) (A run.session)) run
        by true = made_more (A run.session) (io ∷ []) run m
        by false = m

    pub arrive_keeps : (new : Session) → named whose new ≡ true → new.accepted ≡ (get_or rows place blank_session).accepted + 1 → new.unsent ≡ (get_or rows place blank_session).unsent + 1 → new.inside ≡ (get_or rows place blank_session).inside → Kept (grown_by io) B (set rows place new) opened (line ++ io ∷ []) held
    arrive_keeps new is ea eu ei = record {
      once = split (λ n. at n one after ≤ 1) whose (omega (arith, mine_now one)) (λ n d. omega (arith, others n one d, k.once n));
      ahead = λ n l. let d : whose ≡ n → ⊥ = λ e. used whose place s (omega arith) in (omega (arith, others n one d, (k.ahead n l).0), omega (arith, ap length (grown_other n d), (k.ahead n l).1));
      accepts = split (λ n. 1 ≤ at n one after → at n (λ r. r.accepted) after ≡ length (grown_by io n)) whose
          (λ h. omega (arith, mine_now (λ r. r.accepted), ea, my_accepts whose place s, grown_length))
          (λ n d h. omega (arith, others n (λ r. r.accepted) d, k.accepts n (omega (arith, others n one d)), ap length (grown_other n d)));
      waits = split (λ n. at n (λ r. r.unsent) after ≡ length (of_session n (line ++ io ∷ []))) whose
          (omega (arith, mine_now (λ r. r.unsent), eu, my_waits whose place s, line_length))
          (λ n d. omega (arith, others n (λ r. r.unsent) d, k.waits n, ap length (line_other n d)));
      holds = split (λ n. at n (λ r. r.inside) after ≡ sum_by (count_for n) held) whose
          (omega (arith, mine_now (λ r. r.inside), ei, my_holds whose place s))
          (λ n d. others n (λ r. r.inside) d ∙ k.holds n);
      sent = split (λ n. (g : List Io) × (grown_by io n ≡ g ++ of_session n (line ++ io ∷ []))) whose
          ((k.sent whose).0, grown_here ∙ (ap {B = List Io} (λ l. l ++ io ∷ []) (k.sent whose).1 ∙ (append_assoc (k.sent whose).0 (of_session whose line) (io ∷ []) ∙ ap {B = List Io} (λ l. (k.sent whose).0 ++ l) (sym line_here))))
          (λ n d. ((k.sent n).0, grown_other n d ∙ ((k.sent n).1 ∙ ap {B = List Io} (λ l. (k.sent n).0 ++ l) (sym (line_other n d)))));
      covered = λ n i. k.covered n i ∙ ap {B = ℕ} (λ x. cond (ltb i x) 1 0) (same_gap n);
      inner = All-weaker (OwnMade A) (OwnMade (grown_by io)) made_grown held k.inner;
      outer = All-weaker (OwnMade A) (OwnMade (grown_by io)) made_grown B k.outer;
      short = omega (arith, length-append line (io ∷ []));
    }
      where
        after : List Session
        after = set rows place new

        mine_now : (g : Session → ℕ) → at whose g after ≡ g new
        mine_now g = here whose place s new is g

        others : (n : ℕ) (g : Session → ℕ) → (whose ≡ n → ⊥) → at n g after ≡ at n g rows
        others n g d = other whose place s new is n g d

        same_gap : (n : ℕ) → length (A n) - length (of_session n line) ≡ length (grown_by io n) - length (of_session n (line ++ io ∷ []))
        same_gap = split (λ n. length (A n) - length (of_session n line) ≡ length (grown_by io n) - length (of_session n (line ++ io ∷ []))) whose
            (omega (arith, grown_length, line_length))
            (λ n d. omega (arith, ap length (grown_other n d), ap length (line_other n d)))

  -- ---- one send

  module _ (q place : ℕ) (s : Stands rows place q) (h : HeadRun) (head-is : head_of q line ≡ Some h) (enough : h.count ≤ (get_or rows place blank_session).unsent) (run : Run) (sent_as : SentAs (get_or rows place blank_session) h run) where
    abbrev waits_now : List Io
    waits_now = of_session q line

    abbrev taken : List Io
    taken = take h.count waits_now

    abbrev rest : List Io
    rest = without owner_of q h.count line

    head_within : h.count ≤ length waits_now
    head_within = (head_made waits_now h head-is).within

    run_session : run.session ≡ q
    run_session = sent_as.session_is ∙ name_of q (get_or rows place blank_session) s.is

    run_first : run.first ≡ length (A q) - length waits_now
    run_first = sent_as.first_is ∙ omega (arith, my_accepts q place s, my_waits q place s)

    rest_here : of_session q rest ≡ drop h.count waits_now
    rest_here = without_own q h.count line

    rest_length : length (of_session q rest) ≡ length waits_now - h.count
    rest_length = ap length rest_here ∙ length-drop h.count waits_now

    parted : waits_now ≡ taken ++ of_session q rest
    parted = sym (take-append-drop h.count waits_now) ∙ ap {B = List Io} (λ l. taken ++ l) (sym rest_here)

    taken_length : length taken ≡ h.count
    taken_length = omega (arith, length-take h.count waits_now, head_within)

    before : length (k.sent q).0 ≡ length (A q) - length waits_now
    before = omega (arith, ap length (k.sent q).1, length-append (k.sent q).0 waits_now)

    within : length waits_now ≤ length (A q)
    within = omega (arith, ap length (k.sent q).1, length-append (k.sent q).0 waits_now)

    split_up : A q ≡ (k.sent q).0 ++ (taken ++ of_session q rest)
    split_up = (k.sent q).1 ∙ ap {B = List Io} (λ l. (k.sent q).0 ++ l) parted

    its_own : take run.count (drop run.first (A run.session)) ≡ taken
    its_own =
        ap (λ n. take run.count (drop run.first (A n))) run_session ∙
        (ap (λ l. take run.count (drop run.first l)) split_up ∙
        (ap (take run.count) (drop_at (k.sent q).0 (taken ++ of_session q rest) run.first (before ∙ sym run_first)) ∙
        take_at taken (of_session q rest) run.count (taken_length ∙ sym sent_as.count_is)))

    -- the run is made up of the I/Os taken out
    made : OwnMade A run
    made =
        let m = (head_made waits_now h head-is).made in
        subst (λ ios. MakeUp ios run.count (direction_number run.direction) run.extent.address run.extent.length) (sym its_own)
        (record {
          some = omega (arith, m.some, sent_as.count_is);
          counted = taken_length ∙ sym sent_as.count_is;
          adjoin = rw (sent_as.direction_is, sent_as.address_is) m.adjoin;
          total = m.total ∙ sym sent_as.length_is;
        })

    pub send_keeps : (new : Session) → named q new ≡ true → new.accepted ≡ (get_or rows place blank_session).accepted → new.unsent ≡ (get_or rows place blank_session).unsent - h.count → new.inside ≡ (get_or rows place blank_session).inside + h.count → Kept A B (set rows place new) opened rest (run ∷ held)
    send_keeps new is ea eu ei = record {
      once = split (λ n. at n one after ≤ 1) q (omega (arith, mine_now one)) (λ n d. omega (arith, others n one d, k.once n));
      ahead = λ n l. let d : q ≡ n → ⊥ = λ e. used q place s (omega arith) in (omega (arith, others n one d, (k.ahead n l).0), (k.ahead n l).1);
      accepts = split (λ n. 1 ≤ at n one after → at n (λ r. r.accepted) after ≡ length (A n)) q
          (λ p. omega (arith, mine_now (λ r. r.accepted), ea, my_accepts q place s))
          (λ n d p. omega (arith, others n (λ r. r.accepted) d, k.accepts n (omega (arith, others n one d))));
      waits = split (λ n. at n (λ r. r.unsent) after ≡ length (of_session n rest)) q
          (omega (arith, mine_now (λ r. r.unsent), eu, my_waits q place s, rest_length))
          (λ n d. omega (arith, others n (λ r. r.unsent) d, k.waits n, ap length (rest_other n d)));
      holds = split (λ n. at n (λ r. r.inside) after ≡ sum_by (count_for n) (run ∷ held)) q
          (omega (arith, mine_now (λ r. r.inside), ei, my_holds q place s, sum_by-cons (count_for q) run held, counted_here))
          (λ n d. omega (arith, others n (λ r. r.inside) d, k.holds n, sum_by-cons (count_for n) run held, counted_other n d));
      sent = split (λ n. (g : List Io) × (A n ≡ g ++ of_session n rest)) q
          ((k.sent q).0 ++ taken, split_up ∙ sym (append_assoc (k.sent q).0 taken (of_session q rest)))
          (λ n d. ((k.sent n).0, (k.sent n).1 ∙ ap {B = List Io} (λ l. (k.sent n).0 ++ l) (sym (rest_other n d))));
      covered = λ n i. split (λ n. sum_by (has_number n i) (run ∷ held) + sum_by (has_number n i) B ≡ cond (ltb i (length (A n) - length (of_session n rest))) 1 0) q
          (omega (arith, sum_by-cons (has_number q i) run held, has_here i, k.covered q i, next_numbers (length (A q)) (length waits_now) h.count i head_within within, ap {B = ℕ} (λ x. cond (ltb i (length (A q) - x)) 1 0) rest_length))
          (λ n d. omega (arith, sum_by-cons (has_number n i) run held, has_other n i d, k.covered n i, ap {B = ℕ} (λ x. cond (ltb i (length (A n) - length x)) 1 0) (rest_other n d))) n;
      inner = (made, k.inner);
      outer = k.outer;
      short = omega (arith, k.short, without_most q h.count line);
    }
      where
        after : List Session
        after = set rows place new

        mine_now : (g : Session → ℕ) → at q g after ≡ g new
        mine_now g = here q place s new is g

        others : (n : ℕ) (g : Session → ℕ) → (q ≡ n → ⊥) → at n g after ≡ at n g rows
        others n g d = other q place s new is n g d

        rest_other : (n : ℕ) → (q ≡ n → ⊥) → of_session n rest ≡ of_session n line
        rest_other n d = without_else q h.count n line d

        not_its : (n : ℕ) → (q ≡ n → ⊥) → eqb run.session n ≡ false
        not_its n d = ne_eqb run.session n (λ e. d (sym run_session ∙ e))

        is_its : eqb run.session q ≡ true
        is_its = eq-eqb run.session q run_session

        counted_here : count_for q run ≡ h.count
        counted_here = let e : count_for q run ≡ run.count = rw is_its in e ∙ sent_as.count_is

        counted_other : (n : ℕ) → (q ≡ n → ⊥) → count_for n run ≡ 0
        counted_other n d = let e = not_its n d in rw e

        has_here : (i : ℕ) → has_number q i run ≡ cond (leb (length (A q) - length waits_now) i && ltb i (length (A q) - length waits_now + h.count)) 1 0
        has_here i =
            let e : has_number q i run ≡ cond (leb run.first i && ltb i (run.first + run.count)) 1 0 = rw is_its in
            e ∙ (ap (λ f. cond (leb f i && ltb i (f + run.count)) 1 0) run_first ∙ ap (λ c. cond (leb (length (A q) - length waits_now) i && ltb i (length (A q) - length waits_now + c)) 1 0) sent_as.count_is)

        has_other : (n i : ℕ) → (q ≡ n → ⊥) → has_number n i run ≡ 0
        has_other n i d = let e = not_its n d in rw e

-- ---- one run is handed back

module _ (A : ℕ → List Io) (B : List Run) (rows : List Session) (opened : ℕ) (line : List Io) (run : Run) (held : List Run) (k : Kept A B rows opened line (run ∷ held)) where
  own_count : count_for run.session run ≡ run.count
  own_count = let e : eqb run.session run.session ≡ true = eq-eqb run.session run.session refl in rw e

  -- its session has at least the run's I/Os inside
  at_least : run.count ≤ at run.session (λ r. r.inside) rows
  at_least = omega (arith, k.holds run.session, sum_by-cons (count_for run.session) run held, own_count)

  -- so it is present
  pub its_session : (place : ℕ) × Stands rows place run.session
  its_session = somewhere run.session (λ r. r.inside) rows (omega (arith, at_least, k.inner.0.some))

  pub enough_inside : (place : ℕ) → Stands rows place run.session → run.count ≤ (get_or rows place blank_session).inside
  enough_inside place s = omega (arith, at_least, only_at run.session (λ r. r.inside) rows place (k.once run.session) s)

  pub return_keeps : (place : ℕ) → Stands rows place run.session → (new : Session) → named run.session new ≡ true → new.accepted ≡ (get_or rows place blank_session).accepted → new.unsent ≡ (get_or rows place blank_session).unsent → new.inside ≡ (get_or rows place blank_session).inside - run.count → Kept A (run ∷ B) (set rows place new) opened line held
  return_keeps place s new is ea eu ei = record {
    once = split (λ n. at n one after ≤ 1) q (omega (arith, mine_now one)) (λ n d. omega (arith, others n one d, k.once n));
    ahead = λ n l. let d : q ≡ n → ⊥ = λ e. used A B rows opened line (run ∷ held) k q place s (omega arith) in (omega (arith, others n one d, (k.ahead n l).0), (k.ahead n l).1);
    accepts = split (λ n. 1 ≤ at n one after → at n (λ r. r.accepted) after ≡ length (A n)) q
        (λ h. omega (arith, mine_now (λ r. r.accepted), ea, my_accepts A B rows opened line (run ∷ held) k q place s))
        (λ n d h. omega (arith, others n (λ r. r.accepted) d, k.accepts n (omega (arith, others n one d))));
    waits = split (λ n. at n (λ r. r.unsent) after ≡ length (of_session n line)) q
        (omega (arith, mine_now (λ r. r.unsent), eu, my_waits A B rows opened line (run ∷ held) k q place s))
        (λ n d. others n (λ r. r.unsent) d ∙ k.waits n);
    holds = split (λ n. at n (λ r. r.inside) after ≡ sum_by (count_for n) held) q
        (omega (arith, mine_now (λ r. r.inside), ei, my_holds A B rows opened line (run ∷ held) k q place s, sum_by-cons (count_for q) run held, own_count))
        (λ n d. omega (arith, others n (λ r. r.inside) d, k.holds n, sum_by-cons (count_for n) run held, counted_other n d));
    sent = k.sent;
    covered = λ n i. omega (arith, k.covered n i, sum_by-cons (has_number n i) run held, sum_by-cons (has_number n i) run B);
    inner = k.inner.1;
    outer = (k.inner.0, k.outer);
    short = k.short;
  }
    where
      q : ℕ
      q = run.session

      after : List Session
      after = set rows place new

      mine_now : (g : Session → ℕ) → at q g after ≡ g new
      mine_now g = here A B rows opened line (run ∷ held) k q place s new is g

      others : (n : ℕ) (g : Session → ℕ) → (q ≡ n → ⊥) → at n g after ≡ at n g rows
      others n g d = other A B rows opened line (run ∷ held) k q place s new is n g d

      counted_other : (n : ℕ) → (q ≡ n → ⊥) → count_for n run ≡ 0
      counted_other n d = let e = ne_eqb run.session n d in rw e
