-- Reading what was written.
use Rattle.std.proofs.Common.{◌≡◌, ℕ, ◌+◌, ◌^◌, ◌<◌, ◌≤◌, Bool, true, false, cond, eqb, leb, List, [], ◌∷◌, ◌++◌, length, take, drop, Some, None, Ok, Option, Result, refl, ap, ◌∙◌, subst, arith, lit<}
use Rattle.std.specs.List.{flat_map, AllByRecursion as All}
use Rattle.std.proofs.lemmas.List.{take_at, take_all, drop_at, length-append}
use Rattle.std.proofs.lemmas.Bool.{ne_eqb, le-leb}
use Rattle.sharing.specs.declared.shipped.Rule.TheVariants.{Water, Even}
use Rattle.stream.specs.declared.event.Event.{Event}
use Rattle.stream.specs.declared.event.Event.TheVariants.{Begin, Pool, Open, Arrival, Schedule, End, Close, Work, Collect}
use Rattle.stream.specs.declared.event.Spelled.{Spelled}
use Rattle.stream.specs.declared.event.SpelledRates.{SpelledRates}
use Rattle.stream.specs.declared.fault.StreamFault.{StreamFault}
use Rattle.stream.specs.declared.fault.StreamWhy.{StreamWhy}
use Rattle.stream.specs.Events.{event_of, placed}
use Rattle.stream.specs.Fields.{field_size, field_from, spelled_at, spelled_by, one_read, decoded, event_from}
use Rattle.stream.specs.Numbers.{big_endian, bytes_of}
use Rattle.stream.specs.Spelling.{tag_in, value_in, spelling, NumbersFit, events_at, ReadBack, RoundTrip}
use Rattle.stream.specs.Streams.{in_front_of, read_from}
use Rattle.stream.specs.Tags.{tag_number}
use Rattle.stream.proofs.Gathering.{by_fields}
use Rattle.stream.proofs.Numbers.{read_2, read_4, read_8}

-- ---- one event

-- rates are read as they were written, with a limit and without
module _ (instant pool reserve burst : ℕ) where
  abbrev with : Option ℕ → SpelledRates
  with limit = record { reserve = reserve; burst = burst; limit = limit }

  read_pool : (limit : Option ℕ) → NumbersFit (Pool instant (with limit)) → event_of 2 (value_in (Pool instant (with limit))) ≡ Ok (Pool instant (with limit))
  read_pool None h = λ t. Ok (Pool (read_8 instant h.0 t) (record { reserve = read_4 reserve h.1.0 t; burst = burst; limit = None }))
  read_pool (Some limit) h = λ t. Ok (Pool (read_8 instant h.0 t) (record { reserve = read_4 reserve h.1.0 t; burst = burst; limit = Some (read_4 limit h.1.2 t) }))

  read_open : (limit : Option ℕ) → NumbersFit (Open instant pool (with limit)) → event_of 3 (value_in (Open instant pool (with limit))) ≡ Ok (Open instant pool (with limit))
  read_open None h = λ t. Ok (Open (read_8 instant h.0 t) pool (record { reserve = read_4 reserve h.2.0 t; burst = burst; limit = None }))
  read_open (Some limit) h = λ t. Ok (Open (read_8 instant h.0 t) pool (record { reserve = read_4 reserve h.2.0 t; burst = burst; limit = Some (read_4 limit h.2.2 t) }))

-- its value is read as it was written
pub read_event : (event : Event) → NumbersFit event → event_of (tag_number (tag_in event)) (value_in event) ≡ Ok event
read_event (Begin throughput most Water) h = λ t. Ok (Begin (read_4 throughput h.0 t) most Water)
read_event (Begin throughput most Even) h = λ t. Ok (Begin (read_4 throughput h.0 t) most Even)
read_event (Pool instant rates) h = read_pool instant 0 rates.reserve rates.burst rates.limit h
read_event (Open instant pool rates) h = read_open instant pool rates.reserve rates.burst rates.limit h
read_event (Arrival session direction address sectors) h = λ t. Ok (Arrival (read_4 session h.0 t) direction (read_4 address h.2 t) sectors)
read_event (Schedule instant) h = λ t. Ok (Schedule (read_8 instant h t))
read_event (End session) h = λ t. Ok (End (read_4 session h t))
read_event (Close session) h = λ t. Ok (Close (read_4 session h t))
read_event Work h = refl
read_event Collect h = refl

-- it has fewer bytes than a length can tell
short_value : (event : Event) → length (value_in event) < 256 ^ 2
short_value (Begin throughput most Water) = lit< tt
short_value (Begin throughput most Even) = lit< tt
short_value (Pool instant rates) = elim rates.limit as (λ l. length (value_in (Pool instant (record rates { limit = l }))) < 256 ^ 2) [ None ↦ lit< tt | Some limit ↦ lit< tt ]
short_value (Open instant pool rates) = elim rates.limit as (λ l. length (value_in (Open instant pool (record rates { limit = l }))) < 256 ^ 2) [ None ↦ lit< tt | Some limit ↦ lit< tt ]
short_value (Arrival session direction address sectors) = lit< tt
short_value (Schedule instant) = lit< tt
short_value (End session) = lit< tt
short_value (Close session) = lit< tt
short_value Work = lit< tt
short_value Collect = lit< tt

-- ---- one field

all_pass : {X : Type 0} (a b t : Bool) (u v w x : X) → a ≡ false → b ≡ true → t ≡ true → cond a u (cond b (cond t x v) w) ≡ x
all_pass a b t u v w x p q r = simp (p, q, r)

module _ (offset number : ℕ) (value rest : List ℕ) (short : length value < 256 ^ 2) where
  abbrev written : List ℕ
  written = number ∷ (bytes_of 2 (length value) ++ (value ++ rest))

  pub size_back : field_size written ≡ 3 + length value
  size_back = ap (λ n. 3 + n) (read_2 (length value) short)

  pub field_back : field_from offset written ≡ Ok (Some (record { offset = offset; tag = number; value = value }))
  field_back =
      let s = size_back in
      let l = length-append value rest in
      let some : length written ≡ 0 → ⊥ = λ e. omega arith in
      let front : 3 ≤ length written = omega arith in
      let whole : field_size written ≤ length written = omega arith in
      let taken : take (big_endian (take 2 (drop 1 written))) (drop 3 written) ≡ value = ap (λ n. take n (value ++ rest)) (read_2 (length value) short) ∙ take_at value rest (length value) refl in
      all_pass (eqb (length written) 0) (leb 3 (length written)) (leb (field_size written) (length written)) _ _ _ _ (ne_eqb _ _ some) (le-leb _ _ front) (le-leb _ _ whole)
      ∙ (λ t. Ok (Some (record { offset = offset; tag = number; value = taken t })))

-- the event that was written is read, and reading goes on behind it
event_back : (offset : ℕ) (event : Event) (rest : List ℕ) → NumbersFit event → event_from offset (spelling event ++ rest) ≡ Ok (Some (record { offset = offset; event = event }))
unfolding spelled_by
event_back offset event rest h =
    ap decoded (field_back offset (tag_number (tag_in event)) (value_in event) rest (short_value event))
    ∙ ap (λ (x : Result Event StreamWhy). one_read (spelled_at offset (placed offset x))) (read_event event h)

one_back : (offset : ℕ) (event : Event) (rest : List ℕ) → NumbersFit event → read_from offset 0 (spelling event ++ rest) ≡ in_front_of (Ok (Some (record { offset = offset; event = event }))) (read_from (offset + length (spelling event)) 0 rest)
one_back offset event rest h =
    let left = spelling event ++ rest in
    let size : field_size left ≡ length (spelling event) = size_back offset (tag_number (tag_in event)) (value_in event) rest (short_value event) ∙ omega arith in
    by_fields offset left
    ∙ (ap (λ (x : Result (Option Spelled) StreamFault). in_front_of x (read_from (offset + field_size left) 0 (drop (field_size left) left))) (event_back offset event rest h)
    ∙ (ap (λ n. in_front_of (Ok (Some (record { offset = offset; event = event }))) (read_from (offset + n) 0 (drop n left))) size
    ∙ ap (λ l. in_front_of (Ok (Some (record { offset = offset; event = event }))) (read_from (offset + length (spelling event)) 0 l)) (drop_at (spelling event) rest (length (spelling event)) refl)))

-- ---- all

read_all : (offset : ℕ) (events : List Event) → All NumbersFit events → read_from offset 0 (flat_map spelling events) ≡ record { events = events_at offset events; fault = None }
read_all offset [] h = refl
read_all offset (event ∷ events) h = one_back offset event (flat_map spelling events) h.0 ∙ ap (in_front_of (Ok (Some (record { offset = offset; event = event })))) (read_all (offset + length (spelling event)) events h.1)

pub round_trip : RoundTrip
round_trip events h = read_all 0 events h

-- the same, where the events so far are all of them
pub read_back : (events : List Event) (i : ℕ) → length events ≤ i → All NumbersFit (take i events) → ReadBack events (flat_map spelling events)
read_back events i le h = round_trip events (subst (λ (l : List Event). All NumbersFit l) (take_all i events le) h)
