-- A stream read event by event.
use Rattle.std.proofs.Common.{◌≡◌, ℕ, zero, suc, ◌+◌, ◌-◌, ◌≤◌, List, [], ◌∷◌, ◌++◌, length, take, drop, Some, None, Ok, Err, sym, refl, ap, ◌∙◌, subst, arith}
use Rattle.std.specs.List.{flat_map}
use Rattle.std.proofs.Math.Seq.{take-add}
use Rattle.std.proofs.lemmas.List.{append-nil, append_assoc, drop-drop, length-drop, length-take-le, flat_map_more}
use Rattle.stream.specs.declared.event.Spelled.{Spelled}
use Rattle.stream.specs.declared.fault.StreamFault.{StreamFault}
use Rattle.stream.specs.Fields.{field_size, event_from}
use Rattle.stream.specs.Streams.{Outcome, in_front_of, read_from, stream_of, part_of, Adjoining, MakesUp}
use Rattle.stream.proofs.Cutting.{tells_of}

-- ---- the definition, field by field

-- bytes of the field before are passed over
pub passed_over : (offset inside : ℕ) (bytes : List ℕ) → read_from offset inside bytes ≡ read_from (offset + inside) 0 (drop inside bytes)
passed_over offset zero [] = refl
passed_over offset (suc inside) [] = refl
passed_over offset zero (b ∷ bytes) = let e : offset ≡ offset + 0 = omega arith in ap (λ n. read_from n 0 (b ∷ bytes)) e
passed_over offset (suc inside) (b ∷ bytes) = let e : offset + 1 + inside ≡ offset + suc inside = omega arith in passed_over (offset + 1) inside bytes ∙ ap (λ n. read_from n 0 (drop inside bytes)) e

-- what is left is its first field and what stands behind it
pub by_fields : (offset : ℕ) (left : List ℕ) → read_from offset 0 left ≡ in_front_of (event_from offset left) (read_from (offset + field_size left) 0 (drop (field_size left) left))
by_fields offset [] = refl
by_fields offset (b ∷ bytes) =
    let n = field_size (b ∷ bytes) in
    let e : suc (n - 1) ≡ n = omega arith in
    let o : offset + 1 + (n - 1) ≡ offset + n = omega arith in
    ap (in_front_of (event_from offset (b ∷ bytes))) (passed_over (offset + 1) (n - 1) bytes ∙ (ap (λ k. read_from k 0 (drop (n - 1) bytes)) o ∙ ap (λ k. read_from (offset + n) 0 (drop k (b ∷ bytes))) e))

-- ---- so far

-- what was read up to an offset, followed by what is left there, is the whole, and its fields make up the input to there
pub record Gathered (input : List ℕ) (offset : ℕ) (events : List Spelled) : Type 0 where
  pub events_are : events ++ (read_from offset 0 (drop offset input)).events ≡ (stream_of input).events
  pub fault_is : (read_from offset 0 (drop offset input)).fault ≡ (stream_of input).fault
  pub adjoining : Adjoining input 0 events offset
  pub parts : flat_map (part_of input) events ≡ take offset input

-- one event more behind the others
adjoining_push : (input : List ℕ) (from : ℕ) (events : List Spelled) (to : ℕ) (spelled : Spelled) (end : ℕ) → Adjoining input from events to → event_from to (drop to input) ≡ Ok (Some spelled) → spelled.offset ≡ to → to + length (part_of input spelled) ≡ end → Adjoining input from (events ++ spelled ∷ []) end
adjoining_push input from [] to spelled end h e o l = (
  subst (λ (n : ℕ). event_from n (drop n input) ≡ Ok (Some spelled)) (sym h) e,
  o ∙ sym h,
  ap (λ n. n + length (part_of input spelled)) h ∙ l,
)
adjoining_push input from (first ∷ events) to spelled end h e o l = (h.0, h.1, adjoining_push input (from + length (part_of input first)) events to spelled end h.2 e o l)

module _ (input : List ℕ) (offset : ℕ) (events : List Spelled) (h : Gathered input offset events) where
  -- an event was read
  pub gathered_more : (spelled : Spelled) (next : ℕ) (events' : List Spelled) → Ok (Some spelled) ≡ event_from offset (drop offset input) → next ≡ offset + field_size (drop offset input) → events' ≡ events ++ spelled ∷ [] → Gathered input next events'
  gathered_more spelled next events' e n pushed =
      let left = drop offset input in
      let t = tells_of offset left (Ok (Some spelled)) e in
      let rest = read_from (offset + field_size left) 0 (drop (field_size left) left) in
      let behind : read_from next 0 (drop next input) ≡ rest = (λ i. read_from (n i) 0 (drop (n i) input)) ∙ ap (read_from (offset + field_size left) 0) (sym (drop-drop (field_size left) offset input)) in
      let front : read_from offset 0 left ≡ in_front_of (Ok (Some spelled)) rest = by_fields offset left ∙ ap (λ r. in_front_of r rest) (sym e) in
      let part : part_of input spelled ≡ take (field_size left) left = ap (λ k. take (field_size (drop k input)) (drop k input)) t.0 in
      let long : length (part_of input spelled) ≡ field_size left = ap length part ∙ length-take-le (field_size left) left t.1 in
      record {
        events_are = ap (λ (l : List Spelled). l ++ (read_from next 0 (drop next input)).events) pushed ∙ (append_assoc events (spelled ∷ []) (read_from next 0 (drop next input)).events ∙ (ap (λ (o : Outcome). events ++ spelled ∷ o.events) behind ∙ (ap (λ (o : Outcome). events ++ o.events) (sym front) ∙ h.events_are)));
        fault_is = ap (λ (o : Outcome). o.fault) behind ∙ (ap (λ (o : Outcome). o.fault) (sym front) ∙ h.fault_is);
        adjoining = subst (λ (l : List Spelled). Adjoining input 0 l next) (sym pushed) (adjoining_push input 0 events offset spelled next h.adjoining (sym e) t.0 (omega arith));
        parts = ap (flat_map (part_of input)) pushed ∙ (sym (flat_map_more (part_of input) [] events spelled) ∙ (ap (λ l. l ++ part_of input spelled) h.parts ∙ (ap (λ l. take offset input ++ l) part ∙ (sym (take-add offset (field_size left) input) ∙ ap (λ k. take k input) (sym n)))));
      }

  -- the end was met
  pub gathered_all : Ok None ≡ event_from offset (drop offset input) → offset ≤ length input → (events ≡ (stream_of input).events) × (None ≡ (stream_of input).fault) × MakesUp input events None
  gathered_all e within =
      let left = drop offset input in
      let t = tells_of offset left (Ok None) e in
      let d = length-drop offset input in
      let end : offset ≡ length input = omega arith in
      let rest = read_from (offset + field_size left) 0 (drop (field_size left) left) in
      let front : read_from offset 0 left ≡ in_front_of (Ok None) rest = by_fields offset left ∙ ap (λ r. in_front_of r rest) (sym e) in (
        sym (append-nil events) ∙ (ap (λ (o : Outcome). events ++ o.events) (sym front) ∙ h.events_are),
        ap (λ (o : Outcome). o.fault) (sym front) ∙ h.fault_is,
        record {
          adjoining = subst (λ (n : ℕ). Adjoining input 0 events n) end h.adjoining;
          parts = h.parts ∙ ap (λ n. take n input) end;
          within = omega arith;
          last = subst (λ (n : ℕ). event_from n (drop n input) ≡ Ok None) end (sym e);
        },
      )

  -- a fault was met
  pub gathered_fault : (fault : StreamFault) → Err fault ≡ event_from offset (drop offset input) → offset ≤ length input → (events ≡ (stream_of input).events) × (Some fault ≡ (stream_of input).fault) × MakesUp input events (Some fault)
  gathered_fault fault e within =
      let left = drop offset input in
      let end : offset ≡ fault.offset = sym (tells_of offset left (Err fault) e) in
      let rest = read_from (offset + field_size left) 0 (drop (field_size left) left) in
      let front : read_from offset 0 left ≡ in_front_of (Err fault) rest = by_fields offset left ∙ ap (λ r. in_front_of r rest) (sym e) in (
        sym (append-nil events) ∙ (ap (λ (o : Outcome). events ++ o.events) (sym front) ∙ h.events_are),
        ap (λ (o : Outcome). o.fault) (sym front) ∙ h.fault_is,
        record {
          adjoining = subst (λ (n : ℕ). Adjoining input 0 events n) end h.adjoining;
          parts = h.parts ∙ ap (λ n. take n input) end;
          within = subst (λ (n : ℕ). n ≤ length input) end within;
          last = subst (λ (n : ℕ). event_from n (drop n input) ≡ Err fault) end (sym e);
        },
      )
