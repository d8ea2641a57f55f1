-- Send after send: what the loop keeps.
use Rattle.std.proofs.Common.{◌≡◌, ℕ, ◌+◌, ◌≤◌, min, Bool, true, false, cond, List, [], ◌∷◌, ◌++◌, sym, refl, ap, ◌∙◌, arith}
use Rattle.device.proofs.Collections.{same_length}
use Rattle.device.specs.Meaning.{Meaning, held_by, Put}
use Rattle.service.specs.Moments.{Moment}
use Rattle.service.specs.Sound.{Numbers}
use Rattle.std.specs.Int.{from_bool}
use Rattle.std.proofs.lemmas.List.{length-append}
use Rattle.usage.specs.declared.ServiceRecord.{ServiceRecord}
use Rattle.values.specs.declared.io.Io.{Io}
use Rattle.values.specs.declared.io.Run.{Run}
use Rattle.scheduling.proofs.Sounding.{sends_stay_sound_lem}
use Rattle.scheduling.specs.Exact.{PastKept, OneSent, SentSoFar}
use Rattle.scheduling.specs.Scheduling.{none, more}
use Rattle.scheduling.specs.Sending.{most_runs}

-- a put adds one run
put_one : (m : Meaning) (run : Run) (n : Meaning) → Put m run n → held_by n ≡ held_by m + 1
put_one m run n p =
    let a = same_length (m.working ++ run ∷ []) n.working p.working in
    let b = same_length m.done n.done p.done in
    omega (arith, length-append m.working (run ∷ []))

module _ {D : Type 0} (puts : D → Run → D → Type 0) (level : ServiceRecord → ℕ) where
  -- before the first send
  pub none_yet : (m : Moment) (d : D) → SentSoFar puts level m m d d 0 0
  none_yet m d = record { sends = []; chain = none; sent_is = refl; due_is = refl; in_order = refl }

  module _ {m n o : Moment} {d e f : D} {sent due : ℕ} (so_far : SentSoFar puts level m n d e sent due) {was_due : Bool} (one : OneSent puts level n o e f was_due) where
    -- one send more
    pub one_more : SentSoFar puts level m o d f (sent + 1) (due + cond was_due 1 0)
    one_more = record {
      sends = record { before = n; choice = one.choice; run = one.run } ∷ so_far.sends;
      chain = more so_far.chain one.sends;
      sent_is = omega (arith, so_far.sent_is);
      due_is = let b = ap (λ (x : Bool). cond {A = ℕ} x 1 0) one.due_is in omega (arith, so_far.due_is, b);
      in_order = (e, so_far.in_order, one.exact);
    }

  module _ {n o : Moment} {e f : D} {was_due : Bool} (one : OneSent puts level n o e f was_due) where
    -- what the send leaves of bounds, of the instant and of soundness
    pub same_most : most_runs o ≡ most_runs n
    same_most =
        let t = ap (λ (x : Moment). x.tables.cap) one.sends.leaves in
        let d = one.sends.put.depth in
        ap (λ k. min k o.tables.cap) d ∙ ap (min n.device.depth) t

    pub same_latest : o.tables.latest ≡ n.tables.latest
    same_latest = ap (λ (x : Moment). x.tables.latest) one.sends.leaves

    pub one_held : held_by o.device ≡ held_by n.device + 1
    one_held = put_one n.device one.run o.device one.sends.put

    pub still_sound : Numbers n.tables → Numbers o.tables
    still_sound f = sends_stay_sound_lem.sending level n o one.choice one.run one.sends f

-- the same under another name for the count of due sends
pub as_counted : {D : Type 0} {puts : D → Run → D → Type 0} {level : ServiceRecord → ℕ} {m n : Moment} {d e : D} {sent due due' : ℕ} → SentSoFar puts level m n d e sent due → due ≡ due' → SentSoFar puts level m n d e sent due'
as_counted s is = record { sends = s.sends; chain = s.chain; sent_is = s.sent_is; due_is = sym is ∙ s.due_is; in_order = s.in_order }

-- what a send adds to the count of due sends
pub record Counted (was_due : Bool) (one : ℕ) : Type 0 where
  pub is : cond {A = ℕ} was_due 1 0 ≡ one
  pub at_most : one ≤ 1

pub counted : (was_due : Bool) (one : ℕ) → one ≡ from_bool was_due → Counted was_due one
counted true one e = record { is = sym e; at_most = omega (arith, e) }
counted false one e = record { is = sym e; at_most = omega (arith, e) }

pub past_twice : (xs ys zs : List Io) → PastKept xs ys → PastKept ys zs → PastKept xs zs
past_twice xs ys zs p q = (q.0 ∙ p.0, q.1 ∙ p.1)
