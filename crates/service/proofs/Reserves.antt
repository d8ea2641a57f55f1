-- When a pool is made, and when its reserve is too much.
use Rattle.std.proofs.Common.{◌≡◌, ℕ, ◌+◌, ◌<◌, ◌≤◌, Ok, Err, sym, refl, ap, ◌∙◌, subst, zero-le, arith, lit<}
use Rattle.std.proofs.lemmas.Bool.{lt-ltb, le-ltb, lt-leb}
use Rattle.values.specs.declared.rates.Rates.{Rates}
use Rattle.service.specs.declared.fault.ServiceWhy.TheVariants.{NoReserve}
use Rattle.service.specs.declared.rows.Tables.{Tables}
use Rattle.service.specs.Calls.{new_tables, pool_made, pool_call}
use Rattle.service.specs.Faults.{refused}
use Rattle.service.specs.Laws.{SixtyThen, ReservesOf112}
use Rattle.service.specs.Rows.{reserves_made}

pub pool_passes : (micros : ℕ) (rates : Rates) (t : Tables) → t.latest ≤ micros → t.made < 16 → reserves_made t + rates.reserve ≤ t.throughput → pool_call micros rates t ≡ (Ok t.made, pool_made micros rates t t.made)
pool_passes micros rates t later less room = rw (le-ltb micros t.latest later, lt-leb 16 t.made less, le-ltb t.throughput (reserves_made t + rates.reserve) room)

pub pool_short : (micros : ℕ) (rates : Rates) (t : Tables) → t.latest ≤ micros → t.made < 16 → t.throughput < reserves_made t + rates.reserve → pool_call micros rates t ≡ (Err (refused NoReserve), t)
pool_short micros rates t later less room = rw (le-ltb micros t.latest later, lt-leb 16 t.made less, lt-ltb t.throughput (reserves_made t + rates.reserve) room)

pub reserves_of_112_lem : ReservesOf112
reserves_of_112_lem most first second rates later sixty =
    let t = new_tables 112 most in
    let e = pool_passes first rates t zero-le (lit< tt) (omega (arith, sixty)) in
    (ap (λ o. o.0) e, subst (λ (o : _ × Tables). SixtyThen second o.1) (sym e) (then (pool_made first rates t 0) later refl refl (omega (arith, sixty))))
  where
    then : (t : Tables) → t.latest ≤ second → t.made ≡ 1 → t.throughput ≡ 112 → reserves_made t ≡ 60 → SixtyThen second t
    then t later one most sum = (
      λ rates reserve. ap (λ o. o.0) (pool_passes second rates t later (omega arith) (omega arith)) ∙ ap Ok one,
      λ rates reserve. let e = pool_short second rates t later (omega arith) (omega arith) in (refused NoReserve, ap (λ o. o.0) e, refl, ap (λ o. o.1) e),
    )
