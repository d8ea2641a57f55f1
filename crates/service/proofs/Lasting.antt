-- Every call leaves sound tables sound, told as a step from one moment to another.
use Rattle.std.proofs.Common.{◌≡◌, ℕ, Ok, Err, Option, sym, subst}
use Rattle.service.specs.Calls.{Place, pool_in, open_in, arrival_in, end_at, close_in}
use Rattle.service.specs.Laws.{StaysSound}
use Rattle.service.specs.Moments.{Moment, Call, makes_pool, opens, arrives, ends, closes, collects, Answer, Leads, full_at}
use Rattle.service.specs.Sound.{Numbers}
use Rattle.service.proofs.Facts.{new_keeps, pool_keeps, open_keeps, arrival_keeps, end_keeps, close_keeps, hand_back_keeps}

-- the tables of the moment reached
reached : (m m' n : Moment) → m' ≡ n → Numbers n.tables → Numbers m'.tables
reached m m' n e h = subst (λ (x : Moment). Numbers x.tables) (sym e) h

lasts : (call : Call) (r : Answer call) (m m' : Moment) → Leads call r m m' → Numbers m.tables → Numbers m'.tables
lasts (makes_pool present rates) (Ok number) m m' s f =
    reached m m' _ s.1 (subst (λ (o : Place). Numbers (pool_in present.micros rates m.tables o).1) s.0 (pool_keeps m.tables f present.micros rates present.lawful))
lasts (makes_pool present rates) (Err fault) m m' s f = reached m m' m s.1 f
lasts (opens present number rates) (Ok name) m m' s f =
    reached m m' _ s.3 (subst (λ (o : Place). Numbers (open_in present.micros number rates m.tables o).1) s.1 (open_keeps m.tables f present.micros number rates present.lawful))
lasts (opens present number rates) (Err fault) m m' s f = reached m m' m s.1 f
lasts (arrives io) (Ok number) m m' s f =
    reached m m' _ s.3 (subst (λ (o : Place). Numbers (arrival_in m.tables o).1) s.1 (arrival_keeps m.tables f (full_at m) io))
lasts (arrives io) (Err fault) m m' s f = reached m m' m s.1 f
lasts (ends name) (Ok said) m m' s f = reached m m' _ s.3 (subst (λ (o : Option ℕ). Numbers (end_at name m.tables o).1) s.1 (end_keeps m.tables f name))
lasts (ends name) (Err fault) m m' s f = reached m m' m s.2 f
lasts (closes name) (Ok said) m m' s f = reached m m' _ s.3 (subst (λ (o : Place). Numbers (close_in name m.tables o).1) s.1 (close_keeps m.tables f name))
lasts (closes name) (Err fault) m m' s f = reached m m' m s.1 f
lasts (collects room line line') (Ok back) m m' s f = reached m m' _ s.3 (hand_back_keeps m.tables f back.run)
lasts (collects room line line') (Err fault) m m' s f = reached m m' m s.1 f

pub stays_sound : StaysSound
stays_sound = record { at_first = new_keeps; from_then = lasts }
