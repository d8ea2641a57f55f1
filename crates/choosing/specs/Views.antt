-- What a view shows.
use Rattle.choosing.specs.Free.{run_at}
use Rattle.choosing.specs.Right.{Moment}
use Rattle.choosing.specs.declared.view.View.{View}

-- the tables at an instant, and the head run of each place
abbrev pub seen : View → Moment
seen v = record { tables = v.tables.now; heads = run_at v.heads.now; micros = v.present.micros }
