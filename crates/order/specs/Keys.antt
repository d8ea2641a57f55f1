-- The keys that the scheduler and the devices choose by.
use Rattle.std.specs.Prelude.{Bool, nat_lt}
use Rattle.order.specs.declared.keys.DueMark.{DueMark}
use Rattle.order.specs.declared.keys.Level.{Level}
use Rattle.order.specs.declared.keys.Distance.{Distance}
use Rattle.order.specs.Order.{missing_last, then_by}

-- the earlier instant, never last, and between equal instants the lower number
abbrev pub mark_before : DueMark → DueMark → Bool
mark_before x y = then_by (missing_last nat_lt) nat_lt (x.at, x.number) (y.at, y.number)

-- the lower level, and between equal levels the lower name
abbrev pub level_before : Level → Level → Bool
level_before x y = then_by nat_lt nat_lt (x.level, x.name) (y.level, y.name)

-- the shorter way, and between equal ways the earlier put
abbrev pub distance_before : Distance → Distance → Bool
distance_before x y = then_by nat_lt nat_lt (x.sectors, x.place) (y.sectors, y.place)
