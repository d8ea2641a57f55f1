-- The number of each refusal of the service's layer. (Numbers 1 to 4 are the stream's, 5 the values'.)
use Rattle.std.specs.Prelude.{ℕ}
use Rattle.service.specs.declared.fault.ServiceFault.{ServiceFault}
use Rattle.service.specs.declared.fault.ServiceWhy.{ServiceWhy}
use Rattle.service.specs.declared.fault.ServiceWhy.TheVariants.{BeginMissingOrRepeated, InstantBefore, NoSuchPool, NoSuchSession, NoPlace, NoReserve, WaitingLineFull, CountedOut, NotHandedBack, HandBackFull, NothingDone}

abbrev pub why_number : ServiceWhy → ℕ
why_number BeginMissingOrRepeated = 6
why_number InstantBefore = 7
why_number NoSuchPool = 8
why_number NoSuchSession = 9
why_number NoPlace = 10
why_number NoReserve = 11
why_number WaitingLineFull = 12
why_number CountedOut = 13
why_number NotHandedBack = 14
why_number HandBackFull = 15
why_number NothingDone = 16

-- the refusal where no field of a stream is at fault
abbrev pub refused : ServiceWhy → ServiceFault
refused why = record { why = why; offset = 0 }
