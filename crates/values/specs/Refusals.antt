-- The number of each refusal of the values' layer. (Numbers 1 to 4 are the stream's, 6 and up the service's.)
use Rattle.std.specs.Prelude.{ℕ}
use Rattle.values.specs.declared.fault.ValueFault.{ValueFault}

-- a number or sum is outside its range, or a limit is below its reserve
abbrev pub value_fault_number : ValueFault → ℕ
value_fault_number f = 5

-- the same where no field of a stream is at fault
abbrev pub outside_stream : ValueFault
outside_stream = record { offset = 0 }
