-- The numbers under which faults of looks are known.
use Rattle.std.specs.Prelude.{ℕ}
use Rattle.qplain.specs.declared.look_fault.LookFault.{LookFault}
use Rattle.qplain.specs.declared.look_fault.LookFault.TheVariants.{NoBoard, ESRCH, OutOfMemory}

-- the number of a look that shows nothing
abbrev pub look_fault_number : LookFault → ℕ
look_fault_number NoBoard = 22
look_fault_number ESRCH = 23
look_fault_number OutOfMemory = 24
