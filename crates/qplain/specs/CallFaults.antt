-- The numbers under which faults of calls are known.
use Rattle.std.specs.Prelude.{ℕ}
use Rattle.qplain.specs.declared.call_fault.CallFault.{CallFault}
use Rattle.qplain.specs.declared.call_fault.CallFault.TheVariants.{JournalFull, OutOfMemory}

-- the number of a call that is not journaled
abbrev pub call_fault_number : CallFault → ℕ
call_fault_number JournalFull = 20
call_fault_number OutOfMemory = 21
