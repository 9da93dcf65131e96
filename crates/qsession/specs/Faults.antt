-- The numbers of faults.
use Rattle.std.specs.Prelude.{ℕ}
use Rattle.qplain.specs.declared.call_fault.CallFault.{CallFault}
use Rattle.qplain.specs.declared.call_fault.CallFault.TheVariants.{JournalFull as FullJournal, OutOfMemory}
use Rattle.qsession.specs.declared.fault.Fault.{Fault}
use Rattle.qsession.specs.declared.fault.Fault.TheVariants.{Closed, Memory, Path, Caller, Open, Room, Line, JournalFull}
use Rattle.qsession.specs.declared.fault.Fault.TheVariants.{Kind, NoJournal}

-- the number of a fault
abbrev pub fault_code : Fault → ℕ
fault_code Closed = 64
fault_code Memory = 65
fault_code Path = 66
fault_code Caller = 67
fault_code Open = 68
fault_code Room = 69
fault_code Line = 70
fault_code JournalFull = 71
fault_code Kind = 72
fault_code NoJournal = 73

-- the fault of a call that a journaled store has not made
abbrev pub fault_told : CallFault → Fault
fault_told FullJournal = JournalFull
fault_told OutOfMemory = Memory
