-- The numbers under which faults of making and of ending a shared store are known.
use Rattle.std.specs.Prelude.{ℕ}
use Rattle.qshare.specs.declared.share_fault.ShareFault.{ShareFault}
use Rattle.qshare.specs.declared.share_fault.ShareFault.TheVariants.{Seats, OutOfMemory, NoReader}

-- the number of a shared store that was not made
abbrev pub share_fault_number : ShareFault → ℕ
share_fault_number Seats = 26
share_fault_number OutOfMemory = 27
share_fault_number NoReader = 28

-- the number of an end at which a share is missing
abbrev pub end_fault_number : ℕ
end_fault_number = 25
