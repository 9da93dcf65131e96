-- The numbers under which faults of a command line are known.
use Rattle.std.specs.Prelude.{ℕ}
use Rattle.qtext_job.specs.declared.line_fault.LineFault.{LineFault}
use Rattle.qtext_job.specs.declared.line_fault.LineFault.TheVariants.{Line, Memory}

-- the number of a fault of the command line
abbrev pub line_fault_number : LineFault → ℕ
line_fault_number (Line help text) = 57
line_fault_number Memory = 58
