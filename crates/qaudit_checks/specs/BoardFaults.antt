-- The numbers under which boards that fail are reported.
use Rattle.std.specs.Prelude.{ℕ}
use Rattle.qaudit_checks.specs.declared.board_fault.BoardFault.{BoardFault}
use Rattle.qaudit_checks.specs.declared.board_fault.BoardFault.TheVariants.{Memory, Board}

-- the number of why boards are not said to be a journal's
abbrev pub board_fault_number : BoardFault → ℕ
board_fault_number Memory = 46
board_fault_number (Board index) = 47
