use Rattle.std.proofs.Common.{◌≡◌, None, take}
use Rattle.std.specs.List.{find}
use Rattle.qshare_boards.specs.Whole.{is_row_of}
use Rattle.qshare_boards.proofs.sheet.find_row.Given as goal

abbrev pub invariant-loop-row : goal.invariant-loop-row
invariant-loop-row l = find (is_row_of l.kind l.id) (take l.row-index l.rows) ≡ None
