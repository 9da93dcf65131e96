use Rattle.std.proofs.Common.{◌≡◌, take}
use Rattle.qplain.specs.Boards.{with_rows}
use Rattle.qshare_boards.proofs.sheet.put_rows.Given as goal

abbrev pub invariant-loop-placed : goal.invariant-loop-placed
invariant-loop-placed l = l.rows.items ≡ with_rows l.fn.rows.items (take l.placed-index l.all)
