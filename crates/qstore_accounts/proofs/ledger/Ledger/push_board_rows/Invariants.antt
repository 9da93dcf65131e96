use Rattle.std.proofs.Common.{◌≡◌, ◌++◌, map, take}
use Rattle.qstore_accounts.specs.Boards.{board_row_of}
use Rattle.qstore_accounts.proofs.ledger.Ledger.push_board_rows.Given as goal

-- the rows of the kept holders so far stand after those of before
abbrev pub invariant-loop-holder : goal.invariant-loop-holder
invariant-loop-holder l = l.rows.items ≡ l.fn.rows.items ++ map (board_row_of l.kind) (take l.holder-index l.holder-items)
