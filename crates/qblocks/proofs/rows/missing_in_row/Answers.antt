use Rattle.std.proofs.Common.{◌-◌, ap, sym, is_some}
use Rattle.qblocks.specs.Row.{row_filled, slot_at}
use Rattle.qblocks.specs.Rows.{slots_of, row_of}
use Rattle.qblocks.proofs.Spans.{gaps-all}
use Rattle.qblocks.proofs.rows.missing_in_row.Goals as goal

pub returns-in-None-clause-missing : goal.returns-in-None-clause-missing
returns-in-None-clause-missing c =
    sym (gaps-all (row_filled (row_of c.args.rows.now c.args.r)) c.args.first (c.args.end - c.args.first)
    (λ k _ _. ap (λ row. is_some (slot_at (slots_of row) k)) (sym c.in-None.ensures.value)))
