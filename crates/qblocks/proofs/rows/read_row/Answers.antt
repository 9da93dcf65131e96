use Rattle.std.proofs.Common.{◌+◌, ap, sym, arith}
use Rattle.qblocks.specs.Row.{row_byte}
use Rattle.qblocks.specs.Rows.{slots_of, row_of}
use Rattle.qblocks.proofs.Reading.{reads-resized}
use Rattle.qblocks.proofs.rows.read_row.Goals as goal

pub returns-in_ok-resize-in-None : goal.returns-in_ok-resize-in-None
returns-in_ok-resize-in-None c =
    reads-resized (row_byte (row_of c.args.rows.now c.args.r)) c.args.out.now.items c.resize.new.self.items
    c.args.at c.args.len c.args.out.now.len (c.len.result + c.args.len)
    c.in_ok-resize-in-None.ensures.items (omega arith) (omega arith)
    (λ o. ap (λ row. row_byte (slots_of row) o) (sym c.in-None.ensures.value))
