use Rattle.std.proofs.Common.{length, ap, ◌∙◌, sym}
use Rattle.qblocks.specs.Row.{row_byte}
use Rattle.qblocks.specs.Rows.{slots_of, row_of}
use Rattle.qblocks.proofs.Reading.{reads-zeros}
use Rattle.qblocks.proofs.rows.read_row_into.Goals as goal

pub returns-in-None : goal.returns-in-None
returns-in-None c =
    c.fill.ensures.after (λ y e. e)
    ∙ reads-zeros (row_byte (row_of c.args.rows.now c.args.r)) c.args.at (length c.args.out.now)
    (λ o. ap (λ row. row_byte (slots_of row) o) (sym c.in-None.ensures.value))
