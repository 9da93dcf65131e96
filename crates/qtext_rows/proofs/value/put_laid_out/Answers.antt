use Rattle.std.proofs.Common.{sym}
use Rattle.qtext.proofs.Fronts.{appends_nothing, partly_last}
use Rattle.qtext_rows.proofs.Digits.{no_digits, some_digits}
use Rattle.qtext_rows.proofs.value.put_laid_out.Goals as goal

pub returns-then-is_empty : goal.returns-then-is_empty
returns-then-is_empty g c = rw (no_digits c.args.bytes.now (sym c.if-is_empty.ensures)) (appends_nothing _)

pub returns : goal.returns
returns g c = partly_last _ _ _ _ _ _
    (rw (c.new-line.ensures, some_digits c.args.bytes.now (sym c.if-is_empty.ensures)) at c.in_ok-put_data.ensures.passes)
    (rw c.as_slice.ensures.value at c.put.ensures)
