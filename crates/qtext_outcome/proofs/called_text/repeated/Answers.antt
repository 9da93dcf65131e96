use Rattle.std.proofs.Common.{arith, sym}
use Rattle.qtext_outcome.proofs.CalledLines.{repeated_fill}
use Rattle.qtext_outcome.proofs.called_text.repeated.Goals as goal

pub returns-in-Fill : goal.returns-in-Fill
returns-in-Fill c = rw c.in-Fill.is (sym (repeated_fill c.in-Fill.count c.in-Fill.byte (omega arith)))
