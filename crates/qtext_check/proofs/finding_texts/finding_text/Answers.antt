use Rattle.std.proofs.Common.{arith}
use Rattle.qtext_check.proofs.finding_texts.finding_text.Goals as goal

pub returns-clause-column : goal.returns-clause-column
returns-clause-column c = λ is fits.
    let at = c.bytes_before-before.ensures.word is (omega (arith, fits)) in
    let within = c.bytes_before-before.ensures.within in
    rw (← at) (c.fault_text.ensures.column (omega (arith, fits, within)))
