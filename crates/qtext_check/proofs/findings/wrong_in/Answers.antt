use Rattle.std.proofs.Common.{ap, ◌∙◌}
use Rattle.qtext_check.specs.Places.{words_before}
use Rattle.qtext_check.proofs.Placed.{is_text}
use Rattle.qtext_check.proofs.findings.wrong_in.Goals as goal

pub returns-in-Ok-clause-word : goal.returns-in-Ok-clause-word
returns-in-Ok-clause-word c = c.refused_in.ensures.word c.args.line.now.bytes.now

pub returns-in_ok-word_at_fault-in-Err-Fault-clause-word : goal.returns-in_ok-word_at_fault-in-Err-Fault-clause-word
returns-in_ok-word_at_fault-in-Err-Fault-clause-word c = λ is.
    c.in_ok-word_at_fault-in-Err-Fault.ensures is
    ∙ ap words_before (c.requires.words (c.requires.bytes ∙ is_text _ c.in-Err-Fault.kind (rw c.in-Err-Fault.field-0-is at c.in-Err-Fault.ensures.exact) is))
