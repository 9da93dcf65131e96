use Rattle.std.proofs.Common.{sym}
use Rattle.qtext.proofs.Splitting.{next_part}
use Rattle.qtext_expand.proofs.PlainLines.{cut_is_no_text}
use Rattle.qtext_expand.proofs.plain.whole_line.Goals as goal

pub returns-in-Some-clause-bytes : goal.returns-in-Some-clause-bytes
returns-in-Some-clause-bytes c =
    sym (cut_is_no_text c.args.bytes.now _ c.in-Some.after.now
    (next_part (λ t. t.now) 10 c.args.bytes.now _ _ _ c.in_ok-cut.ensures.parts c.in-Some.is))
