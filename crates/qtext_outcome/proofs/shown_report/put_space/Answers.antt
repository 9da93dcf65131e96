use Rattle.std.proofs.Common.{◌++◌}
use Rattle.qrules.specs.Sort.{Blocks, amount_of}
use Rattle.qtext.proofs.Fronts.{refused_first, writes_then}
use Rattle.qaudit.specs.Reports.{column, grace_text}
use Rattle.qtext_outcome.specs.Units.{space_text}
use Rattle.qtext_outcome.proofs.shown_report.put_space.Goals as goal

pub returns-in_err-put_two : goal.returns-in_err-put_two
returns-in_err-put_two g c =
    let r = c.args.row.now in
    refused_first _ _ _ (column (space_text (amount_of Blocks r.blocks)) ++ column (space_text r.limits.block_soft))
    (column (space_text r.limits.block_hard) ++ column (grace_text c.args.moment r.block_end)) c.from_residual.ensures.0
    (rw (c.space.ensures, c.kib_of.ensures.value, c.space-2.ensures) at c.in_err-put_two.ensures)

pub returns : goal.returns
returns g c =
    let r = c.args.row.now in
    writes_then _ _ _ _ (column (space_text (amount_of Blocks r.blocks)) ++ column (space_text r.limits.block_soft))
    (column (space_text r.limits.block_hard) ++ column (grace_text c.args.moment r.block_end))
    (rw (c.space.ensures, c.kib_of.ensures.value, c.space-2.ensures) at c.in_ok-put_two.ensures)
    (rw (c.space-3.ensures, c.grace.ensures) at c.put_two-2.ensures)
