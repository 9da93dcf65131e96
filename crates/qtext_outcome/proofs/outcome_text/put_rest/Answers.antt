use Rattle.std.proofs.Common.{◌++◌}
use Rattle.qtext.proofs.Fronts.{appends_then, front_of_first, front_of_second, refused_first, writes_then}
use Rattle.qaudit.specs.Audits.{audit_text}
use Rattle.qtext_outcome.specs.Outcomes.{tally_text, totals_text}
use Rattle.qtext_outcome.proofs.outcome_text.put_rest.Goals as goal

pub returns-in_err-put_totals : goal.returns-in_err-put_totals
returns-in_err-put_totals g c =
    refused_first _ _ _ _ (audit_text c.args.outcome.now.differences) c.from_residual.ensures.0
    (front_of_first _ _ _ (tally_text c.args.outcome.now.tallies) c.in_err-put_totals.ensures)

pub returns-in_err-put_tally : goal.returns-in_err-put_tally
returns-in_err-put_tally g c =
    refused_first _ _ _ _ (audit_text c.args.outcome.now.differences) c.from_residual-in_err-put_tally.ensures.0
    (front_of_second _ _ _ (totals_text c.args.outcome.now) (tally_text c.args.outcome.now.tallies)
    c.in_ok-put_totals.ensures c.in_err-put_tally.ensures)

pub returns : goal.returns
returns g c =
    writes_then _ _ _ _ (totals_text c.args.outcome.now ++ tally_text c.args.outcome.now.tallies)
    (audit_text c.args.outcome.now.differences)
    (appends_then _ _ _ (totals_text c.args.outcome.now) (tally_text c.args.outcome.now.tallies)
    c.in_ok-put_totals.ensures c.in_ok-put_tally.ensures) (rw c.as_slice.ensures at c.put_audit.ensures)
