use Rattle.qtext_rows.specs.Rest.{audit_objects, tally_object}
use Rattle.qtext.proofs.Fronts.{refused_first, writes_then}
use Rattle.qtext_rows.proofs.rest_objects.put_ledger.Goals as goal

pub returns-in_err-put_tally : goal.returns-in_err-put_tally
returns-in_err-put_tally g c = refused_first _ _ _ (tally_object c.args.outcome.now.tallies)
    (audit_objects c.args.outcome.now.differences) c.from_residual.ensures.0 c.in_err-put_tally.ensures

pub returns : goal.returns
returns g c = writes_then _ _ _ _ (tally_object c.args.outcome.now.tallies) (audit_objects c.args.outcome.now.differences)
    c.in_ok-put_tally.ensures (rw c.as_slice.ensures at c.put_audit.ensures)
