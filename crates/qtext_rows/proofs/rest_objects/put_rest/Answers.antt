use Rattle.std.proofs.Common.{◌++◌}
use Rattle.qtext_rows.specs.Rest.{audit_objects, tally_object, totals_object}
use Rattle.qtext.proofs.Fronts.{refused_first}
use Rattle.qtext_rows.proofs.rest_objects.put_rest.Goals as goal

pub returns-in_err-put_totals : goal.returns-in_err-put_totals
returns-in_err-put_totals g c = refused_first _ _ _ (totals_object c.args.outcome.now)
    (tally_object c.args.outcome.now.tallies ++ audit_objects c.args.outcome.now.differences) c.from_residual.ensures.0 c.in_err-put_totals.ensures
