use Rattle.qtext_rows.specs.Json.{records_and_rest}
use Rattle.qtext_rows.specs.Rest.{moment_object}
use Rattle.qtext.proofs.Fronts.{refused_first}
use Rattle.qtext_rows.proofs.objects.put_left.Goals as goal

pub returns-in_err-put_moment : goal.returns-in_err-put_moment
returns-in_err-put_moment g c = refused_first _ _ _ (moment_object c.args.shown.moment)
    (records_and_rest c.args.shown.view c.args.outcome.now c.args.shown.moment) c.from_residual.ensures.0 c.in_err-put_moment.ensures
