use Rattle.qtext.proofs.Fronts.{refused_first, writes_then}
use Rattle.qtext_rows.specs.Records.{record_objects}
use Rattle.qtext_rows.specs.Rest.{rest_objects}
use Rattle.qtext_rows.proofs.objects.put_records_and_rest.Goals as goal

pub returns-in_err-put_records : goal.returns-in_err-put_records
returns-in_err-put_records g c =
    refused_first _ _ _ (record_objects c.args.shown.view c.args.outcome.now.records c.args.shown.moment)
    (rest_objects c.args.outcome.now) c.from_residual.ensures.0
    (rw c.as_slice.ensures at c.in_err-put_records.ensures)

pub returns : goal.returns
returns g c = writes_then _ _ _ _ (record_objects c.args.shown.view c.args.outcome.now.records c.args.shown.moment)
    (rest_objects c.args.outcome.now) (rw c.as_slice.ensures at c.in_ok-put_records.ensures) c.put_rest.ensures
