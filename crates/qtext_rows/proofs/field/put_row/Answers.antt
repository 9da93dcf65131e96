use Rattle.std.proofs.Common.{codes, ◌++◌}
use Rattle.std.specs.List.{flat_map}
use Rattle.csv.specs.Writing.{default_writer, field_text}
use Rattle.qtext.proofs.Fronts.{refused_first, writes_then}
use Rattle.qtext_rows.specs.Csv.{next_field}
use Rattle.qtext_rows.proofs.Records.{row_parts}
use Rattle.qtext_rows.proofs.field.put_row.Goals as goal

pub returns-in_err-put_field : goal.returns-in_err-put_field
returns-in_err-put_field g c =
    rw (← row_parts c.args.first.now c.args.fields.now c.requires)
    (refused_first _ _ _ (field_text default_writer c.args.first.now)
    (flat_map (λ f. next_field f.now) c.args.fields.now ++ codes "\n") c.from_residual.ensures.0 c.in_err-put_field.ensures)

pub returns : goal.returns
returns g c =
    rw (← row_parts c.args.first.now c.args.fields.now c.requires)
    (writes_then _ _ _ _ (field_text default_writer c.args.first.now)
    (flat_map (λ f. next_field f.now) c.args.fields.now ++ codes "\n") c.in_ok-put_field.ensures c.put_rest.ensures)
