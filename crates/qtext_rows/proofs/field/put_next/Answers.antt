use Rattle.std.proofs.Common.{[], ◌∷◌}
use Rattle.csv.specs.Writing.{default_writer, field_text}
use Rattle.qtext.proofs.Fronts.{refused_first}
use Rattle.qtext_rows.proofs.field.put_next.Goals as goal

pub returns-in_err-put : goal.returns-in_err-put
returns-in_err-put g c = refused_first _ _ _ (44 ∷ [])
    (field_text default_writer c.args.field.now) c.from_residual.ensures.0 c.in_err-put.ensures
