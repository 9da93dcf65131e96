use Rattle.std.proofs.Common.{[], ◌∷◌, ◌++◌}
use Rattle.csv.specs.Writing.{default_writer, escaped}
use Rattle.qtext.proofs.Fronts.{refused_first}
use Rattle.qtext_rows.proofs.field.put_quoted.Goals as goal

pub returns-in_err-put : goal.returns-in_err-put
returns-in_err-put g c = refused_first _ _ _ (34 ∷ [])
    (escaped default_writer c.args.field.now ++ 34 ∷ []) c.from_residual.ensures.0 c.in_err-put.ensures
