use Rattle.std.proofs.Common.{[], ◌∷◌, ◌++◌}
use Rattle.json.specs.Print.{escape}
use Rattle.qtext.proofs.Fronts.{refused_first}
use Rattle.qtext_rows.proofs.value.put_quoted.Goals as goal

pub returns-in_err-put : goal.returns-in_err-put
returns-in_err-put g c = refused_first _ _ _ (34 ∷ [])
    (escape c.args.text.now ++ 34 ∷ []) c.from_residual.ensures.0 c.in_err-put.ensures
