use Rattle.qtext_rows.specs.Values.{key, value_text}
use Rattle.qtext.proofs.Fronts.{refused_first}
use Rattle.qtext_rows.proofs.part.put_member.Goals as goal

pub returns-in_err-put_key : goal.returns-in_err-put_key
returns-in_err-put_key g c = refused_first _ _ _ (key c.args.name.now)
    (value_text c.args.value.now) c.from_residual.ensures.0 c.in_err-put_key.ensures
