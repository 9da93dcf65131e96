use Rattle.std.proofs.Common.{[], ◌∷◌, ◌++◌}
use Rattle.hex.specs.Hex.{encode_lower}
use Rattle.qblocks.specs.Input.{input_bytes}
use Rattle.qtext.proofs.Fronts.{refused_first}
use Rattle.qtext_rows.proofs.value.put_digits_text.Goals as goal

pub returns-in_err-put : goal.returns-in_err-put
returns-in_err-put g c = refused_first _ _ _ (34 ∷ [])
    (encode_lower (input_bytes c.args.bytes) ++ 34 ∷ []) c.from_residual.ensures.0 c.in_err-put.ensures
