use Rattle.std.proofs.Common.{refl}
use Rattle.qtext.proofs.Fronts.{rows_go_on, rows_refused}
use Rattle.qstore_tree.specs.Listed.{name_entry}
use Rattle.qtext_image_write.specs.Lines.{name_text}
use Rattle.qtext_image_write.proofs.name_text.put_rows.Goals as goal

pub loop-name-preserved : goal.loop-name-preserved
loop-name-preserved g c =
    rows_go_on _ _ _ (λ n. name_text (name_entry n)) _ _ _ _ refl c.loop-name.invariant
    c.in_ok-put_name.ensures c.loop-name-test.true

pub returns-in_err-put_name : goal.returns-in_err-put_name
returns-in_err-put_name g c =
    rows_refused _ _ _ _ (λ n. name_text (name_entry n)) _ _ _ _ refl c.from_residual.ensures.0
    c.loop-name.invariant c.in_err-put_name.ensures c.loop-name-test.true
