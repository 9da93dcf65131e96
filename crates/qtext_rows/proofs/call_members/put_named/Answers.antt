use Rattle.std.proofs.Common.{codes, map}
use Rattle.std.specs.List.{flat_map, zip}
use Rattle.qtext.proofs.Fronts.{refused_first, writes_then}
use Rattle.qtext_read.specs.Rows.{name, row}
use Rattle.qtext_read.specs.Rows.{verb_text}
use Rattle.qtext_rows.specs.Values.{member, nested, value_text}
use Rattle.qtext_rows.proofs.call_members.put_named.Goals as goal

pub returns-in_err-put_part : goal.returns-in_err-put_part
returns-in_err-put_part g c = refused_first _ _ _ (nested (codes "call") (verb_text c.args.verb)) _ c.from_residual.ensures.0
    (rw c.verb_word.ensures at c.in_err-put_part.ensures)

pub returns-in_err-put_values : goal.returns-in_err-put_values
returns-in_err-put_values g c = writes_then _ _ _ _ (nested (codes "call") (verb_text c.args.verb)) _
    (rw c.verb_word.ensures at c.in_ok-put_part.ensures)
    (refused_first _ _ _ (flat_map (λ p. member (name p.0) p.1) (zip (row c.args.verb) (map value_text c.args.values.now))) _
    c.from_residual-in_err-put_values.ensures.0 (rw c.row_of.ensures at c.in_err-put_values.ensures))

pub returns : goal.returns
returns g c = writes_then _ _ _ _ (nested (codes "call") (verb_text c.args.verb)) _
    (rw c.verb_word.ensures at c.in_ok-put_part.ensures)
    (writes_then _ _ _ _ (flat_map (λ p. member (name p.0) p.1) (zip (row c.args.verb) (map value_text c.args.values.now))) _
    (rw c.row_of.ensures at c.in_ok-put_values.ensures) c.put_part-2.ensures)
