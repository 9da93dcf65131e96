use Rattle.qtext.proofs.Fronts.{refused_first, writes_then}
use Rattle.qtext_read.specs.declared.row.Argument.TheVariants.{Path}
use Rattle.qtext_rows.specs.declared.value.Value.TheVariants.{Null}
use Rattle.qtext_rows.proofs.NamedValues.{first_value}
use Rattle.qtext_rows.proofs.call_members.+put_values.Goals as goal

pub returns-in_err-put_member : goal.returns-in_err-put_member
returns-in_err-put_member g t c =
    rw (first_value c.args.row.now c.args.values.now Path Null c.in-len1-up.len_at_least c.in-len1-up-values.len_at_least)
    (refused_first _ _ _ _ _ c.from_residual.ensures.0 (rw c.name_of.ensures at c.in_err-put_member.ensures))

pub returns : goal.returns
returns g t c =
    rw (first_value c.args.row.now c.args.values.now Path Null c.in-len1-up.len_at_least c.in-len1-up-values.len_at_least)
    (writes_then _ _ _ _ _ _ (rw c.name_of.ensures at c.in_ok-put_member.ensures) c.put_values.ensures)
