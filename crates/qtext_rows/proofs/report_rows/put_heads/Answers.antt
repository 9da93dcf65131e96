use Rattle.qtext_rows.proofs.report_rows.put_heads.Goals as goal

pub returns : goal.returns
returns g c = rw c.kind_head.ensures at c.put_row.ensures
