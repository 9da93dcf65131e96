use Rattle.qtext_rows.proofs.reply_members.put_quota.Goals as goal

pub returns : goal.returns
returns g c = rw (c.or_null.ensures, c.or_null-2.ensures) at c.put_parts.ensures
