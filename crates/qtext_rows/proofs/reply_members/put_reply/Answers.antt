use Rattle.qtext_rows.proofs.reply_members.put_reply.Goals as goal

pub returns-in-Done : goal.returns-in-Done
returns-in-Done g c = rw c.in-Done.is c.put_done.ensures
