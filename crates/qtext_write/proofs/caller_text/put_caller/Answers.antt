use Rattle.std.proofs.Common.{append_assoc}
use Rattle.qtext_read.specs.Spelling.{own_ids_text}
use Rattle.qtext_write.proofs.Groups.{joined}
use Rattle.qtext_write.proofs.caller_text.put_caller.Goals as goal

pub returns-clause-text : goal.returns-clause-text
returns-clause-text c = rw (
  joined (own_ids_text c.args.cred.now) c.args.cred.now.more,
  c.put_groups.ensures.text,
  c.more.ensures.groups,
  c.number-2.ensures.text,
  c.gid.ensures,
  c.byte.ensures.byte,
  c.number.ensures.text,
  c.uid.ensures,
) (simp append_assoc)

pub returns-clause-held : goal.returns-clause-held
returns-clause-held c = record {
  uid = rw c.uid.ensures at c.uid.type_inv;
  gid = rw c.gid.ensures at c.gid.type_inv;
  few = rw c.more.ensures.groups at c.more.ensures.few;
  more = rw c.more.ensures.groups at c.put_groups.ensures.held;
}
