use Rattle.std.proofs.Common.{append_assoc, codes, ◌++◌}
use Rattle.qtext.proofs.Fronts.{partly_last}
use Rattle.qtext_read.specs.Replies.{reply_text}
use Rattle.qtext_write.proofs.Behind.{behind, refused_whole}
use Rattle.qtext_files.proofs.EntriesJoined.{entry_parts, head_of_entry}
use Rattle.qtext_files.proofs.journal_text.put_entry.Goals as goal

pub returns-in_err-put_call-clause-writes : goal.returns-in_err-put_call-clause-writes
returns-in_err-put_call-clause-writes g c = rw (entry_parts c.args.entry.now)
    (refused_whole _ _ _ (head_of_entry c.args.entry.now) _ _ c.from_residual.ensures.0
    (rw (
      c.byte-2.ensures.byte,
      c.put_caller.ensures.text,
      c.byte.ensures.byte,
      c.field.ensures.text,
      c.number.ensures.text,
      c.clear.ensures,
    ) at c.in_err-put_call.ensures.passes))

pub returns-clause-writes : goal.returns-clause-writes
returns-clause-writes g c = rw (entry_parts c.args.entry.now)
    (partly_last _ _ _ _ _ _
    (behind _ _ (head_of_entry c.args.entry.now) _ _ _
    (rw (
      c.byte-2.ensures.byte,
      c.put_caller.ensures.text,
      c.byte.ensures.byte,
      c.field.ensures.text,
      c.number.ensures.text,
      c.clear.ensures,
    ) at c.in_ok-put_call.ensures.passes))
    (rw (
      c.text.ensures.text,
      append_assoc (c.put_call.new.line ++ codes " => ") (reply_text c.args.entry.now.reply) (codes "\n"),
      append_assoc c.put_call.new.line (codes " => ") (reply_text c.args.entry.now.reply ++ codes "\n"),
    ) at c.put_reply.ensures.writes))
