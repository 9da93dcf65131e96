use Rattle.std.proofs.Common.{◌∷◌, codes, decimal}
use Rattle.qtext_read.specs.Replies.{end_text}
use Rattle.qtext_write.proofs.Regrouped.{nine_parts}
use Rattle.qtext_write.proofs.reply_text.put_quota.Goals as goal

pub returns-clause-text : goal.returns-clause-text
returns-clause-text c =
    let quota = c.args.quota.now in
    let limits = quota.limits in
    rw (
      c.put_end-2.ensures.text,
      c.put_end.ensures.text,
      c.field-6.ensures.text,
      c.field-5.ensures.text,
      c.field-4.ensures.text,
      c.field-3.ensures.text,
      c.field-2.ensures.text,
      c.field.ensures.text,
      c.text.ensures.text,
    )
    (nine_parts c.args.line.now (codes "quota") (32 ∷ decimal quota.blocks) (32 ∷ decimal quota.inodes)
    (32 ∷ decimal limits.block_soft) (32 ∷ decimal limits.block_hard) (32 ∷ decimal limits.inode_soft)
    (32 ∷ decimal limits.inode_hard) (32 ∷ end_text quota.block_end) (32 ∷ end_text quota.inode_end))
