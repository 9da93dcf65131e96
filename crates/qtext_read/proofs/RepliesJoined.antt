-- The text of a reply is its words, with a space between two of them.
use Rattle.std.proofs.Common.{◌≡◌, Bool, true, false, refl, decimal}
use Rattle.std.specs.List.{join_with_byte}
use Rattle.std.proofs.lemmas.List.{append-nil}
use Rattle.qrules.specs.declared.kind.Kind.TheVariants.{User, Group, Project}
use Rattle.qplain.specs.declared.refusal.Refusal.TheVariants.{EINVAL, ENAMETOOLONG, ENOENT, ENOTDIR, EEXIST, ENOSPC, EDQUOT, EISDIR, EACCES, EFBIG, EPERM, EMLINK, ENOTEMPTY, EBUSY, ESRCH}
use Rattle.qplain.specs.declared.reply.Reply.{Reply}
use Rattle.qplain.specs.declared.reply.Reply.TheVariants.{Done, Bytes, Stat as StatReply, Quota as QuotaReply, Refused}
use Rattle.qtext.specs.Pieces.{data_text}
use Rattle.qtext.specs.RuleWords.{over_text}
use Rattle.qtext_read.specs.Replies.{end_text, reply_text, stat_text}
use Rattle.qtext_read.specs.RepliesSpelled.{reply_words}

pub reply_joined : (r : Reply) → reply_text r ≡ join_with_byte 0x20 (reply_words r)
reply_joined (Done ino c) = rw (append-nil (decimal c.inodes_released)) refl
reply_joined (Bytes bytes) = rw (append-nil (data_text bytes)) refl
reply_joined (StatReply s) = by s.dir refl
  where
    by : (dir : Bool) → s.dir ≡ dir → stat_text s ≡ join_with_byte 0x20 (reply_words (StatReply s))
    by true is = rw (is, append-nil (decimal s.links)) refl
    by false is = rw (is, append-nil (decimal s.links)) refl
reply_joined (QuotaReply q) = rw (append-nil (end_text q.inode_end)) refl
reply_joined (Refused EINVAL) = refl
reply_joined (Refused ENAMETOOLONG) = refl
reply_joined (Refused ENOENT) = refl
reply_joined (Refused ENOTDIR) = refl
reply_joined (Refused EEXIST) = refl
reply_joined (Refused ENOSPC) = refl
reply_joined (Refused (EDQUOT User over)) = rw (append-nil (over_text over)) refl
reply_joined (Refused (EDQUOT Group over)) = rw (append-nil (over_text over)) refl
reply_joined (Refused (EDQUOT Project over)) = rw (append-nil (over_text over)) refl
reply_joined (Refused EISDIR) = refl
reply_joined (Refused EACCES) = refl
reply_joined (Refused EFBIG) = refl
reply_joined (Refused EPERM) = refl
reply_joined (Refused EMLINK) = refl
reply_joined (Refused ENOTEMPTY) = refl
reply_joined (Refused EBUSY) = refl
reply_joined (Refused ESRCH) = refl
