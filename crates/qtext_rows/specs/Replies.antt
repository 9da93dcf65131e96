-- What a line was answered, as the last members of its object (profile).
use Rattle.std.specs.Prelude.{ℕ, List, [], ◌∷◌, ◌++◌, Result, Ok, Err, codes, decimal}
use Rattle.std.specs.List.{concat}
use Rattle.json.specs.Print.{quoted}
use Rattle.qplain.specs.declared.call_fault.CallFault.{CallFault}
use Rattle.qplain.specs.declared.change.Change.{Change}
use Rattle.qplain.specs.declared.quota.Quota.{Quota}
use Rattle.qplain.specs.declared.receipt.Receipt.{Receipt}
use Rattle.qplain.specs.declared.refusal.Refusal.{Refusal}
use Rattle.qplain.specs.declared.refusal.Refusal.TheVariants.{EINVAL, ENAMETOOLONG, ENOENT, ENOTDIR, EEXIST, ENOSPC}
use Rattle.qplain.specs.declared.refusal.Refusal.TheVariants.{EDQUOT, EISDIR, EACCES, EFBIG, EPERM, EMLINK, ENOTEMPTY}
use Rattle.qplain.specs.declared.refusal.Refusal.TheVariants.{EBUSY, ESRCH}
use Rattle.qplain.specs.declared.reply.Reply.{Reply}
use Rattle.qplain.specs.declared.reply.Reply.TheVariants.{Done, Bytes, Stat as StatReply, Quota as QuotaReply, Refused}
use Rattle.qplain.specs.declared.stat.Stat.{Stat}
use Rattle.qtext.specs.RuleWords.{kind_text, over_text}
use Rattle.qtext_read.specs.Replies.{refusal_name}
use Rattle.qtext_write.specs.Answers.{call_fault_text}
use Rattle.qtext_rows.specs.Values.{digits_text, flag_text, member, or_null}

-- a call that was done: the number of the inode, and what was charged and released of blocks and of inodes
abbrev pub done_members : ℕ → Change → List ℕ
done_members number c = concat (member (codes "reply") (quoted (codes "done")) ∷ member (codes "inode") (decimal number)
    ∷ member (codes "blocks_charged") (decimal c.blocks_charged)
    ∷ member (codes "blocks_released") (decimal c.blocks_released)
    ∷ member (codes "inodes_charged") (decimal c.inodes_charged)
    ∷ member (codes "inodes_released") (decimal c.inodes_released) ∷ codes "}\n" ∷ [])

-- what was read
abbrev pub bytes_members : List ℕ → List ℕ
bytes_members bytes = concat (member (codes "reply") (quoted (codes "bytes"))
    ∷ member (codes "data") (digits_text bytes) ∷ codes "}\n" ∷ [])

-- the numbers of an inode
abbrev pub stat_members : Stat → List ℕ
stat_members s = concat (member (codes "reply") (quoted (codes "stat")) ∷ member (codes "inode") (decimal s.ino)
    ∷ member (codes "directory") (flag_text s.dir) ∷ member (codes "uid") (decimal s.uid)
    ∷ member (codes "gid") (decimal s.gid) ∷ member (codes "size") (decimal s.size)
    ∷ member (codes "blocks") (decimal s.blocks) ∷ member (codes "links") (decimal s.links) ∷ codes "}\n" ∷ [])

-- what a quota record holds: uses, limits and ends
abbrev pub quota_members : Quota → List ℕ
quota_members q = concat (member (codes "reply") (quoted (codes "quota")) ∷ member (codes "blocks") (decimal q.blocks)
    ∷ member (codes "inodes") (decimal q.inodes) ∷ member (codes "block_soft") (decimal q.limits.block_soft)
    ∷ member (codes "block_hard") (decimal q.limits.block_hard)
    ∷ member (codes "inode_soft") (decimal q.limits.inode_soft)
    ∷ member (codes "inode_hard") (decimal q.limits.inode_hard)
    ∷ member (codes "block_end") (or_null q.block_end) ∷ member (codes "inode_end") (or_null q.inode_end)
    ∷ codes "}\n" ∷ [])

-- a refusal, of which that of a quota tells whose it is and which of its limits
abbrev pub refused_members : Refusal → List ℕ
refused_members (EDQUOT kind over) = concat (member (codes "reply") (quoted (codes "refused"))
    ∷ member (codes "error") (quoted (codes "EDQUOT")) ∷ member (codes "kind") (quoted (kind_text kind))
    ∷ member (codes "limit") (quoted (over_text over)) ∷ codes "}\n" ∷ [])
refused_members refusal = concat (member (codes "reply") (quoted (codes "refused"))
    ∷ member (codes "error") (quoted (refusal_name refusal)) ∷ codes "}\n" ∷ [])

-- a reply
abbrev pub reply_members : Reply → List ℕ
reply_members (Done number change) = done_members number change
reply_members (Bytes bytes) = bytes_members bytes
reply_members (StatReply stat) = stat_members stat
reply_members (QuotaReply quota) = quota_members quota
reply_members (Refused refusal) = refused_members refusal

-- a call that is not in the journal has no place there
abbrev pub failed_members : CallFault → List ℕ
failed_members fault = concat (member (codes "place") (codes "null") ∷ member (codes "reply") (quoted (codes "failed"))
    ∷ member (codes "error") (quoted (call_fault_text fault)) ∷ codes "}\n" ∷ [])

-- an answer: the call's place in the journal and its reply, or why it has none, and the object's end
abbrev pub answer_members : Result Receipt CallFault → List ℕ
answer_members (Ok receipt) = member (codes "place") (decimal receipt.place) ++ reply_members receipt.reply
answer_members (Err fault) = failed_members fault
