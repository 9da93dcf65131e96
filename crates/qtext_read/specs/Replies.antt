-- Replies as text (profile).
use Rattle.std.specs.Prelude.{ℕ, List, [], ◌∷◌, ◌++◌, codes, decimal, Option, Some, None, if◌then◌else◌}
use Rattle.std.specs.List.{concat}
use Rattle.qplain.specs.declared.change.Change.{Change}
use Rattle.qplain.specs.declared.quota.Quota.{Quota}
use Rattle.qplain.specs.declared.refusal.Refusal.{Refusal}
use Rattle.qplain.specs.declared.refusal.Refusal.TheVariants.{EINVAL, ENAMETOOLONG, ENOENT, ENOTDIR, EEXIST, ENOSPC}
use Rattle.qplain.specs.declared.refusal.Refusal.TheVariants.{EDQUOT, EISDIR, EACCES, EFBIG, EPERM, EMLINK, ENOTEMPTY}
use Rattle.qplain.specs.declared.refusal.Refusal.TheVariants.{EBUSY, ESRCH}
use Rattle.qplain.specs.declared.reply.Reply.{Reply}
use Rattle.qplain.specs.declared.reply.Reply.TheVariants.{Done, Bytes, Stat as StatReply, Quota as QuotaReply, Refused}
use Rattle.qplain.specs.declared.stat.Stat.{Stat}
use Rattle.qtext.specs.Pieces.{data_text}
use Rattle.qtext.specs.RuleWords.{kind_text, over_text}

-- the name of a refusal
abbrev pub refusal_name : Refusal → List ℕ
refusal_name EINVAL = codes "EINVAL"
refusal_name ENAMETOOLONG = codes "ENAMETOOLONG"
refusal_name ENOENT = codes "ENOENT"
refusal_name ENOTDIR = codes "ENOTDIR"
refusal_name EEXIST = codes "EEXIST"
refusal_name ENOSPC = codes "ENOSPC"
refusal_name (EDQUOT kind over) = codes "EDQUOT"
refusal_name EISDIR = codes "EISDIR"
refusal_name EACCES = codes "EACCES"
refusal_name EFBIG = codes "EFBIG"
refusal_name EPERM = codes "EPERM"
refusal_name EMLINK = codes "EMLINK"
refusal_name ENOTEMPTY = codes "ENOTEMPTY"
refusal_name EBUSY = codes "EBUSY"
refusal_name ESRCH = codes "ESRCH"

-- a refusal's name, and for a quota whose it is and which of its limits
abbrev pub refusal_text : Refusal → List ℕ
refusal_text (EDQUOT kind over) = concat (codes "EDQUOT " ∷ kind_text kind ∷ codes " " ∷ over_text over ∷ [])
refusal_text refusal = refusal_name refusal

-- a grace end, or a dash where none stands
abbrev pub end_text : Option ℕ → List ℕ
end_text None = codes "-"
end_text (Some end) = decimal end

-- the number of the inode, and what was charged and released of blocks and of inodes
abbrev pub done_text : ℕ → Change → List ℕ
done_text number c = concat (codes "done " ∷ decimal number
    ∷ codes " blocks +" ∷ decimal c.blocks_charged ∷ codes " -" ∷ decimal c.blocks_released
    ∷ codes " inodes +" ∷ decimal c.inodes_charged ∷ codes " -" ∷ decimal c.inodes_released ∷ [])

-- the numbers of an inode
abbrev pub stat_text : Stat → List ℕ
stat_text s = concat (codes "stat " ∷ decimal s.ino ∷ (if s.dir then codes " dir " else codes " file ")
    ∷ decimal s.uid ∷ codes " " ∷ decimal s.gid ∷ codes " " ∷ decimal s.size ∷ codes " " ∷ decimal s.blocks
    ∷ codes " " ∷ decimal s.links ∷ [])

-- what a quota record holds: uses, limits and ends
abbrev pub quota_text : Quota → List ℕ
quota_text q = concat (codes "quota " ∷ decimal q.blocks ∷ codes " " ∷ decimal q.inodes
    ∷ codes " " ∷ decimal q.limits.block_soft ∷ codes " " ∷ decimal q.limits.block_hard
    ∷ codes " " ∷ decimal q.limits.inode_soft ∷ codes " " ∷ decimal q.limits.inode_hard
    ∷ codes " " ∷ end_text q.block_end ∷ codes " " ∷ end_text q.inode_end ∷ [])

-- the text of a reply
abbrev pub reply_text : Reply → List ℕ
reply_text (Done number change) = done_text number change
reply_text (Bytes bytes) = concat (codes "bytes " ∷ data_text bytes ∷ [])
reply_text (StatReply stat) = stat_text stat
reply_text (QuotaReply quota) = quota_text quota
reply_text (Refused refusal) = concat (codes "refused " ∷ []) ++ refusal_text refusal
