-- How replies are spelled out in words, each in its one spelling.
use Rattle.std.specs.Prelude.{ℕ, List, [], ◌∷◌, codes, decimal, if◌then◌else◌}
use Rattle.qplain.specs.declared.refusal.Refusal.{Refusal}
use Rattle.qplain.specs.declared.refusal.Refusal.TheVariants.{EINVAL, ENAMETOOLONG, ENOENT, ENOTDIR, EEXIST, ENOSPC}
use Rattle.qplain.specs.declared.refusal.Refusal.TheVariants.{EDQUOT, EISDIR, EACCES, EFBIG, EPERM, EMLINK, ENOTEMPTY}
use Rattle.qplain.specs.declared.refusal.Refusal.TheVariants.{EBUSY, ESRCH}
use Rattle.qplain.specs.declared.reply.Reply.{Reply}
use Rattle.qplain.specs.declared.reply.Reply.TheVariants.{Done, Bytes, Stat as StatReply, Quota as QuotaReply, Refused}
use Rattle.qtext.specs.Pieces.{data_text}
use Rattle.qtext.specs.RuleWords.{kind_text, over_text}
use Rattle.qtext_read.specs.Replies.{end_text}

-- a refusal's name, and for a quota whose it is and which of its limits
abbrev pub refusal_words : Refusal → List (List ℕ)
refusal_words EINVAL = codes "EINVAL" ∷ []
refusal_words ENAMETOOLONG = codes "ENAMETOOLONG" ∷ []
refusal_words ENOENT = codes "ENOENT" ∷ []
refusal_words ENOTDIR = codes "ENOTDIR" ∷ []
refusal_words EEXIST = codes "EEXIST" ∷ []
refusal_words ENOSPC = codes "ENOSPC" ∷ []
refusal_words (EDQUOT kind over) = codes "EDQUOT" ∷ kind_text kind ∷ over_text over ∷ []
refusal_words EISDIR = codes "EISDIR" ∷ []
refusal_words EACCES = codes "EACCES" ∷ []
refusal_words EFBIG = codes "EFBIG" ∷ []
refusal_words EPERM = codes "EPERM" ∷ []
refusal_words EMLINK = codes "EMLINK" ∷ []
refusal_words ENOTEMPTY = codes "ENOTEMPTY" ∷ []
refusal_words EBUSY = codes "EBUSY" ∷ []
refusal_words ESRCH = codes "ESRCH" ∷ []

-- a total, and by how much it rose and fell
abbrev pub rise_words : List ℕ → ℕ → ℕ → List (List ℕ) → List (List ℕ)
rise_words total charged released others = total ∷ (0x2b ∷ decimal charged) ∷ (0x2d ∷ decimal released) ∷ others

-- the words of a reply
abbrev pub reply_words : Reply → List (List ℕ)
reply_words (Done ino c) = codes "done" ∷ decimal ino ∷ rise_words (codes "blocks") c.blocks_charged c.blocks_released
    (rise_words (codes "inodes") c.inodes_charged c.inodes_released [])
reply_words (Bytes bytes) = codes "bytes" ∷ data_text bytes ∷ []
reply_words (StatReply s) = codes "stat" ∷ decimal s.ino ∷ (if s.dir then codes "dir" else codes "file")
    ∷ decimal s.uid ∷ decimal s.gid ∷ decimal s.size ∷ decimal s.blocks ∷ decimal s.links ∷ []
reply_words (QuotaReply q) = codes "quota" ∷ decimal q.blocks ∷ decimal q.inodes
    ∷ decimal q.limits.block_soft ∷ decimal q.limits.block_hard
    ∷ decimal q.limits.inode_soft ∷ decimal q.limits.inode_hard ∷ end_text q.block_end ∷ end_text q.inode_end ∷ []
reply_words (Refused refusal) = codes "refused" ∷ refusal_words refusal
