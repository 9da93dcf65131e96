-- Worked examples at the edges of ranges and of the store, over the example setup: pairs of a line and its reply.
use Rattle.std.specs.Prelude.{ℕ, zero, suc, ◌+◌, ◌-◌, ◌^◌, List, [], ◌∷◌, ◌++◌, Some, None, codes, replicate}
use Rattle.qrules.specs.declared.kind.Kind.TheVariants.{User, Group}
use Rattle.qrules.specs.declared.over.Over.TheVariants.{BlockHard, BlockSoft, InodeHard, InodeSoft}
use Rattle.qplain.specs.declared.call.Call.TheVariants.{Create, Write, Read, Stat as AskStat, Chown, SetQuota, SetGrace}
use Rattle.qplain.specs.declared.call.Call.TheVariants.{Quota as AskQuota}
use Rattle.qplain.specs.declared.reply.Reply.TheVariants.{Bytes, Quota as QuotaReply, Refused}
use Rattle.qplain.specs.declared.refusal.Refusal.TheVariants.{EINVAL, ENAMETOOLONG, ENOENT, ENOSPC, EDQUOT, EPERM}
use Rattle.qplain.specs.declared.refusal.Refusal.TheVariants.{ESRCH}
use Rattle.qplain_laws.specs.Examples.{ann, bob, create_a, done, file_of_bob, fill_a, free, line, root_caller}
use Rattle.qplain_laws.specs.MoreExamples.{Plays}

-- a write inside a longer file keeps its size and the bytes around it; a read ends where it is told to
abbrev pub InsideAFile : Type 0
InsideAFile = Plays
    ((line 0 bob create_a, done 2 0 1) ∷ (line 0 bob (fill_a 0 10), done 2 1 0)
    ∷ (line 0 bob (Write (codes "/a") 2 (codes "bc")), done 2 0 0)
    ∷ (line 0 bob (AskStat (codes "/a")), file_of_bob 10 1)
    ∷ (line 0 bob (Read (codes "/a") 1 4), Bytes (codes "abca")) ∷ [])

-- a chown that passes an inode limit and a block limit at once is refused for the inodes; without that limit, for the
-- blocks
abbrev pub BothLimitsAtOnce : Type 0
BothLimitsAtOnce = Plays
    ((line 0 root_caller (SetQuota Group 100 (record free { block_hard = 4; inode_hard = 1 })), done 0 0 0)
    ∷ (line 0 ann (Create (codes "/b")), done 2 0 1) ∷ (line 0 bob create_a, done 3 0 1)
    ∷ (line 0 bob (fill_a 0 8192), done 3 2 0)
    ∷ (line 0 bob (Chown (codes "/a") None (Some 100) None), Refused (EDQUOT Group InodeHard))
    ∷ (line 0 root_caller (SetQuota Group 100 (record free { block_hard = 4 })), done 0 0 0)
    ∷ (line 0 bob (Chown (codes "/a") None (Some 100) None), Refused (EDQUOT Group BlockHard)) ∷ [])

-- graces of 50 seconds for blocks and 60 for inodes: from 1000 the inodes' ends at 1060, from 1005 the blocks' at 1055
abbrev pub TwoGraces : Type 0
TwoGraces = Plays
    ((line 0 root_caller (SetGrace (record { block = 50; inode = 60 })), done 0 0 0)
    ∷ (line 0 root_caller (SetQuota User 1001 (record free { block_soft = 4; inode_soft = 1 })), done 0 0 0)
    ∷ (line 1000 bob create_a, done 2 0 1) ∷ (line 1000 bob (Create (codes "/b")), done 3 0 1)
    ∷ (line 1005 bob (fill_a 0 8192), done 2 2 0)
    ∷ (
      line 1005 bob (AskQuota User 1001),
      QuotaReply (record {
        blocks = 2;
        inodes = 2;
        limits = record free { block_soft = 4; inode_soft = 1 };
        block_end = Some 1055;
        inode_end = Some 1060;
      }),
    )
    ∷ (line 1055 bob (fill_a 8192 1), Refused (EDQUOT User BlockSoft))
    ∷ (line 1059 bob (Create (codes "/c")), done 4 0 1)
    ∷ (line 1060 bob (Create (codes "/d")), Refused (EDQUOT User InodeSoft)) ∷ [])

-- the largest limit and the longest grace are granted, and one more is not; of whom no limits can be set is told to the
-- superuser alone
abbrev pub LargestLimits : Type 0
LargestLimits = Plays
    ((line 0 root_caller (SetQuota User 1001 (record free { block_hard = 2 ^ 40; inode_hard = 2 ^ 40 })), done 0 0 0)
    ∷ (line 0 root_caller (SetQuota User 1001 (record free { inode_hard = 2 ^ 40 + 1 })), Refused EINVAL)
    ∷ (line 0 root_caller (SetGrace (record { block = 2 ^ 32 - 1; inode = 2 ^ 32 - 1 })), done 0 0 0)
    ∷ (line 0 root_caller (SetGrace (record { block = 1; inode = 2 ^ 32 })), Refused EINVAL)
    ∷ (line 0 bob (SetQuota User 1002 free), Refused EPERM)
    ∷ (line 0 root_caller (SetQuota User 1002 free), Refused ESRCH) ∷ [])

-- ten blocks fill the store: they can be written over, and no eleventh comes
abbrev pub ExactlyFull : Type 0
ExactlyFull = Plays
    ((line 0 bob create_a, done 2 0 1) ∷ (line 0 bob (fill_a 0 40960), done 2 10 0)
    ∷ (line 0 bob (fill_a 0 4096), done 2 0 0) ∷ (line 0 bob (fill_a 40960 1), Refused ENOSPC)
    ∷ (line 0 bob (AskStat (codes "/a")), file_of_bob 40960 10) ∷ [])

-- the bytes so many times
abbrev pub times : ℕ → List ℕ → List ℕ
times zero bytes = []
times (suc n) bytes = bytes ++ times n bytes

-- a name of so many bytes, with a slash in front
abbrev pub slash_name : ℕ → List ℕ
slash_name count = 0x2f ∷ replicate count 0x78

-- a name may have 255 bytes, a path 4095 and a write 65,536
abbrev pub LongestTexts : Type 0
LongestTexts = Plays
    ((line 0 bob (Create (slash_name 256)), Refused ENAMETOOLONG) ∷ (line 0 bob (Create (slash_name 255)), done 2 0 1)
    ∷ (line 0 bob (AskStat (times 16 (slash_name 254) ++ slash_name 14)), Refused ENOENT)
    ∷ (line 0 bob (AskStat (times 16 (slash_name 254) ++ slash_name 15)), Refused ENAMETOOLONG)
    ∷ (line 0 bob (Write (slash_name 255) 0 (replicate 65537 0x61)), Refused EINVAL) ∷ [])
