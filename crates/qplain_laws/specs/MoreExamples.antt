-- Worked examples of truncate, unlink and chown, over the example setup: pairs of a line and its reply.
use Rattle.std.specs.Prelude.{◌≡◌, ℕ, ◌+◌, ◌^◌, List, [], ◌∷◌, map, Some, None, codes}
use Rattle.qrules.specs.declared.kind.Kind.TheVariants.{User, Group}
use Rattle.qrules.specs.declared.over.Over.TheVariants.{BlockHard, InodeHard, InodeSoft}
use Rattle.qplain.specs.declared.call.Call.TheVariants.{Create, Write, Truncate, Read, Stat as AskStat, Unlink, Chown}
use Rattle.qplain.specs.declared.call.Call.TheVariants.{SetQuota, Quota as AskQuota}
use Rattle.qplain.specs.declared.line.Line.{Line}
use Rattle.qplain.specs.declared.reply.Reply.{Reply}
use Rattle.qplain.specs.declared.reply.Reply.TheVariants.{Done, Bytes, Quota as QuotaReply, Refused}
use Rattle.qplain.specs.declared.refusal.Refusal.TheVariants.{EINVAL, ENOENT, ENOTDIR, ENOSPC, EDQUOT, EISDIR, EACCES}
use Rattle.qplain.specs.declared.refusal.Refusal.TheVariants.{EFBIG, EPERM}
use Rattle.qplain_laws.specs.Examples.{ann, bob, create_a, done, file_of_bob, fill_a, free, line, record_of, replies}
use Rattle.qplain_laws.specs.Examples.{root_caller}

-- the script gives these replies on a new store, line by line
abbrev pub Plays : List (Line × Reply) → Type 0
Plays script = replies (map (λ p. p.0) script) ≡ map (λ p. p.1) script

-- granted, with the number and what was released
abbrev pub less : ℕ → ℕ → ℕ → Reply
less number blocks inodes =
    Done number (record { blocks_charged = 0; blocks_released = blocks; inodes_charged = 0; inodes_released = inodes })

-- three blocks are 12 KiB, over ann's soft limit of 8: a shorter file frees one, and with the use the end goes; one
-- more block begins a grace anew
abbrev pub Shorter : Type 0
Shorter = Plays
    ((line 1000 ann create_a, done 2 0 1) ∷ (line 1000 ann (fill_a 0 12288), done 2 3 0)
    ∷ (line 1000 ann (AskQuota User 1000), record_of 3 1 8 16 (Some 1100))
    ∷ (line 1100 ann (Truncate (codes "/a") 8192), less 2 1 0)
    ∷ (line 1100 ann (AskQuota User 1000), record_of 2 1 8 16 None)
    ∷ (line 1200 ann (fill_a 8192 4096), done 2 1 0)
    ∷ (line 1200 ann (AskQuota User 1000), record_of 3 1 8 16 (Some 1300)) ∷ [])

-- a block goes only where none of its bytes is left: 4097 bytes keep two, 4096 keep one
abbrev pub ShorterByBytes : Type 0
ShorterByBytes = Plays
    ((line 0 bob create_a, done 2 0 1) ∷ (line 0 bob (fill_a 0 8192), done 2 2 0)
    ∷ (line 0 bob (Truncate (codes "/a") 4097), done 2 0 0) ∷ (line 0 bob (Truncate (codes "/a") 4096), less 2 1 0)
    ∷ (line 0 bob (Truncate (codes "/a") 0), less 2 1 0) ∷ (line 0 bob (AskStat (codes "/a")), file_of_bob 0 0) ∷ [])

-- a file that grows takes no block, and what was cut off reads as zeros
abbrev pub GrownAgain : Type 0
GrownAgain = Plays
    ((line 0 bob create_a, done 2 0 1) ∷ (line 0 bob (Write (codes "/a") 4096 (0xff ∷ [])), done 2 1 0)
    ∷ (line 0 bob (Write (codes "/a") 0 (codes "abc")), done 2 1 0) ∷ (line 0 bob (Truncate (codes "/a") 1), less 2 1 0)
    ∷ (line 0 bob (Truncate (codes "/a") 3), done 2 0 0)
    ∷ (line 0 bob (Read (codes "/a") 0 9), Bytes (0x61 ∷ 0 ∷ 0 ∷ []))
    ∷ (line 0 bob (Truncate (codes "/a") 4099), done 2 0 0) ∷ (line 0 bob (AskStat (codes "/a")), file_of_bob 4099 1)
    ∷ (line 0 bob (Read (codes "/a") 4096 9), Bytes (0 ∷ 0 ∷ 0 ∷ [])) ∷ [])

-- who may truncate, and in which order that is refused; whoever truncates, the file's owner is given back
abbrev pub MayTruncate : Type 0
MayTruncate = Plays
    ((line 0 bob (Truncate (codes "a") 0), Refused EINVAL) ∷ (line 0 bob (Truncate (codes "/a") 0), Refused ENOENT)
    ∷ (line 0 bob (Truncate (codes "/") (2 ^ 40 + 1)), Refused EISDIR) ∷ (line 0 bob create_a, done 2 0 1)
    ∷ (line 0 bob (fill_a 0 1), done 2 1 0) ∷ (line 0 bob (Truncate (codes "/a/b") 0), Refused ENOTDIR)
    ∷ (line 0 ann (Truncate (codes "/a") (2 ^ 40 + 1)), Refused EACCES)
    ∷ (line 0 bob (Truncate (codes "/a") (2 ^ 40 + 1)), Refused EFBIG)
    ∷ (line 0 root_caller (Truncate (codes "/a") 0), less 2 1 0)
    ∷ (line 0 bob (AskQuota User 1001), record_of 0 1 0 0 None) ∷ [])

-- a file goes with its last name, and all that it takes
abbrev pub LastName : Type 0
LastName = Plays
    ((line 0 bob create_a, done 2 0 1) ∷ (line 0 bob (fill_a 0 8192), done 2 2 0)
    ∷ (line 0 bob (Unlink (codes "/a")), less 2 2 1) ∷ (line 0 bob (AskStat (codes "/a")), Refused ENOENT)
    ∷ (line 0 bob (AskQuota User 1001), record_of 0 0 0 0 None) ∷ [])

-- a number that was given is not given again
abbrev pub NoNumberAgain : Type 0
NoNumberAgain = Plays
    ((line 0 bob (Create (codes "/a")), done 2 0 1) ∷ (line 0 bob (Create (codes "/b")), done 3 0 1)
    ∷ (line 0 bob (Create (codes "/c")), done 4 0 1) ∷ (line 0 bob (Create (codes "/d")), done 5 0 1)
    ∷ (line 0 bob (Create (codes "/e")), done 6 0 1) ∷ (line 0 bob (Create (codes "/f")), Refused ENOSPC)
    ∷ (line 0 bob (Unlink (codes "/a")), less 2 0 1) ∷ (line 0 bob (Create (codes "/f")), done 7 0 1) ∷ [])

-- who may unlink, and in which order that is refused: the file's owner, the superuser, and who is made the owner of the
-- directory
abbrev pub MayUnlink : Type 0
MayUnlink = Plays
    ((line 0 bob (Unlink (codes "/a/")), Refused EINVAL) ∷ (line 0 ann (Unlink (codes "/")), Refused EISDIR)
    ∷ (line 0 ann (Unlink (codes "/a")), Refused ENOENT) ∷ (line 0 ann (Unlink (codes "/a/b")), Refused ENOENT)
    ∷ (line 0 bob create_a, done 2 0 1) ∷ (line 0 ann (Unlink (codes "/a/b")), Refused ENOTDIR)
    ∷ (line 0 ann (Unlink (codes "/a")), Refused EPERM) ∷ (line 0 root_caller (Unlink (codes "/a")), less 2 0 1)
    ∷ (line 0 bob create_a, done 3 0 1) ∷ (line 0 root_caller (Chown (codes "/") (Some 1000) None None), done 1 0 0)
    ∷ (line 0 ann (Unlink (codes "/a")), less 3 0 1) ∷ [])

-- a record that counts inodes: bob may have one for good, and three until the end
abbrev pub counted : ℕ → Reply
counted inodes = QuotaReply (record {
  blocks = 0;
  inodes = inodes;
  limits = record free { inode_soft = 1; inode_hard = 3 };
  block_end = None;
  inode_end = Some 120;
})

-- an inode that is given back leaves the end while use is over the soft limit still
abbrev pub InodesGivenBack : Type 0
InodesGivenBack = Plays
    ((line 0 root_caller (SetQuota User 1001 (record free { inode_soft = 1; inode_hard = 3 })), done 0 0 0)
    ∷ (line 10 bob (Create (codes "/a")), done 2 0 1) ∷ (line 20 bob (Create (codes "/b")), done 3 0 1)
    ∷ (line 20 bob (AskQuota User 1001), counted 2) ∷ (line 119 bob (Create (codes "/c")), done 4 0 1)
    ∷ (line 119 bob (Create (codes "/d")), Refused (EDQUOT User InodeHard))
    ∷ (line 120 bob (Create (codes "/d")), Refused (EDQUOT User InodeHard))
    ∷ (line 120 bob (Unlink (codes "/c")), less 4 0 1) ∷ (line 120 bob (AskQuota User 1001), counted 2)
    ∷ (line 120 bob (Create (codes "/c")), Refused (EDQUOT User InodeSoft))
    ∷ (line 119 bob (Create (codes "/c")), done 5 0 1) ∷ [])

-- group 100 may have 4 KiB: what rises there is tested, all or nothing, but not for the superuser; the charge moves
-- from record to record, and the totals stay
abbrev pub OtherGroup : Type 0
OtherGroup = Plays
    ((line 0 root_caller (SetQuota Group 100 (record free { block_hard = 4 })), done 0 0 0)
    ∷ (line 0 bob create_a, done 2 0 1) ∷ (line 0 bob (fill_a 0 8192), done 2 2 0)
    ∷ (line 0 bob (Chown (codes "/a") (Some 1000) None None), Refused EPERM)
    ∷ (line 0 bob (Chown (codes "/a") None (Some 100) None), Refused (EDQUOT Group BlockHard))
    ∷ (line 0 root_caller (AskQuota Group 0), record_of 2 2 0 0 None)
    ∷ (line 0 root_caller (Chown (codes "/a") None (Some 100) None), done 2 0 0)
    ∷ (line 0 root_caller (AskQuota Group 100), record_of 2 1 0 4 None)
    ∷ (line 0 root_caller (AskQuota Group 0), record_of 0 1 0 0 None) ∷ [])

-- an empty file moves to a group that has no block left, since no block rises
abbrev pub OnlyWhatRises : Type 0
OnlyWhatRises = Plays
    ((line 0 root_caller (SetQuota Group 100 (record free { block_hard = 4; inode_hard = 2 })), done 0 0 0)
    ∷ (line 0 ann create_a, done 2 0 1) ∷ (line 0 ann (fill_a 0 4096), done 2 1 0)
    ∷ (line 0 bob (Create (codes "/b")), done 3 0 1)
    ∷ (line 0 bob (Chown (codes "/b") None (Some 100) None), done 3 0 0)
    ∷ (line 0 bob (Create (codes "/c")), done 4 0 1)
    ∷ (line 0 bob (Chown (codes "/c") None (Some 100) None), Refused (EDQUOT Group InodeHard)) ∷ [])

-- who may give what to whom, and in which order that is refused; the present owners may be named by the owner alone
abbrev pub MayGive : Type 0
MayGive = Plays
    ((line 0 bob (Chown (codes "/a") None (Some 7) None), Refused EINVAL)
    ∷ (line 0 bob (Chown (codes "/a") (Some 7) None None), Refused EINVAL)
    ∷ (line 0 bob (Chown (codes "/a") None None None), Refused ENOENT) ∷ (line 0 bob create_a, done 2 0 1)
    ∷ (line 0 ann (Chown (codes "/a") None None None), Refused EPERM)
    ∷ (line 0 ann (Chown (codes "/a") (Some 1000) (Some 100) None), Refused EPERM)
    ∷ (line 0 bob (Chown (codes "/a") (Some 1000) (Some 100) None), Refused EPERM)
    ∷ (line 0 bob (Chown (codes "/a") (Some 1001) (Some 0) None), done 2 0 0)
    ∷ (line 0 bob (Chown (codes "/a") None (Some 100) None), done 2 0 0)
    ∷ (line 0 bob (AskQuota Group 100), record_of 0 1 0 0 None)
    ∷ (line 0 (record bob { more = [] }) (Chown (codes "/a") None (Some 100) None), done 2 0 0)
    ∷ (line 0 (record bob { gid = 100; more = [] }) (Chown (codes "/a") None (Some 0) None), Refused EPERM)
    ∷ (line 0 bob (Chown (codes "/") None None None), Refused EPERM)
    ∷ (line 0 root_caller (Chown (codes "/") (Some 1001) (Some 100) None), done 1 0 0)
    ∷ (line 0 bob (AskQuota Group 100), record_of 0 2 0 0 None) ∷ [])

-- given to ann, a file begins her grace and takes what bob used; given back, it ends that
abbrev pub EndsMove : Type 0
EndsMove = Plays
    ((line 0 bob create_a, done 2 0 1) ∷ (line 0 bob (fill_a 0 20480), done 2 5 0)
    ∷ (line 500 root_caller (Chown (codes "/a") (Some 1000) (Some 100) None), done 2 0 0)
    ∷ (line 500 ann (AskQuota User 1000), record_of 5 1 8 16 (Some 600))
    ∷ (line 500 bob (AskQuota User 1001), record_of 0 0 0 0 None)
    ∷ (line 700 root_caller (Chown (codes "/a") (Some 1001) None None), done 2 0 0)
    ∷ (line 700 ann (AskQuota User 1000), record_of 0 0 8 16 None)
    ∷ (line 700 bob (AskQuota User 1001), record_of 5 1 0 0 None) ∷ [])
