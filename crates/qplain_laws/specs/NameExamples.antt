-- Worked examples of the calls on directories and further names, over the example setup: pairs of a line and its reply.
use Rattle.std.specs.Prelude.{ℕ, true, false, [], ◌∷◌, Some, None, codes, replicate}
use Rattle.qrules.specs.declared.kind.Kind.TheVariants.{User}
use Rattle.qrules.specs.declared.over.Over.TheVariants.{InodeHard}
use Rattle.qplain.specs.declared.call.Call.TheVariants.{Create, Mkdir, Write, Read, Stat as AskStat, Link, Unlink}
use Rattle.qplain.specs.declared.call.Call.TheVariants.{Rmdir, Rename, Chown, SetQuota, Quota as AskQuota}
use Rattle.qplain.specs.declared.reply.Reply.{Reply}
use Rattle.qplain.specs.declared.reply.Reply.TheVariants.{Stat as StatReply, Refused}
use Rattle.qplain.specs.declared.refusal.Refusal.TheVariants.{EBUSY, EINVAL, ENOENT, ENOTDIR, ENOTEMPTY, EEXIST, ENOSPC}
use Rattle.qplain.specs.declared.refusal.Refusal.TheVariants.{EDQUOT, EISDIR, EPERM}
use Rattle.qplain_laws.specs.Examples.{ann, bob, create_a, done, fill_a, free, line, record_of, root_caller}
use Rattle.qplain_laws.specs.MoreExamples.{Plays, less}

-- the directory of this number, with these owners and so many links
abbrev pub directory : ℕ → ℕ → ℕ → ℕ → Reply
directory number uid gid links =
    StatReply (record { ino = number; dir = true; uid = uid; gid = gid; size = 0; blocks = 0; links = links })

-- a file of bob's and the group 0
abbrev pub file_with : ℕ → ℕ → ℕ → ℕ → Reply
file_with number size blocks links =
    StatReply (record { ino = number; dir = false; uid = 1001; gid = 0; size = size; blocks = blocks; links = links })

-- a directory has two links and takes one inode and no block; its parent has one link more, and a file gives it none
abbrev pub NewDirectories : Type 0
NewDirectories = Plays
    ((line 0 bob (AskStat (codes "/")), directory 1 0 0 2) ∷ (line 0 bob (Mkdir (codes "/d")), done 2 0 1)
    ∷ (line 0 bob (AskStat (codes "/d")), directory 2 1001 0 2)
    ∷ (line 0 bob (AskStat (codes "/")), directory 1 0 0 3)
    ∷ (line 0 ann (Mkdir (codes "/d/e")), done 3 0 1)
    ∷ (line 0 bob (AskStat (codes "/d/e")), directory 3 1000 100 2)
    ∷ (line 0 bob (Create (codes "/d/f")), done 4 0 1) ∷ (line 0 bob (AskStat (codes "/d")), directory 2 1001 0 3)
    ∷ (line 0 bob (AskStat (codes "/")), directory 1 0 0 3)
    ∷ (line 0 bob (AskQuota User 1001), record_of 0 2 0 0 None) ∷ [])

-- where no directory can be made, and in which order that is refused; a directory is no file
abbrev pub MayMakeDirectories : Type 0
MayMakeDirectories = Plays
    ((line 0 bob (Mkdir (codes "/d/")), Refused EINVAL) ∷ (line 0 bob (Mkdir (codes "/")), Refused EEXIST)
    ∷ (line 0 bob (Mkdir (codes "/x/y")), Refused ENOENT) ∷ (line 0 bob create_a, done 2 0 1)
    ∷ (line 0 bob (Mkdir (codes "/a")), Refused EEXIST) ∷ (line 0 bob (Mkdir (codes "/a/d")), Refused ENOTDIR)
    ∷ (line 0 root_caller (SetQuota User 1001 (record free { inode_hard = 2 })), done 0 0 0)
    ∷ (line 0 bob (Mkdir (codes "/d")), done 3 0 1) ∷ (line 0 bob (Mkdir (codes "/d")), Refused EEXIST)
    ∷ (line 0 bob (Mkdir (codes "/e")), Refused (EDQUOT User InodeHard))
    ∷ (line 0 bob (Create (codes "/d")), Refused EEXIST)
    ∷ (line 0 bob (Read (codes "/d") 0 1), Refused EISDIR) ∷ (line 0 ann (Unlink (codes "/d")), Refused EISDIR)
    ∷ (line 0 ann (Mkdir (codes "/e")), done 4 0 1) ∷ (line 0 ann (Mkdir (codes "/f")), done 5 0 1)
    ∷ (line 0 ann (Mkdir (codes "/g")), done 6 0 1) ∷ (line 0 ann (Mkdir (codes "/h")), Refused ENOSPC)
    ∷ (line 0 bob (Mkdir (codes "/h")), Refused ENOSPC) ∷ [])

-- a directory goes when nothing stands in it, with its inode, its owner's charge and its parent's link; its number
-- stays given
abbrev pub DirectoriesGo : Type 0
DirectoriesGo = Plays
    ((line 0 bob (Mkdir (codes "/d")), done 2 0 1) ∷ (line 0 bob (Create (codes "/d/f")), done 3 0 1)
    ∷ (line 0 bob (Rmdir (codes "/d")), Refused ENOTEMPTY) ∷ (line 0 bob (Unlink (codes "/d/f")), less 3 0 1)
    ∷ (line 0 bob (Mkdir (codes "/d/e")), done 4 0 1) ∷ (line 0 bob (Rmdir (codes "/d")), Refused ENOTEMPTY)
    ∷ (line 0 bob (AskStat (codes "/d")), directory 2 1001 0 3)
    ∷ (line 0 bob (Rmdir (codes "/d/e")), less 4 0 1)
    ∷ (line 0 bob (AskStat (codes "/d")), directory 2 1001 0 2) ∷ (line 0 bob (Rmdir (codes "/d")), less 2 0 1)
    ∷ (line 0 bob (AskStat (codes "/d")), Refused ENOENT) ∷ (line 0 bob (AskStat (codes "/")), directory 1 0 0 2)
    ∷ (line 0 bob (AskQuota User 1001), record_of 0 0 0 0 None)
    ∷ (line 0 bob (Mkdir (codes "/d")), done 5 0 1) ∷ [])

-- who may remove a directory, and in which order that is refused: what is no directory, then the right, then what is
-- not empty
abbrev pub MayRemoveDirectories : Type 0
MayRemoveDirectories = Plays
    ((line 0 ann (Rmdir (codes "/d/")), Refused EINVAL) ∷ (line 0 root_caller (Rmdir (codes "/")), Refused EBUSY)
    ∷ (line 0 ann (Rmdir (codes "/d")), Refused ENOENT) ∷ (line 0 ann (Rmdir (codes "/d/e")), Refused ENOENT)
    ∷ (line 0 bob create_a, done 2 0 1) ∷ (line 0 ann (Rmdir (codes "/a")), Refused ENOTDIR)
    ∷ (line 0 ann (Rmdir (codes "/a/d")), Refused ENOTDIR) ∷ (line 0 bob (Mkdir (codes "/d")), done 3 0 1)
    ∷ (line 0 ann (Mkdir (codes "/d/e")), done 4 0 1) ∷ (line 0 ann (Rmdir (codes "/d")), Refused EPERM)
    ∷ (line 0 bob (Rmdir (codes "/d")), Refused ENOTEMPTY) ∷ (line 0 bob (Rmdir (codes "/d/e")), less 4 0 1)
    ∷ (line 0 ann (Rmdir (codes "/d")), Refused EPERM)
    ∷ (line 0 root_caller (Chown (codes "/") (Some 1000) None None), done 1 0 0)
    ∷ (line 0 ann (Rmdir (codes "/d")), less 3 0 1)
    ∷ (line 0 bob (Mkdir (codes "/d")), done 5 0 1) ∷ (line 0 root_caller (Rmdir (codes "/d")), less 5 0 1) ∷ [])

-- a further name takes nothing, whoever gives it; the file goes with the last of its names, whichever that is
abbrev pub FurtherNames : Type 0
FurtherNames = Plays
    ((line 0 bob create_a, done 2 0 1) ∷ (line 0 bob (fill_a 0 1), done 2 1 0)
    ∷ (line 0 bob (Link (codes "/a") (codes "/b")), done 2 0 0)
    ∷ (line 0 bob (AskStat (codes "/b")), file_with 2 1 1 2)
    ∷ (line 0 ann (Link (codes "/b") (codes "/c")), done 2 0 0)
    ∷ (line 0 bob (AskStat (codes "/a")), file_with 2 1 1 3)
    ∷ (line 0 bob (AskQuota User 1001), record_of 1 1 0 0 None)
    ∷ (line 0 bob (AskStat (codes "/")), directory 1 0 0 2)
    ∷ (line 0 bob (Unlink (codes "/a")), done 2 0 0) ∷ (line 0 ann (Unlink (codes "/c")), Refused EPERM)
    ∷ (line 0 bob (Unlink (codes "/c")), done 2 0 0) ∷ (line 0 bob (AskStat (codes "/b")), file_with 2 1 1 1)
    ∷ (line 0 bob (Unlink (codes "/b")), less 2 1 1) ∷ (line 0 bob (AskStat (codes "/b")), Refused ENOENT) ∷ [])

-- in which order a further name is refused: both paths as they are written, the walk of the first, the place of the
-- second, a directory, the name that is there
abbrev pub MayLink : Type 0
MayLink = Plays
    ((line 0 bob (Link (codes "/") (codes "b")), Refused EINVAL)
    ∷ (line 0 bob (Link (codes "/x") (codes "/y/z")), Refused ENOENT)
    ∷ (line 0 bob create_a, done 2 0 1) ∷ (line 0 bob (Link (codes "/a/x") (codes "/")), Refused ENOTDIR)
    ∷ (line 0 bob (Link (codes "/x") (codes "/a/z")), Refused ENOENT)
    ∷ (line 0 bob (Link (codes "/a") (codes "/x/z")), Refused ENOENT)
    ∷ (line 0 bob (Link (codes "/a") (codes "/a/z")), Refused ENOTDIR)
    ∷ (line 0 bob (Link (codes "/a") (codes "/")), Refused EEXIST)
    ∷ (line 0 bob (Link (codes "/a") (codes "/a")), Refused EEXIST)
    ∷ (line 0 bob (Link (codes "/") (codes "/")), Refused EEXIST)
    ∷ (line 0 bob (Link (codes "/") (codes "/x")), Refused EPERM)
    ∷ (line 0 bob (Link (codes "/") (codes "/a")), Refused EPERM)
    ∷ (line 0 bob (Mkdir (codes "/d")), done 3 0 1) ∷ (line 0 bob (Link (codes "/d") (codes "/a")), Refused EPERM)
    ∷ (line 0 bob (Link (codes "/d") (codes "/d/e")), Refused EPERM)
    ∷ (line 0 bob (Link (codes "/a") (codes "/d")), Refused EEXIST)
    ∷ (line 0 ann (Link (codes "/a") (codes "/d/a")), done 2 0 0)
    ∷ (line 0 bob (AskStat (codes "/d")), directory 3 1001 0 2) ∷ [])

-- two names of one inode both stay; what is replaced goes as by unlink, with its blocks
abbrev pub NamesMove : Type 0
NamesMove = Plays
    ((line 0 bob create_a, done 2 0 1) ∷ (line 0 bob (Link (codes "/a") (codes "/b")), done 2 0 0)
    ∷ (line 0 bob (Rename (codes "/a") (codes "/b")), done 2 0 0)
    ∷ (line 0 bob (AskStat (codes "/a")), file_with 2 0 0 2)
    ∷ (line 0 bob (AskStat (codes "/b")), file_with 2 0 0 2)
    ∷ (line 0 bob (Create (codes "/c")), done 3 0 1)
    ∷ (line 0 bob (Write (codes "/c") 0 (replicate 12288 0x61)), done 3 3 0)
    ∷ (line 0 bob (Rename (codes "/a") (codes "/c")), less 2 3 1)
    ∷ (line 0 bob (AskStat (codes "/c")), file_with 2 0 0 2)
    ∷ (line 0 bob (AskStat (codes "/a")), Refused ENOENT)
    ∷ (line 0 bob (AskQuota User 1001), record_of 0 1 0 0 None)
    ∷ (line 0 bob (Rename (codes "/c") (codes "/a")), done 2 0 0)
    ∷ (line 0 bob (AskStat (codes "/a")), file_with 2 0 0 2)
    ∷ (line 0 bob (AskStat (codes "/c")), Refused ENOENT) ∷ [])

-- a directory takes with it what stands below, and its parents' links; it goes into nothing that stands below it, and
-- replaces nothing but an empty directory
abbrev pub DirectoriesMove : Type 0
DirectoriesMove = Plays
    ((line 0 bob (Mkdir (codes "/d")), done 2 0 1) ∷ (line 0 bob (Rename (codes "/d") (codes "/d/e")), Refused EINVAL)
    ∷ (line 0 bob (Rename (codes "/d") (codes "/d/x/e")), Refused ENOENT)
    ∷ (line 0 bob (Create (codes "/d/f")), done 3 0 1)
    ∷ (line 0 bob (Rename (codes "/d/f") (codes "/d")), Refused EISDIR)
    ∷ (line 0 bob (Rename (codes "/d") (codes "/d/f")), Refused EINVAL)
    ∷ (line 0 bob (Mkdir (codes "/e")), done 4 0 1)
    ∷ (line 0 bob (Rename (codes "/e") (codes "/d/f")), Refused ENOTDIR)
    ∷ (line 0 bob (Rename (codes "/e") (codes "/d")), Refused ENOTEMPTY)
    ∷ (line 0 bob (AskStat (codes "/")), directory 1 0 0 4)
    ∷ (line 0 bob (Rename (codes "/d") (codes "/e")), less 2 0 1)
    ∷ (line 0 bob (AskStat (codes "/")), directory 1 0 0 3)
    ∷ (line 0 bob (AskStat (codes "/e/f")), file_with 3 0 0 1)
    ∷ (line 0 bob (Mkdir (codes "/e/g")), done 5 0 1) ∷ (line 0 bob (AskStat (codes "/e")), directory 2 1001 0 3)
    ∷ (line 0 bob (Rename (codes "/e/g") (codes "/g")), done 5 0 0)
    ∷ (line 0 bob (AskStat (codes "/e")), directory 2 1001 0 2)
    ∷ (line 0 bob (AskStat (codes "/")), directory 1 0 0 4)
    ∷ (line 0 bob (Rename (codes "/g") (codes "/h")), done 5 0 0)
    ∷ (line 0 bob (AskStat (codes "/")), directory 1 0 0 4)
    ∷ (line 0 bob (Rename (codes "/h") (codes "/e/g")), done 5 0 0)
    ∷ (line 0 bob (Rename (codes "/e/g") (codes "/e")), Refused ENOTEMPTY)
    ∷ (line 0 bob (Rename (codes "/e/f") (codes "/f")), done 3 0 0)
    ∷ (line 0 bob (AskStat (codes "/e")), directory 2 1001 0 3)
    ∷ (line 0 bob (AskStat (codes "/")), directory 1 0 0 3) ∷ [])

-- in which order a rename is refused: both paths as they are written, the first walk and its name, the second walk; two
-- names of one inode are done for anybody; then what goes into itself, the kinds, both rights, what is not empty
abbrev pub MayRename : Type 0
MayRename = Plays
    ((line 0 bob (Rename (codes "/") (codes "x")), Refused EINVAL)
    ∷ (line 0 bob (Rename (codes "/x") (codes "/")), Refused ENOENT)
    ∷ (line 0 bob (Rename (codes "/") (codes "/x/y")), Refused EBUSY)
    ∷ (line 0 bob (Rename (codes "/x/y") (codes "/")), Refused ENOENT) ∷ (line 0 bob create_a, done 2 0 1)
    ∷ (line 0 bob (Rename (codes "/a") (codes "/")), Refused EBUSY)
    ∷ (line 0 bob (Rename (codes "/a") (codes "/a/b")), Refused ENOTDIR)
    ∷ (line 0 bob (Rename (codes "/a/b") (codes "/x/y")), Refused ENOTDIR)
    ∷ (line 0 ann (Rename (codes "/a") (codes "/a")), done 2 0 0)
    ∷ (line 0 ann (Rename (codes "/a") (codes "/b")), Refused EPERM)
    ∷ (line 0 ann (Link (codes "/a") (codes "/b")), done 2 0 0)
    ∷ (line 0 ann (Rename (codes "/a") (codes "/b")), done 2 0 0)
    ∷ (line 0 ann (Mkdir (codes "/d")), done 3 0 1) ∷ (line 0 ann (Create (codes "/d/c")), done 4 0 1)
    ∷ (line 0 bob (Mkdir (codes "/d/e")), done 5 0 1)
    ∷ (line 0 bob (Rename (codes "/d") (codes "/d/e/x")), Refused EINVAL)
    ∷ (line 0 bob (Rename (codes "/d") (codes "/a")), Refused ENOTDIR)
    ∷ (line 0 bob (Rename (codes "/a") (codes "/d")), Refused EISDIR)
    ∷ (line 0 bob (Rename (codes "/a") (codes "/d/c")), Refused EPERM)
    ∷ (line 0 ann (Rename (codes "/d/c") (codes "/a")), Refused EPERM)
    ∷ (line 0 bob (Rename (codes "/d/e") (codes "/d")), Refused EPERM)
    ∷ (line 0 ann (Rename (codes "/d/e") (codes "/d")), Refused ENOTEMPTY)
    ∷ (line 0 root_caller (Rename (codes "/d/c") (codes "/a")), done 4 0 0)
    ∷ (line 0 bob (AskStat (codes "/b")), file_with 2 0 0 1) ∷ [])
