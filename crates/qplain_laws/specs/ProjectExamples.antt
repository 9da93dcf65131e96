-- Worked examples of projects, over the example setup with two of them: pairs of a line and its reply.
use Rattle.std.specs.Prelude.{◌≡◌, ℕ, ◌+◌, ◌^◌, List, [], ◌∷◌, map, Option, Some, None, codes, replicate}
use Rattle.qrules.specs.declared.kind.Kind.TheVariants.{User, Group, Project}
use Rattle.qrules.specs.declared.limits.Limits.{Limits}
use Rattle.qrules.specs.declared.over.Over.TheVariants.{BlockHard, BlockSoft, InodeHard}
use Rattle.qplain.specs.declared.call.Call.{Call}
use Rattle.qplain.specs.declared.call.Call.TheVariants.{Create, Mkdir, Write, Link, Unlink, Rename, Chown, SetQuota}
use Rattle.qplain.specs.declared.call.Call.TheVariants.{Quota as AskQuota}
use Rattle.qplain.specs.declared.line.Line.{Line}
use Rattle.qplain.specs.declared.principal.Principal.{Principal}
use Rattle.qplain.specs.declared.reply.Reply.{Reply}
use Rattle.qplain.specs.declared.reply.Reply.TheVariants.{Refused}
use Rattle.qplain.specs.declared.refusal.Refusal.TheVariants.{EDQUOT, EINVAL, ENOENT, EPERM, ESRCH}
use Rattle.qplain.specs.declared.setup.SetupFault.{SetupFault}
use Rattle.qplain.specs.declared.setup.SetupFault.TheVariants.{Range, Duplicate, NoZero}
use Rattle.qplain.specs.Setups.{Setting, setup_fault}
use Rattle.qplain.specs.State.{start}
use Rattle.qplain.specs.Journal.{board_of, play}
use Rattle.qplain_laws.specs.Examples.{ann, bob, create_a, done, example, free, journal, line, principal, record_of}
use Rattle.qplain_laws.specs.Examples.{replies, replies_from, root_caller}
use Rattle.qplain_laws.specs.MoreExamples.{less}

-- the example setup with these projects
abbrev pub example_with : List Principal → Setting
example_with projects = record example { projects = projects }

-- why a setup with these projects is refused, if it is
abbrev pub fault_with : List Principal → Option SetupFault
fault_with projects = setup_fault (example_with projects)

-- the project of id 0
abbrev pub project_root : Principal
project_root = principal 0 (codes "root") free

-- the example setup with the projects root and web, which may have 8 KiB
abbrev pub with_projects : Setting
with_projects = example_with (project_root ∷ principal 7 (codes "web") (record free { block_hard = 8 }) ∷ [])

-- it is granted, and so is one with no projects
abbrev pub ProjectsAreGranted : Type 0
ProjectsAreGranted = (setup_fault with_projects ≡ None) × (fault_with [] ≡ None)

-- where there are projects, 0 is one of them, no two share an id or a name, limits are in range, and 65 are too many,
-- which is told before a duplicate
abbrev pub ProjectsAreTested : Type 0
ProjectsAreTested =
    (fault_with (principal 7 (codes "web") free ∷ []) ≡ Some NoZero)
    × (fault_with (principal 0 (codes "root") free ∷ principal 0 (codes "www") free ∷ []) ≡ Some Duplicate)
    × (fault_with (project_root ∷ principal 7 (codes "root") free ∷ []) ≡ Some Duplicate)
    × (fault_with (principal 0 (codes "root") (record free { block_hard = 2 ^ 40 + 1 }) ∷ []) ≡ Some Range)
    × (fault_with (replicate 64 project_root) ≡ Some Duplicate)
    × (fault_with (replicate 65 project_root) ≡ Some Range)

-- the script gives these replies on a new store with projects, line by line
abbrev pub PlaysThere : List (Line × Reply) → Type 0
PlaysThere script = replies_from (start with_projects) (map (λ p. p.0) script) ≡ map (λ p. p.1) script

-- write so many bytes into a file at the offset
abbrev pub fill_at : List ℕ → ℕ → ℕ → Call
fill_at path off count = Write path off (replicate count 0x61)

-- bob writes so many bytes into /w/a at the offset
abbrev pub fill : ℕ → ℕ → Line
fill off count = line 0 bob (fill_at (codes "/w/a") off count)

-- the superuser asks for the record of a project
abbrev pub ask_project : ℕ → Line
ask_project id = line 0 root_caller (AskQuota Project id)

-- the superuser sets the limits of a project
abbrev pub limit_project : ℕ → Limits → Line
limit_project id limits = line 0 root_caller (SetQuota Project id limits)

-- a caller gives the inode of this path another project, and no other owner
abbrev pub into_project : List ℕ → ℕ → Call
into_project path id = Chown path None None (Some id)

-- the superuser makes the directory /w and gives it to the project 7
abbrev pub Begun : List (Line × Reply) → List (Line × Reply)
Begun script =
    (line 0 root_caller (Mkdir (codes "/w")), done 2 0 1)
    ∷ (line 0 root_caller (into_project (codes "/w") 7), done 2 0 0) ∷ script

-- a project is inherited, charged, asked for and given by the superuser alone, and kept by a rename
abbrev pub ProjectOfADirectory : Type 0
ProjectOfADirectory = PlaysThere (Begun
    ((line 0 bob (Create (codes "/w/a")), done 3 0 1) ∷ (fill 0 8192, done 3 2 0)
    ∷ (fill 8192 4096, Refused (EDQUOT Project BlockHard))
    ∷ (ask_project 7, record_of 2 2 0 8 None) ∷ (line 0 bob (AskQuota Project 7), Refused EPERM)
    ∷ (line 0 bob (Rename (codes "/w/a") (codes "/b")), done 3 0 0) ∷ (ask_project 7, record_of 2 2 0 8 None)
    ∷ (line 0 bob (Create (codes "/c")), done 4 0 1)
    ∷ (line 0 bob (into_project (codes "/b") 0), Refused EPERM)
    ∷ (line 0 root_caller (into_project (codes "/b") 8), Refused EINVAL)
    ∷ (line 0 root_caller (Chown (codes "/b") (Some 1000) (Some 100) (Some 0)), done 3 0 0)
    ∷ (ask_project 7, record_of 0 1 0 8 None) ∷ (ask_project 0, record_of 2 3 0 0 None)
    ∷ (line 0 root_caller (AskQuota User 1000), record_of 2 1 8 16 None) ∷ []))

-- a directory inherits too, and takes its project with it; a link keeps a file's, which is charged and freed by its
-- names anywhere; inodes of a project are limited as well
abbrev pub ProjectsAreKept : Type 0
ProjectsAreKept = PlaysThere (Begun
    ((line 0 bob (Mkdir (codes "/w/d")), done 3 0 1) ∷ (line 0 bob (Create (codes "/w/d/f")), done 4 0 1)
    ∷ (line 0 bob (Mkdir (codes "/e")), done 5 0 1)
    ∷ (ask_project 7, record_of 0 3 0 8 None) ∷ (ask_project 0, record_of 0 2 0 0 None)
    ∷ (line 0 bob (Link (codes "/w/d/f") (codes "/e/f")), done 4 0 0)
    ∷ (line 0 bob (Unlink (codes "/w/d/f")), done 4 0 0)
    ∷ (line 0 bob (fill_at (codes "/e/f") 0 4096), done 4 1 0) ∷ (ask_project 7, record_of 1 3 0 8 None)
    ∷ (line 0 bob (Rename (codes "/w/d") (codes "/e/d")), done 3 0 0)
    ∷ (line 0 bob (Create (codes "/e/d/g")), done 6 0 1) ∷ (ask_project 7, record_of 1 4 0 8 None)
    ∷ (line 0 bob (Unlink (codes "/e/f")), less 4 1 1) ∷ (ask_project 7, record_of 0 3 0 8 None)
    ∷ (limit_project 7 (record free { inode_hard = 3 }), done 0 0 0)
    ∷ (line 0 bob (Create (codes "/w/x")), Refused (EDQUOT Project InodeHard))
    ∷ (line 0 bob (Create (codes "/e/x")), done 7 0 1) ∷ []))

-- the user is tested before the group, and the group before the project, whose limit the superuser passes
abbrev pub ProjectComesLast : Type 0
ProjectComesLast = PlaysThere (Begun
    ((line 0 root_caller (SetQuota User 1001 (record free { block_hard = 4 })), done 0 0 0)
    ∷ (line 0 root_caller (SetQuota Group 0 (record free { block_hard = 4 })), done 0 0 0)
    ∷ (limit_project 7 (record free { block_hard = 4 }), done 0 0 0)
    ∷ (line 0 bob (Create (codes "/w/a")), done 3 0 1) ∷ (fill 0 8192, Refused (EDQUOT User BlockHard))
    ∷ (line 0 root_caller (SetQuota User 1001 free), done 0 0 0) ∷ (fill 0 8192, Refused (EDQUOT Group BlockHard))
    ∷ (line 0 root_caller (SetQuota Group 0 free), done 0 0 0) ∷ (fill 0 8192, Refused (EDQUOT Project BlockHard))
    ∷ (line 0 root_caller (fill_at (codes "/w/a") 0 8192), done 3 2 0)
    ∷ (ask_project 7, record_of 2 2 0 4 None) ∷ []))

-- two blocks are 8 KiB, over a soft limit of 4: the project's grace runs from 1000 to 1100
abbrev pub GraceOfAProject : Type 0
GraceOfAProject = PlaysThere (Begun
    ((limit_project 7 (record free { block_soft = 4; block_hard = 16 }), done 0 0 0)
    ∷ (line 0 bob (Create (codes "/w/a")), done 3 0 1)
    ∷ (line 1000 bob (fill_at (codes "/w/a") 0 8192), done 3 2 0) ∷ (ask_project 7, record_of 2 2 4 16 (Some 1100))
    ∷ (line 1099 bob (fill_at (codes "/w/a") 8192 4096), done 3 1 0)
    ∷ (line 1100 bob (fill_at (codes "/w/a") 12288 4096), Refused (EDQUOT Project BlockSoft))
    ∷ (ask_project 7, record_of 3 2 4 16 (Some 1100)) ∷ []))

-- who may name a project, and in which order that is refused: an id that is not declared, the path, the right; the
-- owner of an inode may name its present project, and nobody but the superuser another
abbrev pub MayNameProjects : Type 0
MayNameProjects = PlaysThere
    ((line 0 bob (SetQuota Project 7 free), Refused EPERM) ∷ (line 0 bob (SetQuota Project 8 free), Refused EPERM)
    ∷ (limit_project 8 free, Refused ESRCH)
    ∷ (limit_project 7 (record free { block_soft = 2 ^ 40 + 1 }), Refused EINVAL)
    ∷ (line 0 bob (AskQuota Project 0), Refused EPERM) ∷ (line 0 bob (AskQuota Project 8), Refused EPERM)
    ∷ (ask_project 8, Refused ESRCH)
    ∷ (line 0 bob (into_project (codes "/a") 8), Refused EINVAL)
    ∷ (line 0 bob (into_project (codes "/a") 7), Refused ENOENT)
    ∷ (line 0 bob create_a, done 2 0 1) ∷ (line 0 ann (into_project (codes "/a") 0), Refused EPERM)
    ∷ (line 0 bob (into_project (codes "/a") 0), done 2 0 0)
    ∷ (line 0 bob (into_project (codes "/a") 7), Refused EPERM)
    ∷ (line 0 bob (Chown (codes "/a") None (Some 100) (Some 7)), Refused EPERM)
    ∷ (line 0 bob (Chown (codes "/a") None (Some 100) (Some 0)), done 2 0 0)
    ∷ (line 0 root_caller (into_project (codes "/a") 7), done 2 0 0)
    ∷ (ask_project 7, record_of 0 1 0 8 None) ∷ (ask_project 0, record_of 0 1 0 0 None)
    ∷ (line 0 bob (into_project (codes "/a") 0), Refused EPERM)
    ∷ (line 0 bob (Chown (codes "/a") None (Some 0) None), done 2 0 0)
    ∷ (ask_project 7, record_of 0 1 0 8 None) ∷ [])

-- the board has users before groups and groups before projects, and all three add up to its totals
abbrev pub BoardOfProjects : Type 0
BoardOfProjects =
    let board = board_of (play (start with_projects) journal) 3 in
    (board.blocks ≡ 1) × (board.inodes ≡ 2)
    × (map (λ row. row.blocks) board.rows ≡ 0 ∷ 0 ∷ 1 ∷ 1 ∷ 0 ∷ 1 ∷ 0 ∷ [])
    × (map (λ row. row.inodes) board.rows ≡ 1 ∷ 0 ∷ 1 ∷ 2 ∷ 0 ∷ 2 ∷ 0 ∷ [])

-- where none is declared, a project is an undeclared id, and none is anybody's own
abbrev pub NoProjects : Type 0
NoProjects =
    replies (line 0 bob create_a ∷ line 0 bob (into_project (codes "/a") 0)
    ∷ ask_project 0 ∷ line 0 ann (AskQuota Project 0)
    ∷ limit_project 0 free ∷ line 0 ann (SetQuota Project 0 free) ∷ [])
    ≡ done 2 0 1 ∷ Refused EINVAL ∷ Refused ESRCH ∷ Refused EPERM ∷ Refused ESRCH ∷ Refused EPERM ∷ []
