-- The words for kinds of principals and for limits.
use Rattle.std.specs.Prelude.{ℕ, List, codes}
use Rattle.qrules.specs.declared.kind.Kind.{Kind}
use Rattle.qrules.specs.declared.kind.Kind.TheVariants.{User, Group, Project}
use Rattle.qrules.specs.declared.over.Over.{Over}
use Rattle.qrules.specs.declared.over.Over.TheVariants.{InodeHard, InodeSoft, BlockHard, BlockSoft}

-- a kind's word
abbrev pub kind_text : Kind → List ℕ
kind_text User = codes "user"
kind_text Group = codes "group"
kind_text Project = codes "project"

-- a limit's words
abbrev pub over_text : Over → List ℕ
over_text InodeHard = codes "inode-hard"
over_text InodeSoft = codes "inode-soft"
over_text BlockHard = codes "block-hard"
over_text BlockSoft = codes "block-soft"
