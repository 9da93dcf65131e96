-- The laws of projects: what is made takes that of its directory, and a kind of which nobody is declared does nothing.
use Rattle.std.specs.Prelude.{◌≡◌, ℕ, Bool, true, false, List, All, Option, Some, None, is_some}
use Rattle.std.specs.Map.{values_of}
use Rattle.qrules.specs.declared.kind.Kind.{Kind}
use Rattle.qrules.specs.declared.over.Over.{Over}
use Rattle.qplain.specs.declared.call.Call.{Call}
use Rattle.qplain.specs.declared.call.Call.TheVariants.{Chown}
use Rattle.qplain.specs.declared.refusal.Refusal.TheVariants.{EDQUOT}
use Rattle.qplain.specs.declared.reply.Reply.TheVariants.{Refused}
use Rattle.qplain.specs.Caller.{Caller}
use Rattle.qplain.specs.State.{Inode, State, inode_at, named}
use Rattle.qplain.specs.Use.{owner}
use Rattle.qplain.specs.Step.{step}
use Rattle.qplain_laws.specs.Laws.{IsLawful, has_kind}

-- some name of the inode of this number stands in a directory that was there before, and has this project or none
abbrev pub HasProjectOfItsPlace : State → State → ℕ → Option ℕ → Type 0
HasProjectOfItsPlace old new number project =
    (dir : ℕ) × (parent : Inode) × (name : List ℕ) × (inode_at old dir ≡ Some parent) × (parent.dir ≡ true)
    × (named new dir name ≡ Some number) × (project ≡ parent.owners.project)

-- a new inode has the project of the directory in which its name stands, and none where that has none
abbrev pub InheritsProject : State → State → Type 0
InheritsProject old new = (number : ℕ) (after : Inode) → inode_at old number ≡ None → inode_at new number ≡ Some after
    → HasProjectOfItsPlace old new number after.owners.project

-- so it is after every call, whoever makes it
abbrev pub ProjectsAreInherited : Type 0
ProjectsAreInherited = (S : State) (cred : Caller) (moment : ℕ) (call : Call) → IsLawful S
    → InheritsProject S (step S cred moment call).0

-- the call is a chown that names a project
abbrev pub gives_project : Call → Bool
gives_project (Chown path uid gid project) = is_some project
gives_project call = false

-- every inode that stands before and after has the same project
pub record KeepsProjects (old new : State) : Type 0 where
  pub project : (number : ℕ) (inode after : Inode) → inode_at old number ≡ Some inode → inode_at new number ≡ Some after
      → after.owners.project ≡ inode.owners.project

-- so it is after every other call, whoever calls: a link and a rename keep the project
abbrev pub ProjectsStay : Type 0
ProjectsStay = (S : State) (cred : Caller) (moment : ℕ) (call : Call) → IsLawful S → gives_project call ≡ false
    → KeepsProjects S (step S cred moment call).0

-- in a lawful state nobody of a kind that is not declared owns an inode
abbrev pub UndeclaredOwnNothing : Type 0
UndeclaredOwnNothing = (S : State) (kind : Kind) → IsLawful S → has_kind S kind ≡ false
    → All (λ inode. owner kind inode.owners ≡ None) (values_of S.inodes)

-- no call is refused for the quota of a kind that is not declared
abbrev pub UndeclaredRefuseNothing : Type 0
UndeclaredRefuseNothing =
    (S : State) (cred : Caller) (moment : ℕ) (call : Call) (kind : Kind) (over : Over)
    → (step S cred moment call).1 ≡ Refused (EDQUOT kind over) → has_kind S kind ≡ true

-- no call declares a kind, and none takes one back
abbrev pub KindsStay : Type 0
KindsStay = (S : State) (cred : Caller) (moment : ℕ) (call : Call) (kind : Kind)
    → has_kind (step S cred moment call).0 kind ≡ has_kind S kind
