-- Projects that have no limit change nothing but what calls that name projects are told of them.
use Rattle.std.specs.Prelude.{◌≡◌, ℕ, Bool, true, false, not, List, [], filter, map, All, None, is_some}
use Rattle.qrules.specs.declared.kind.Kind.{Kind}
use Rattle.qrules.specs.declared.kind.Kind.TheVariants.{Project}
use Rattle.qrules.specs.declared.limits.Limits.{Limits}
use Rattle.qrules.specs.Kinds.{is_same_kind}
use Rattle.qplain.specs.declared.call.Call.{Call}
use Rattle.qplain.specs.declared.call.Call.TheVariants.{Chown, SetQuota, Quota}
use Rattle.qplain.specs.declared.entry.Entry.{Entry}
use Rattle.qplain.specs.declared.principal.Principal.{Principal}
use Rattle.qplain.specs.Caller.{Caller}
use Rattle.qplain.specs.Setups.{Setting}
use Rattle.qplain.specs.State.{Inode, State, start}
use Rattle.qplain.specs.Step.{step}
use Rattle.qplain.specs.Journal.{IsLegal}

-- the kind is that of projects
abbrev pub is_project : Kind → Bool
is_project kind = is_same_kind Project kind

-- the call names a project: a chown to one, or one's setquota or quota
abbrev pub names_project : Call → Bool
names_project (Chown path uid gid project) = is_some project
names_project (SetQuota kind id limits) = is_project kind
names_project (Quota kind id) = is_project kind
names_project call = false

-- the inode, of no project
abbrev pub of_no_project : Inode → Inode
of_no_project inode =
    record inode { owners = record { uid = inode.owners.uid; gid = inode.owners.gid; project = None } }

-- the state as if projects were not mentioned: none is declared, and no inode has one
abbrev pub without_projects : State → State
without_projects S = record S {
  holders = filter (λ h. not (is_project h.kind)) S.holders;
  inodes = map (λ e. (e.0, of_no_project e.1)) S.inodes;
}

-- the two states differ in their projects alone, if at all
abbrev pub AreAlike : State → State → Type 0
AreAlike S T = without_projects S ≡ without_projects T

-- no limit at all
abbrev pub unlimited : Limits
unlimited = record { block_soft = 0; block_hard = 0; inode_soft = 0; inode_hard = 0 }

-- no project has a limit
abbrev pub HasUnlimitedProjects : State → Type 0
HasUnlimitedProjects S = All (λ h. is_project h.kind ≡ true → h.limits ≡ unlimited) S.holders

-- two states in which no project has a limit, answered alike by a call, which leaves two such states that are alike
pub record StaysAlike (S T : State) (cred : Caller) (moment : ℕ) (call : Call) : Type 0 where
  pub replies : (step S cred moment call).1 ≡ (step T cred moment call).1
  pub states : AreAlike (step S cred moment call).0 (step T cred moment call).0
  pub one : HasUnlimitedProjects (step S cred moment call).0
  pub other : HasUnlimitedProjects (step T cred moment call).0

-- states without a limit for a project that are alike are answered alike by a call that names no project, and so
-- they stay: one of them may declare projects and have inodes of theirs, and the other none
abbrev pub ProjectsChangeNothing : Type 0
ProjectsChangeNothing =
    (S T : State) (cred : Caller) (moment : ℕ) (call : Call) → AreAlike S T
    → HasUnlimitedProjects S → HasUnlimitedProjects T → names_project call ≡ false → StaysAlike S T cred moment call

-- no principal of these has a limit
abbrev pub AreUnlimited : List Principal → Type 0
AreUnlimited principals = All (λ p. p.limits ≡ unlimited) principals

-- the same setup, that declares no project
abbrev pub declaring_none : Setting → Setting
declaring_none s = record s { projects = [] }

-- new stores of a setup whose projects have no limit, and of the same setup without them, are alike and without a limit
-- for a project
pub record StartsAlike (s : Setting) : Type 0 where
  pub states : AreAlike (start s) (start (declaring_none s))
  pub one : HasUnlimitedProjects (start s)
  pub other : HasUnlimitedProjects (start (declaring_none s))

-- so it is of every setup whose projects have no limit
abbrev pub StartsAreAlike : Type 0
StartsAreAlike = (s : Setting) → AreUnlimited s.projects → StartsAlike s

-- so a journal whose calls name no project is legal with such projects exactly where it is legal without
abbrev pub JournalsAreAlike : Type 0
JournalsAreAlike =
    (s : Setting) (journal : List Entry) → AreUnlimited s.projects
    → All (λ e. names_project e.call ≡ false) journal
    → (IsLegal (start s) journal → IsLegal (start (declaring_none s)) journal)
    × (IsLegal (start (declaring_none s)) journal → IsLegal (start s) journal)
