-- What a call that is done has done: where its paths lead before and after, and what stands there.
use Rattle.std.specs.Prelude.{◌≡◌, ◌⊎◌, ℕ, List, Some, None, Ok, Err}
use Rattle.qblocks.specs.File.{after_truncate, after_write}
use Rattle.qplain.specs.declared.call.Call.{Call}
use Rattle.qplain.specs.declared.call.Call.TheVariants.{Create, Mkdir, Write, Truncate, Link, Unlink, Rmdir, Rename}
use Rattle.qplain.specs.declared.call.Call.TheVariants.{Chown, SetQuota, SetGrace}
use Rattle.qplain.specs.declared.change.Change.{Change}
use Rattle.qplain.specs.declared.owners.Owners.{Owners}
use Rattle.qplain.specs.declared.refusal.Refusal.TheVariants.{ENOENT}
use Rattle.qplain.specs.declared.reply.Reply.TheVariants.{Done}
use Rattle.qplain.specs.Caller.{Caller}
use Rattle.qplain.specs.State.{Inode, State, inode_at, named, new_directory, new_file}
use Rattle.qplain.specs.Walk.{components, last_name, parent, walk}
use Rattle.qplain.specs.Names.{owners_by}
use Rattle.qplain.specs.Owners.{renewed, with_owners}
use Rattle.qplain.specs.Step.{step}
use Rattle.qplain_laws.specs.Changes.{limits_at}
use Rattle.qplain_laws.specs.Laws.{IsLawful}

-- the path leads to the inode of this number
abbrev pub LeadsTo : State → List ℕ → ℕ → Type 0
LeadsTo S path number = walk S (components path) ≡ Ok number

-- the path leads to a directory in which its last name is not there
abbrev pub LeadsNowhere : State → List ℕ → Type 0
LeadsNowhere S path = walk S (components path) ≡ Err ENOENT

-- the path's last name stands no more in the directory in which it stood
abbrev pub HasLeft : State → State → List ℕ → Type 0
HasLeft old new path = (dir : ℕ) (name : List ℕ) → parent old (components path) ≡ Ok dir
    → last_name (components path) ≡ Some name → named new dir name ≡ None

-- the path led to an inode, under whose number its changed form stands
abbrev pub IsChanged : State → State → List ℕ → ℕ → (Inode → Inode) → Type 0
IsChanged old new path number change =
    LeadsTo old path number × (inode : Inode) × (inode_at old number ≡ Some inode)
    × (inode_at new number ≡ Some (change inode))

-- the path, whose name had a parent, leads to an inode of this number, with the owners of what the caller makes there;
-- that the number was free this does not say
abbrev pub IsMade : Caller → State → State → List ℕ → ℕ → (Owners → Inode) → Type 0
IsMade cred old new path number make =
    LeadsTo new path number × (dir : ℕ) × (parent old (components path) ≡ Ok dir)
    × (inode_at new number ≡ Some (make (owners_by old cred dir)))

-- what a caller's call has done that was answered `Done` with this number: a rename of a path to another that led to
-- the same inode leaves both, and a call that only asks is never done
abbrev pub HasDone : Caller → State → Call → ℕ → State → Type 0
HasDone cred old (Create path) number new = IsMade cred old new path number new_file
HasDone cred old (Mkdir path) number new = IsMade cred old new path number new_directory
HasDone cred old (Write path off bytes) number new =
    IsChanged old new path number (λ inode. record inode { file = after_write inode.file off bytes })
HasDone cred old (Truncate path size) number new =
    IsChanged old new path number (λ inode. record inode { file = after_truncate inode.file size })
HasDone cred old (Link from to) number new = LeadsTo old from number × LeadsTo new from number × LeadsTo new to number
HasDone cred old (Unlink path) number new = LeadsTo old path number × LeadsNowhere new path
HasDone cred old (Rmdir path) number new = LeadsTo old path number × LeadsNowhere new path
HasDone cred old (Rename from to) number new =
    LeadsTo old from number × LeadsTo new to number × (LeadsTo old to number ⊎ HasLeft old new from)
HasDone cred old (Chown path uid gid project) number new =
    IsChanged old new path number (λ inode. with_owners inode (renewed uid gid project inode.owners))
HasDone cred old (SetQuota kind id limits) number new = limits_at new kind id ≡ Some limits
HasDone cred old (SetGrace graces) number new = new.graces ≡ graces
HasDone cred old call number new = ⊥

-- from a lawful state a call that is done has done what it is named for
abbrev pub DoneIsDone : Type 0
DoneIsDone =
    (S : State) (cred : Caller) (moment : ℕ) (call : Call) (number : ℕ) (change : Change) → IsLawful S
    → (step S cred moment call).1 ≡ Done number change → HasDone cred S call number (step S cred moment call).0
