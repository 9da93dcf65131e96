-- Who asks, and what each decision rests on. No public clause cites this module.
use Rattle.std.specs.Prelude.{◌≡◌, ℕ, true, false, List, Option, Some, None, Bool, ◌&&◌}
use Rattle.qrules.specs.declared.kind.Kind.TheVariants.{User, Group, Project}
use Rattle.qplain.specs.declared.owners.Owners.{Owners}
use Rattle.qplain.specs.declared.call.Call.{Call}
use Rattle.qplain.specs.declared.refusal.Refusal.{Refusal}
use Rattle.qplain.specs.Calls.{has_bad_number, paths_of, refusal_of_arguments}
use Rattle.qplain.specs.Known.{is_declared}
use Rattle.qplain.specs.Caller.{Caller}
use Rattle.qplain.specs.State.{State, is_directory, named}
use Rattle.qstore_accounts.specs.declared.claim.Slots.{Slots}
use Rattle.qstore_accounts.specs.Books.{AreBooksOf, Books, HasSlots}
use Rattle.qstore_accounts.specs.KeptHolders.{IsSlotFor}
use Rattle.qstore.specs.declared.request.Request.{Request}
use Rattle.qstore_walk.specs.Owners.{caller_owners}
use Rattle.qstore_walk.specs.Paths.{paths_fault}
use Rattle.qstore.specs.Stored.{IsStorable, Stored}

-- the state is storable, and the books are its own
pub record IsConsistent (s : Stored) : Type 0 where
  pub sound : IsStorable s.state
  pub books : AreBooksOf s.state s.books

-- the project is declared, if there is one
abbrev pub is_declared_if_any : State → Option ℕ → Bool
is_declared_if_any S None = true
is_declared_if_any S (Some id) = is_declared S Project id

-- the owners are declared
abbrev pub are_declared : State → Owners → Bool
are_declared S owners =
    is_declared S User owners.uid && is_declared S Group owners.gid && is_declared_if_any S owners.project

-- the store is consistent, and the caller is declared, whose records stand in it where the request says
pub record CanDecide (s : Stored) (request : Request) : Type 0 where
  pub whole : IsConsistent s
  pub known : are_declared s.state (caller_owners request.cred.now None) ≡ true
  pub callers : HasSlots s.books request.callers (caller_owners request.cred.now None)

-- the slots are those of the same user and group, and of this project, if there is one
pub record IsWithProject (b : Books) (slots : Slots) (id : Option ℕ) (more : Slots) : Type 0 where
  pub user : more.user ≡ slots.user
  pub group : more.group ≡ slots.group
  pub project : IsSlotFor b.projects more.project id

-- the directory is there, and has no such name
pub record IsFree (S : State) (dir : ℕ) (name : List ℕ) : Type 0 where
  pub directory : is_directory S dir ≡ true
  pub absent : named S dir name ≡ None

-- the call has a bad number, or none, as it is said, and its paths have this fault
pub record IsWritten (S : State) (bad : Bool) (fault : Option Refusal) (call : Call) : Type 0 where
  pub numbers : has_bad_number S call ≡ bad
  pub paths : paths_fault (paths_of call) ≡ fault

-- the request is the caller's at the moment, the store can decide it, and each call that is written so is as it may be
pub record IsRequestFor (s : Stored) (cred : Caller) (moment : ℕ) (bad : Bool) (fault : Option Refusal)
    (request : Request) : Type 0 where
  pub cred_is : request.cred.now ≡ cred
  pub moment_is : request.moment ≡ moment
  pub can : CanDecide s request
  pub allowed : (call : Call) → IsWritten s.state bad fault call → refusal_of_arguments s.state cred moment call ≡ None
  pub numbers : bad ≡ false
