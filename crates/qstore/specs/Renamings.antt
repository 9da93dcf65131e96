-- Another name for what has one. No public clause cites this module.
use Rattle.std.specs.Prelude.{◌≡◌, ℕ, ◌==◌, true, false, List, Some}
use Rattle.std.specs.Option.{IsSome}
use Rattle.qplain.specs.Renames.{passes, renamed}
use Rattle.qplain.specs.State.{State, inode_at, is_directory, named}
use Rattle.qstore_walk.specs.declared.renames.Renaming.{Renaming}

-- what has the first name is there, and the second is in a directory, and leads to another inode or to none
pub record IsRenaming (S : State) (name : List ℕ) (new : Renaming) : Type 0 where
  pub led : named S new.dir name ≡ Some new.number
  pub there : IsSome (inode_at S new.number)
  pub directory : is_directory S new.to.dir ≡ true
  pub leads_to : new.to.leads_to ≡ named S new.to.dir new.to.name.now
  pub other : passes (λ number. number == new.number) new.to.leads_to ≡ false

-- the state in which it has the second name in place of the first
abbrev pub with_new_name : State → List ℕ → Renaming → State
with_new_name S name new = renamed S new.dir name new.to.dir new.to.name.now new.number
