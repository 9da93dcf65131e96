-- What one call changes, and what it leaves as it was.
use Rattle.std.specs.Prelude.{◌≡◌, ◌≢◌, ℕ, ◌+◌, ◌*◌, Bool, true, false, ◌&&◌, ◌==◌, List, [], ◌∷◌, length, All, Option}
use Rattle.std.specs.Prelude.{Some, None, Ok}
use Rattle.std.specs.List.{find}
use Rattle.std.specs.Option.{option_map}
use Rattle.qrules.specs.declared.kind.Kind.{Kind}
use Rattle.qrules.specs.Kinds.{is_same_kind, kinds}
use Rattle.qrules.specs.declared.limits.Limits.{Limits}
use Rattle.qrules.specs.declared.over.Over.{Over}
use Rattle.qrules.specs.Sort.{Sort, Inodes, Blocks, grace_of}
use Rattle.qrules.specs.Account.{Account}
use Rattle.qplain.specs.declared.call.Call.{Call}
use Rattle.qplain.specs.declared.call.Call.TheVariants.{Create, Mkdir, Read, Stat, Link, Unlink, Rmdir, Rename, Chown}
use Rattle.qplain.specs.declared.call.Call.TheVariants.{SetQuota, SetGrace, Quota}
use Rattle.qplain.specs.declared.placed_row.TheConstants.{MAX_CHANGED_ROWS}
use Rattle.qplain.specs.declared.refusal.Refusal.TheVariants.{EDQUOT}
use Rattle.qplain.specs.declared.reply.Reply.TheVariants.{Refused}
use Rattle.qplain.specs.Caller.{Caller, is_superuser}
use Rattle.qplain.specs.State.{Holder, State, inode_at, named}
use Rattle.qplain.specs.Use.{account_of, use_of}
use Rattle.qplain.specs.Walk.{components, last_name, parent}
use Rattle.qplain.specs.Known.{is_holder}
use Rattle.qplain.specs.Attempt.{no_change}
use Rattle.qplain.specs.Journal.{change_of}
use Rattle.qplain.specs.Step.{step}
use Rattle.qplain_laws.specs.Laws.{IsLawful}
use Rattle.qplain_laws.specs.Replaces.{charge_of}

-- the call only asks: read, stat or quota
abbrev pub only_asks : Call → Bool
only_asks (Read path off len) = true
only_asks (Stat path) = true
only_asks (Quota kind id) = true
only_asks call = false

-- a call that only asks leaves the state as it is
abbrev pub AskingChangesNothing : Type 0
AskingChangesNothing = (S : State) (cred : Caller) (moment : ℕ) (call : Call) → only_asks call ≡ true
    → (step S cred moment call).0 ≡ S

-- no quota is in the superuser's way
abbrev pub SuperuserMeetsNoQuota : Type 0
SuperuserMeetsNoQuota =
    (S : State) (cred : Caller) (moment : ℕ) (call : Call) (kind : Kind) (over : Over) → is_superuser cred ≡ true
    → (step S cred moment call).1 ≢ Refused (EDQUOT kind over)

-- the grace end of this sort that stands in a holder, if there is one
abbrev pub end_of : Sort → Option Holder → Option ℕ
end_of sort None = None
end_of Inodes (Some h) = h.inode_end
end_of Blocks (Some h) = h.block_end

-- the moment at which the principal's grace of this sort ends, where one runs
abbrev pub end_at : State → Kind → ℕ → Sort → Option ℕ
end_at S kind id sort = end_of sort (find (is_holder kind id) S.holders)

-- the call sets this principal's limits
abbrev pub sets_limits_of : Kind → ℕ → Call → Bool
sets_limits_of kind id (SetQuota other number limits) = is_same_kind other kind && number == id
sets_limits_of kind id call = false

-- the call sets the graces
abbrev pub sets_graces : Call → Bool
sets_graces (SetGrace graces) = true
sets_graces call = false

-- the limits of a principal, if there is such a principal
abbrev pub limits_at : State → Kind → ℕ → Option Limits
limits_at S kind id = option_map (λ h. h.limits) (find (is_holder kind id) S.holders)

-- no call but setgrace changes the graces, and none but a setquota of a principal changes that one's limits
abbrev pub SettingsStay : Type 0
SettingsStay =
    (S : State) (cred : Caller) (moment : ℕ) (call : Call)
    → (sets_graces call ≡ false → (step S cred moment call).0.graces ≡ S.graces)
    × ((kind : Kind) (id : ℕ) → sets_limits_of kind id call ≡ false
    → limits_at (step S cred moment call).0 kind id ≡ limits_at S kind id)

-- a grace that runs before and after ends when it would have, and one that begins ends at this moment
pub record RunsOn (before after : Option ℕ) (begun : ℕ) : Type 0 where
  pub same : (end later : ℕ) → before ≡ Some end → after ≡ Some later → later ≡ end
  pub begins : (end : ℕ) → before ≡ None → after ≡ Some end → end ≡ begun

-- no call prolongs a grace that runs, but one that sets the principal's limits; a grace that begins ends at the call's
-- moment and the grace that is then set
abbrev pub GracesRunOn : Type 0
GracesRunOn =
    (S : State) (cred : Caller) (moment : ℕ) (call : Call) (kind : Kind) (id : ℕ) (sort : Sort)
    → sets_limits_of kind id call ≡ false
    → RunsOn (end_at S kind id sort) (end_at (step S cred moment call).0 kind id sort)
    (moment + grace_of sort (step S cred moment call).0.graces)

-- the quota record of a principal, if there is such a principal
abbrev pub record_at : State → Kind → ℕ → Option Account
record_at S kind id = option_map (account_of S) (find (is_holder kind id) S.holders)

-- the inode of this number alone is changed, made or gone; each use rises by what it takes then, and falls by what it
-- took; and whom it charges as before has the record that it had, unless the call sets that one's limits
pub record TouchesOnly (old new : State) (call : Call) (number : ℕ) : Type 0 where
  pub inodes : (other : ℕ) → other ≢ number → inode_at new other ≡ inode_at old other
  pub uses : (kind : Kind) (id : ℕ) (sort : Sort)
      → use_of new kind id sort + charge_of kind id sort (inode_at old number)
      ≡ use_of old kind id sort + charge_of kind id sort (inode_at new number)
  pub records : (kind : Kind) (id : ℕ) → sets_limits_of kind id call ≡ false
      → ((sort : Sort) → charge_of kind id sort (inode_at new number) ≡ charge_of kind id sort (inode_at old number))
      → record_at new kind id ≡ record_at old kind id

-- from a lawful state a call touches one inode, if any, and the records of those whom that one charges
abbrev pub OneInodeIsTouched : Type 0
OneInodeIsTouched = (S : State) (cred : Caller) (moment : ℕ) (call : Call) → IsLawful S
    → (number : ℕ) × TouchesOnly S (step S cred moment call).0 call number

-- the rows of a board that there is room for in a call are two of each kind, for an old owner and a new one; that a
-- call changes no more this does not say
abbrev pub TwoRowsOfEachKind : Type 0
TwoRowsOfEachKind = MAX_CHANGED_ROWS ≡ 2 * length kinds

-- the call only gives, moves or takes names: link, unlink, rmdir or rename
abbrev pub is_of_names : Call → Bool
is_of_names (Link from to) = true
is_of_names (Unlink path) = true
is_of_names (Rmdir path) = true
is_of_names (Rename from to) = true
is_of_names call = false

-- every inode and every quota record is as it was
pub record KeepsInodes (old new : State) : Type 0 where
  pub inodes : new.inodes ≡ old.inodes
  pub records : (kind : Kind) (id : ℕ) → record_at new kind id ≡ record_at old kind id

-- names cost nothing: from a lawful state, a call on names that is told of no change changes neither inodes nor records
abbrev pub NamesCostNothing : Type 0
NamesCostNothing = (S : State) (cred : Caller) (moment : ℕ) (call : Call) → IsLawful S → is_of_names call ≡ true
    → change_of (step S cred moment call).1 ≡ no_change → KeepsInodes S (step S cred moment call).0

-- a link is told of no change, and neither is a chown, which moves what an inode takes and adds nothing
abbrev pub TotalsAreMoved : Type 0
TotalsAreMoved =
    (S : State) (cred : Caller) (moment : ℕ)
    → ((from to : List ℕ) → change_of (step S cred moment (Link from to)).1 ≡ no_change)
    × ((path : List ℕ) (uid gid project : Option ℕ)
    → change_of (step S cred moment (Chown path uid gid project)).1 ≡ no_change)

-- the paths whose last names a call gives or takes
abbrev pub changed_paths : Call → List (List ℕ)
changed_paths (Create path) = path ∷ []
changed_paths (Mkdir path) = path ∷ []
changed_paths (Link from to) = to ∷ []
changed_paths (Unlink path) = path ∷ []
changed_paths (Rmdir path) = path ∷ []
changed_paths (Rename from to) = from ∷ to ∷ []
changed_paths call = []

-- the path's last name is this one, and its parent this directory
abbrev pub IsPlaceOf : State → List ℕ → ℕ → List ℕ → Type 0
IsPlaceOf S path dir name = (parent S (components path) ≡ Ok dir) × (last_name (components path) ≡ Some name)

-- from a lawful state every name leads where it led, but the last names of the paths that the call changes
abbrev pub OtherNamesStay : Type 0
OtherNamesStay =
    (S : State) (cred : Caller) (moment : ℕ) (call : Call) (dir : ℕ) (name : List ℕ) → IsLawful S
    → All (λ path. IsPlaceOf S path dir name → ⊥) (changed_paths call)
    → named (step S cred moment call).0 dir name ≡ named S dir name
