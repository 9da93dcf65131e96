-- What holds of new stores, of lawful states and of every step, whatever is called: the laws above the definitions.
use Rattle.std.specs.Prelude.{◌≡◌, ℕ, ◌+◌, ◌≤◌, Bool, true, false, not, ◌&&◌}
use Rattle.std.specs.Prelude.{◌||◌, ◌==◌, nat_le, nat_lt, if◌then◌else◌}
use Rattle.std.specs.Prelude.{is_some, Ok, List, ◌∷◌, filter, map, sum_by, All, Option, Some, None}
use Rattle.std.specs.Map.{keys_of, values_of}
use Rattle.std.specs.Ordering.{nat_cmp}
use Rattle.std.specs.List.{list_any}
use Rattle.std.specs.List.Sorted.{IsStrictlySortedBy}
use Rattle.qrules.specs.declared.kind.Kind.{Kind}
use Rattle.qrules.specs.declared.kind.Kind.TheVariants.{User, Group}
use Rattle.qrules.specs.Kinds.{is_same_kind}
use Rattle.qrules.specs.Sort.{Sort, Inodes, Blocks, amount_of, hard_limit, soft_limit, is_over}
use Rattle.qrules.specs.Account.{Account, HasEnds, count_in, end_in}
use Rattle.qrules.specs.Charge.{has_ended}
use Rattle.qrules.specs.Grace.{with_ends, with_limits}
use Rattle.qrules.specs.declared.limits.Limits.{Limits}
use Rattle.qblocks.specs.File.{empty_file}
use Rattle.qplain.specs.declared.call.Call.{Call}
use Rattle.qplain.specs.declared.call.Call.TheVariants.{Truncate, Link, Unlink, Rmdir, Rename}
use Rattle.qplain.specs.declared.owners.Owners.{Owners}
use Rattle.qplain.specs.declared.refusal.Refusal.{Refusal}
use Rattle.qplain.specs.declared.refusal.Refusal.TheVariants.{ENOSPC, EDQUOT}
use Rattle.qplain.specs.declared.reply.Reply.TheVariants.{Refused}
use Rattle.qplain.specs.declared.bounds.TheConstants.{MAX_NUMBER, ROOT}
use Rattle.qplain.specs.Caller.{Caller, is_superuser}
use Rattle.qplain.specs.Setups.{IsLawfulSetup, Setting}
use Rattle.qplain.specs.State.{Holder, Inode, NameKey, State, holder_cmp, inode_at, is_directory, name_key_cmp, named}
use Rattle.qplain.specs.State.{start}
use Rattle.qplain.specs.Use.{account_of, has_name, has_too_many_links, names_to, owner, total_of, use_of}
use Rattle.qplain.specs.Walk.{walk}
use Rattle.qplain.specs.Known.{is_declared}
use Rattle.qplain.specs.Decision.{ends_after, with_ends_of}
use Rattle.qplain.specs.Quotas.{relimited}
use Rattle.qplain.specs.Step.{step}
use Rattle.qplain_laws.specs.Holes.{HolesAreEmpty}

-- some principal of the kind is declared
abbrev pub has_kind : State → Kind → Bool
has_kind S kind = list_any (λ h. is_same_kind kind h.kind) S.holders

-- an owner of the kind is a declared principal, and there is none only where none of the kind is declared
abbrev pub is_known_owner : State → Kind → Option ℕ → Bool
is_known_owner S kind None = not (has_kind S kind)
is_known_owner S kind (Some id) = is_declared S kind id

-- of each kind the owner is known
abbrev pub AreKnown : State → Owners → Type 0
AreKnown S owners = (kind : Kind) → is_known_owner S kind (owner kind owners) ≡ true

-- the name stands in a directory and leads to an inode
abbrev pub leads : State → NameKey × ℕ → Bool
leads S e = is_directory S e.0.0 && is_some (inode_at S e.1)

-- the inode has as many names as it may: the root none, any other directory one, a file one or more
abbrev pub has_right_names : State → ℕ × Inode → Bool
has_right_names S e =
    if e.0 == ROOT then names_to S e.0 == 0
    else if e.1.dir then names_to S e.0 == 1
    else nat_lt 0 (names_to S e.0)

-- what an inode is by itself: a directory holds no bytes and no block, a file's allocated indexes stand once and in
-- order, and its bytes of no block are 0
pub record IsSound (inode : Inode) : Type 0 where
  pub holds_nothing : inode.dir ≡ true → inode.file ≡ empty_file
  pub in_order : IsStrictlySortedBy nat_cmp inode.file.allocated
  pub holes : HolesAreEmpty inode.file

-- inodes stand once and in order, below the next number; each is sound and belongs to declared principals; the root
-- is a directory
pub record InodesFit (S : State) : Type 0 where
  pub in_order : IsStrictlySortedBy nat_cmp (keys_of S.inodes)
  pub fresh : All (λ e. nat_lt e.0 S.next ≡ true) S.inodes
  pub owners_known : All (λ inode. AreKnown S inode.owners) (values_of S.inodes)
  pub sound : All IsSound (values_of S.inodes)
  pub root_stands : is_directory S ROOT ≡ true

-- names stand once and in order, each in a directory; each leads to an inode, and each inode has as many as it may
pub record NamesFit (S : State) : Type 0 where
  pub in_order : IsStrictlySortedBy name_key_cmp (keys_of S.names)
  pub lead : All (λ e. leads S e ≡ true) S.names
  pub counted : All (λ e. has_right_names S e ≡ true) S.inodes

-- the parts of a state fit together; no inode has more links than it may have, and holders stand once and in order,
-- users before groups and groups before projects
pub record FitsTogether (S : State) : Type 0 where
  pub links : has_too_many_links S ≡ false
  pub holders : IsStrictlySortedBy holder_cmp S.holders
  pub inodes : InodesFit S
  pub names : NamesFit S

-- what holds of every state that a store can be in: totals and the next number within the bounds, each grace end where
-- it belongs, and parts that fit together
pub record IsLawful (S : State) : Type 0 where
  pub blocks_fit : total_of S Blocks ≤ S.size
  pub inodes_fit : total_of S Inodes ≤ S.most_inodes
  pub next_fits : S.next ≤ MAX_NUMBER + 1
  pub ends_stand : All (λ h. HasEnds (account_of S h)) S.holders
  pub parts : FitsTogether S

-- the uses of all principals of a kind, added up
abbrev pub uses_of : State → Kind → Sort → ℕ
uses_of S kind sort = sum_by (λ h. use_of S kind h.id sort) (filter (λ h. is_same_kind kind h.kind) S.holders)

-- a use that does not rise, or that is not over the hard limit, nor over the soft one once its grace has ended
abbrev pub is_within : Sort → Account → ℕ → ℕ → Bool
is_within sort account moment count =
    nat_le count (count_in sort account)
    || (not (is_over (amount_of sort count) (hard_limit sort account.limits))
    && not (is_over (amount_of sort count) (soft_limit sort account.limits) && has_ended (end_in sort account) moment))

-- no use of the holder has passed a limit on the way from the old state to the new one
pub record PassesNoLimit (old new : State) (moment : ℕ) (h : Holder) : Type 0 where
  pub inodes : is_within Inodes (account_of old h) moment (use_of new h.kind h.id Inodes) ≡ true
  pub blocks : is_within Blocks (account_of old h) moment (use_of new h.kind h.id Blocks) ≡ true

-- a new store of a lawful setup is lawful
abbrev pub StartIsLawful : Type 0
StartIsLawful = (s : Setting) → IsLawfulSetup s → IsLawful (start s)

-- every step of a lawful state leaves a lawful state
abbrev pub StepsStayLawful : Type 0
StepsStayLawful = (S : State) (cred : Caller) (moment : ℕ) (call : Call) → IsLawful S
    → IsLawful (step S cred moment call).0

-- a refused call leaves the state as it was
abbrev pub RefusalsChangeNothing : Type 0
RefusalsChangeNothing =
    (S : State) (cred : Caller) (moment : ℕ) (call : Call) (r : Refusal)
    → (step S cred moment call).1 ≡ Refused r → (step S cred moment call).0 ≡ S

-- no call of anybody but the superuser raises a use past a limit
abbrev pub LimitsHold : Type 0
LimitsHold =
    (S : State) (cred : Caller) (moment : ℕ) (call : Call) → is_superuser cred ≡ false
    → All (PassesNoLimit S (step S cred moment call).0 moment) S.holders

-- the refusal is for want of space or of quota
abbrev pub is_for_limits : Refusal → Bool
is_for_limits ENOSPC = true
is_for_limits (EDQUOT kind over) = true
is_for_limits r = false

-- where this call is refused, that is not for want of space or of quota
abbrev pub RefusesForNoLimit : State → Caller → ℕ → Call → Type 0
RefusesForNoLimit S cred moment call =
    (r : Refusal) → (step S cred moment call).1 ≡ Refused r → is_for_limits r ≡ false

-- whoever is over a limit may give back, and names cost nothing: no truncation, no unlink, no rmdir, no link and no
-- rename is refused for a limit
abbrev pub GivingBackIsGranted : Type 0
GivingBackIsGranted = (S : State) (cred : Caller) (moment : ℕ) (path : List ℕ) → IsLawful S
    → ((size : ℕ) → RefusesForNoLimit S cred moment (Truncate path size))
    × RefusesForNoLimit S cred moment (Unlink path) × RefusesForNoLimit S cred moment (Rmdir path)
    × ((to : List ℕ) → RefusesForNoLimit S cred moment (Link path to))
    × ((to : List ℕ) → RefusesForNoLimit S cred moment (Rename path to))

-- in a lawful state the uses of all principals of a kind that is declared add up to the totals
abbrev pub UsesAddUp : Type 0
UsesAddUp = (S : State) (kind : Kind) (sort : Sort) → IsLawful S → has_kind S kind ≡ true
    → uses_of S kind sort ≡ total_of S sort

-- in a lawful state users and groups are declared
abbrev pub UsersAndGroupsStand : Type 0
UsersAndGroupsStand = (S : State) → IsLawful S → (has_kind S User ≡ true) × (has_kind S Group ≡ true)

-- in a lawful state the rule of grace ends moves none, so what only looks, or writes nothing, may leave the state
-- as it is
abbrev pub EndsStay : Type 0
EndsStay = (S : State) (moment : ℕ) → IsLawful S → ends_after S moment ≡ S

-- who a holder is, whatever its limits and ends
abbrev pub identity_of : Holder → Kind × ℕ × List ℕ
identity_of h = (h.kind, h.id, h.name)

-- what no call changes: the bounds, the file limit, and who the holders are, in their order
pub record KeepsSetup (old new : State) : Type 0 where
  pub size : new.size ≡ old.size
  pub most_inodes : new.most_inodes ≡ old.most_inodes
  pub file_limit : new.file_limit ≡ old.file_limit
  pub holders : map identity_of new.holders ≡ map identity_of old.holders

-- every step keeps the setup
abbrev pub SetupsStay : Type 0
SetupsStay = (S : State) (cred : Caller) (moment : ℕ) (call : Call) → KeepsSetup S (step S cred moment call).0

-- limits and graces are the superuser's to set
pub record KeepsLimits (old new : State) : Type 0 where
  pub graces : new.graces ≡ old.graces
  pub limits : map (λ h. h.limits) new.holders ≡ map (λ h. h.limits) old.holders

-- no call of anybody else changes them
abbrev pub LimitsStay : Type 0
LimitsStay = (S : State) (cred : Caller) (moment : ℕ) (call : Call) → is_superuser cred ≡ false
    → KeepsLimits S (step S cred moment call).0

-- numbers go on: the next one never falls, and each inode of the new state stood before or has the number that was next
pub record GoesOn (old new : State) : Type 0 where
  pub next : old.next ≤ new.next
  pub numbers : All (λ e. (is_some (inode_at old e.0) || e.0 == old.next) ≡ true) new.inodes

-- no number is given again
abbrev pub NumbersGoOn : Type 0
NumbersGoOn = (S : State) (cred : Caller) (moment : ℕ) (call : Call) → IsLawful S
    → GoesOn S (step S cred moment call).0

-- some walk from the root leads to the number
abbrev pub IsReached : State → ℕ → Type 0
IsReached S number = (names : List (List ℕ)) × (walk S names ≡ Ok number)

-- every inode is reached
abbrev pub AllReached : State → Type 0
AllReached S = All (λ e. IsReached S e.0) S.inodes

-- in a new store every inode is reached
abbrev pub StartIsReached : Type 0
StartIsReached = (s : Setting) → AllReached (start s)

-- no step of a lawful state cuts an inode off from the root
abbrev pub AllStayReached : Type 0
AllStayReached = (S : State) (cred : Caller) (moment : ℕ) (call : Call) → IsLawful S → AllReached S
    → AllReached (step S cred moment call).0

-- what is there is not the caller's
abbrev pub is_of_others : Caller → Option Inode → Bool
is_of_others cred None = true
is_of_others cred (Some inode) = not (cred.uid == inode.owners.uid)

-- what a caller leaves to others: each of their inodes, with what it holds and whose it is, unless its last name has
-- gone; and each name in a directory of others that leads to an inode of others
pub record LeavesToOthers (cred : Caller) (old new : State) : Type 0 where
  pub inodes : (number : ℕ) (inode : Inode) → inode_at old number ≡ Some inode
      → is_of_others cred (Some inode) ≡ true
      → inode_at new number ≡ (if has_name new number then Some inode else None)
  pub names : (dir number : ℕ) (name : List ℕ) → named old dir name ≡ Some number
      → is_of_others cred (inode_at old dir) ≡ true → is_of_others cred (inode_at old number) ≡ true
      → named new dir name ≡ Some number

-- no caller but the superuser changes what is not its own
abbrev pub RightsHold : Type 0
RightsHold = (S : State) (cred : Caller) (moment : ℕ) (call : Call) → IsLawful S → is_superuser cred ≡ false
    → LeavesToOthers cred S (step S cred moment call).0

-- whose inodes are after a caller's call: a new one is the caller's and its first group's; any other is its user's and
-- its project's still, and its group's or that of one of the caller's groups
pub record KeepsOwners (cred : Caller) (old new : State) : Type 0 where
  pub made : (number : ℕ) (after : Inode) → inode_at old number ≡ None → inode_at new number ≡ Some after
      → (after.owners.uid ≡ cred.uid) × (after.owners.gid ≡ cred.gid)
  pub user : (number : ℕ) (inode after : Inode) → inode_at old number ≡ Some inode
      → inode_at new number ≡ Some after
      → after.owners.uid ≡ inode.owners.uid
  pub group : (number : ℕ) (inode after : Inode) → inode_at old number ≡ Some inode
      → inode_at new number ≡ Some after
      → (after.owners.gid == inode.owners.gid
      || list_any (λ group. group == after.owners.gid) (cred.gid ∷ cred.more)) ≡ true
  pub project : (number : ℕ) (inode after : Inode) → inode_at old number ≡ Some inode
      → inode_at new number ≡ Some after
      → after.owners.project ≡ inode.owners.project

-- no caller but the superuser makes another user or another project own an inode, or a group that is not one of the
-- caller's
abbrev pub OwnersHold : Type 0
OwnersHold = (S : State) (cred : Caller) (moment : ℕ) (call : Call) → IsLawful S → is_superuser cred ≡ false
    → KeepsOwners cred S (step S cred moment call).0

-- the ends of a holder are those of its record by the rules
abbrev pub EndsAreTheRules : Type 0
EndsAreTheRules = (S : State) (moment : ℕ) (h : Holder)
    → account_of S (with_ends_of S moment h) ≡ with_ends (account_of S h) S.graces moment

-- new limits do to a holder what the rules do to its record
abbrev pub NewLimitsAreTheRules : Type 0
NewLimitsAreTheRules = (S : State) (moment : ℕ) (limits : Limits) (h : Holder)
    → account_of S (with_ends_of S moment (relimited limits h))
    ≡ with_limits (account_of S h) limits S.graces moment
