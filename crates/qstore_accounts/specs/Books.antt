-- The accounts as a store keeps them, and when they are those of a state.
use Rattle.std.specs.Prelude.{◌≡◌, ◌≤◌, ℕ, true, List, length, All}
use Rattle.qrules.specs.declared.kind.Kind.{Kind}
use Rattle.qrules.specs.Kinds.{by_kind}
use Rattle.qrules.specs.declared.graces.Graces.{Graces}
use Rattle.qrules.specs.Range.{are_graces_in_range}
use Rattle.qrules.specs.Sort.{Inodes, Blocks}
use Rattle.qplain.specs.declared.owners.Owners.{Owners}
use Rattle.qplain.specs.declared.principal.TheConstants.{MAX_PRINCIPALS}
use Rattle.qplain.specs.declared.setup.TheConstants.{MAX_BLOCKS, MAX_INODES}
use Rattle.qplain.specs.State.{Holder, State}
use Rattle.qplain.specs.Use.{owner, total_of}
use Rattle.qstore_accounts.specs.declared.claim.Slots.{Slots}
use Rattle.qstore_accounts.specs.declared.kept_holder.KeptHolder.{KeptHolder}
use Rattle.qstore_accounts.specs.KeptHolders.{AreById, IsCountedIn, IsSlotFor, holders_in}
use Rattle.qstore_accounts.specs.Claims.{slot_in}

-- the bounds, the graces, the records of each kind, and the totals
pub record Books : Type 0 where
  pub size : ℕ
  pub most_inodes : ℕ
  pub graces : Graces
  pub users : List KeptHolder
  pub groups : List KeptHolder
  pub projects : List KeptHolder
  pub blocks : ℕ
  pub inodes : ℕ

-- the records of a kind
abbrev pub ledger_in : Kind → Books → List KeptHolder
ledger_in kind b = by_kind b.users b.groups b.projects kind

-- the holders whose records the books keep
abbrev pub holders_of : Books → List Holder
holders_of b = holders_in (λ kind. ledger_in kind b)

-- the books are those of the state: its bounds, its graces, its holders, and what it counts to
pub record AreBooksOf (S : State) (b : Books) : Type 0 where
  pub size : b.size ≡ S.size
  pub most_inodes : b.most_inodes ≡ S.most_inodes
  pub graces : b.graces ≡ S.graces
  pub holders : S.holders ≡ holders_of b
  pub counted : (kind : Kind) → All (IsCountedIn S kind) (ledger_in kind b)
  pub blocks : b.blocks ≡ total_of S Blocks
  pub inodes : b.inodes ≡ total_of S Inodes

-- the bounds and the graces are in their ranges, and of each kind there are no more than may be, and no id twice
pub record AreInRange (b : Books) : Type 0 where
  pub size : b.size ≤ MAX_BLOCKS
  pub most_inodes : b.most_inodes ≤ MAX_INODES
  pub graces : are_graces_in_range b.graces ≡ true
  pub users : AreById b.users
  pub groups : AreById b.groups
  pub projects : AreById b.projects
  pub few_users : length b.users ≤ MAX_PRINCIPALS
  pub few_groups : length b.groups ≤ MAX_PRINCIPALS
  pub few_projects : length b.projects ≤ MAX_PRINCIPALS

-- the records of these owners stand at these slots
abbrev pub HasSlots : Books → Slots → Owners → Type 0
HasSlots b slots owners = (kind : Kind) → IsSlotFor (ledger_in kind b) (slot_in kind slots) (owner kind owners)
