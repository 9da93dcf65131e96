-- What an inode takes, and from whose records.
use Rattle.std.specs.Prelude.{◌≡◌, ℕ, true, false, ◌==◌, if◌then◌else◌, List, Option, Some, None}
use Rattle.qrules.specs.declared.kind.Kind.{Kind}
use Rattle.std.specs.Option.{option_map}
use Rattle.qrules.specs.Kinds.{by_kind}
use Rattle.qrules.specs.Sort.{Inodes, Blocks}
use Rattle.qplain.specs.State.{Inode}
use Rattle.qplain.specs.Use.{owner, weight}
use Rattle.qstore_accounts.specs.declared.claim.Claim.{Claim}
use Rattle.qstore_accounts.specs.declared.claim.OwnerClaim.{OwnerClaim}
use Rattle.qstore_accounts.specs.declared.claim.Slots.{Slots}
use Rattle.qstore_accounts.specs.declared.claim.Weight.{Weight}
use Rattle.qstore_accounts.specs.declared.kept_holder.KeptHolder.{KeptHolder}
use Rattle.qstore_accounts.specs.KeptHolders.{IsSlotFor}

-- what is counted where no inode stands
abbrev pub nothing : Weight
nothing = record { blocks = 0; inodes = 0 }

-- what is counted, where an inode stands or none
abbrev pub weight_in : Option Claim → Weight
weight_in None = nothing
weight_in (Some claim) = claim.weight

-- what is taken of the record at this slot
abbrev pub weight_at : Option OwnerClaim → ℕ → Weight
weight_at None slot = nothing
weight_at (Some share) slot = if share.slot == slot then share.weight else nothing

-- where the record of the owner of this kind stands, if there is one
abbrev pub slot_in : Kind → Slots → Option ℕ
slot_in kind slots = by_kind (Some slots.user) (Some slots.group) slots.project kind

-- the share of one kind's record in a claim, if there is one
abbrev pub share_in : Kind → Claim → Option OwnerClaim
share_in kind claim = option_map (λ slot. record { slot = slot; weight = claim.weight }) (slot_in kind claim.slots)

-- the weight is the inode's
pub record IsWeight (w : Weight) (inode : Inode) : Type 0 where
  pub blocks : w.blocks ≡ weight Blocks inode
  pub inodes : w.inodes ≡ weight Inodes inode

-- the share is what the inode takes of its owner of this kind
pub record IsShare (holders : List KeptHolder) (kind : Kind) (share : OwnerClaim) (inode : Inode) : Type 0 where
  pub slot : IsSlotFor holders (Some share.slot) (owner kind inode.owners)
  pub weight : IsWeight share.weight inode

-- the same where an inode stands or none
abbrev pub IsShareOf : List KeptHolder → Kind → Option OwnerClaim → Option Inode → Type 0
IsShareOf holders kind None None = Unit {0}
IsShareOf holders kind None (Some inode) = IsSlotFor holders None (owner kind inode.owners)
IsShareOf holders kind (Some share) None = false ≡ true
IsShareOf holders kind (Some share) (Some inode) = IsShare holders kind share inode
