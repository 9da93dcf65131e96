-- Claims on the slots of an inode's owners, for the proofs of stores that make them.
use Rattle.std.proofs.Common.{◌≡◌, ℕ, Option, Some, None, option_map, refl, sym, ap, subst}
use Rattle.qrules.specs.Sort.{Blocks}
use Rattle.qrules.proofs.Ranks.{each_kind}
use Rattle.qplain.specs.declared.owners.Owners.{Owners}
use Rattle.qplain.specs.State.{Inode}
use Rattle.qplain.specs.Use.{owner, weight}
use Rattle.qstore_accounts.specs.declared.claim.Claim.{Claim}
use Rattle.qstore_accounts.specs.declared.claim.OwnerClaim.{OwnerClaim}
use Rattle.qstore_accounts.specs.declared.claim.Slots.{Slots}
use Rattle.qstore_accounts.specs.declared.claim.Weight.{Weight}
use Rattle.qstore_accounts.specs.Books.{Books, HasSlots, ledger_in}
use Rattle.qstore_accounts.specs.Claims.{IsShareOf, slot_in}
use Rattle.qstore_accounts.specs.KeptHolders.{IsSlotFor, IsSlotOf}
use Rattle.qstore_accounts.specs.Replacements.{IsClaimed}

-- the slots of each kind are those of all owners
pub slots-of : (b : Books) (slots : Slots) (owners : Owners) → IsSlotOf b.users slots.user owners.uid → IsSlotOf b.groups slots.group owners.gid
    → IsSlotFor b.projects slots.project owners.project → HasSlots b slots owners
slots-of b slots owners = each_kind (λ kind. IsSlotFor (ledger_in kind b) (slot_in kind slots) (owner kind owners))

-- what an inode weighs that has so many blocks
abbrev weighing : ℕ → Weight
weighing blocks = record { blocks = blocks; inodes = 1 }

-- so much, taken at a slot
abbrev taken : Weight → ℕ → OwnerClaim
taken weight slot = record { slot = slot; weight = weight }

-- a claim on the records of an inode's owners, with its blocks, is what it takes
pub claimed : (b : Books) (slots : Slots) (blocks : ℕ) (inode : Inode) → HasSlots b slots inode.owners → weight Blocks inode ≡ blocks
    → IsClaimed b (Some (record { slots = slots; weight = weighing blocks })) (Some inode)
claimed b slots blocks inode has same kind = by (slot_in kind slots) (has kind)
  where
    by : (slot : Option ℕ) → IsSlotFor (ledger_in kind b) slot (owner kind inode.owners)
        → IsShareOf (ledger_in kind b) kind (option_map (taken (weighing blocks)) slot) (Some inode)
    by None there = there
    by (Some slot) there = record { slot = there; weight = record { blocks = sym same; inodes = refl } }

-- another claim on the same records, for an inode of the same owners
pub claimed-again : (b : Books) (claim : Claim) (blocks : ℕ) (inode after : Inode) → IsClaimed b (Some claim) (Some inode)
    → after.owners ≡ inode.owners → weight Blocks after ≡ blocks
    → IsClaimed b (Some (record { slots = claim.slots; weight = weighing blocks })) (Some after)
claimed-again b claim blocks inode after is owners same kind = by (slot_in kind claim.slots) (is kind)
  where
    by : (slot : Option ℕ) → IsShareOf (ledger_in kind b) kind (option_map (taken claim.weight) slot) (Some inode)
        → IsShareOf (ledger_in kind b) kind (option_map (taken (weighing blocks)) slot) (Some after)
    by None there = subst (IsSlotFor (ledger_in kind b) None) (sym (ap (owner kind) owners)) there
    by (Some slot) there = record {
      slot = subst (IsSlotFor (ledger_in kind b) (Some slot)) (sym (ap (owner kind) owners)) there.slot;
      weight = record { blocks = sym same; inodes = refl };
    }

-- no claim where no inode stands
pub unclaimed : (b : Books) → IsClaimed b None None
unclaimed b kind = tt
