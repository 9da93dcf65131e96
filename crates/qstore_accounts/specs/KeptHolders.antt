-- The quota records of one kind of principal, as a store keeps them.
use Rattle.std.specs.Prelude.{◌≡◌, ℕ, true, false, List, ◌++◌, map, Option, Some, None}
use Rattle.std.specs.Option.{option_map}
use Rattle.std.specs.List.{slice_get}
use Rattle.std.specs.List.Sorted.{IsStrictlyIncreasing}
use Rattle.qrules.specs.declared.kind.Kind.{Kind}
use Rattle.qrules.specs.declared.kind.Kind.TheVariants.{User, Group, Project}
use Rattle.qrules.specs.Sort.{Inodes, Blocks}
use Rattle.qplain.specs.State.{Holder, State}
use Rattle.qplain.specs.Use.{use_of}
use Rattle.qstore_accounts.specs.declared.kept_holder.KeptHolder.{KeptHolder}

-- the holder whose record a kept holder's is
abbrev pub holder_in : Kind → KeptHolder → Holder
holder_in kind o = record {
  kind = kind;
  id = o.id;
  name = o.name;
  limits = o.account.limits;
  block_end = o.account.block_end;
  inode_end = o.account.inode_end;
}

-- what stands for each kind, one kind after the other
abbrev pub across : {X : Type 0} → (Kind → List X) → List X
across each = each User ++ (each Group ++ each Project)

-- the holders whose records these are, one kind after the other
abbrev pub holders_in : (Kind → List KeptHolder) → List Holder
holders_in ledgers = across (λ kind. map (holder_in kind) (ledgers kind))

-- the kept holders stand in the order of their ids, of which no two are the same
abbrev pub AreById : List KeptHolder → Type 0
AreById holders = IsStrictlyIncreasing (map (λ o. o.id) holders)

-- the kept holder of this id stands at this slot
abbrev pub IsSlotOf : List KeptHolder → ℕ → ℕ → Type 0
IsSlotOf holders slot id = option_map (λ o. o.id) (slice_get holders slot) ≡ Some id

-- the slot, if there is one, is that of the kept holder of this id, if there is one
abbrev pub IsSlotFor : List KeptHolder → Option ℕ → Option ℕ → Type 0
IsSlotFor holders None None = Unit {0}
IsSlotFor holders None (Some id) = false ≡ true
IsSlotFor holders (Some slot) None = false ≡ true
IsSlotFor holders (Some slot) (Some id) = IsSlotOf holders slot id

-- the kept use is the recounted one
pub record IsCountedIn (S : State) (kind : Kind) (o : KeptHolder) : Type 0 where
  pub blocks : o.account.blocks ≡ use_of S kind o.id Blocks
  pub inodes : o.account.inodes ≡ use_of S kind o.id Inodes
