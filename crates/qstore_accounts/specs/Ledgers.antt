-- What a ledger makes of the records of one kind. No public clause cites this module.
use Rattle.std.specs.Prelude.{◌≡◌, ℕ, ◌+◌, ◌≤◌, ◌==◌, if◌then◌else◌, List, All, Option, Some, None, IfSome}
use Rattle.std.specs.Option.{option_and_then, option_map}
use Rattle.std.specs.List.{slice_get}
use Rattle.qrules.specs.declared.kind.Kind.{Kind}
use Rattle.qrules.specs.declared.graces.Graces.{Graces}
use Rattle.qrules.specs.declared.graces.TheConstants.{MAX_GRACE, MAX_MOMENT}
use Rattle.qrules.specs.declared.record.TheConstants.{MAX_USE}
use Rattle.qrules.specs.declared.over.Over.{Over}
use Rattle.qrules.specs.declared.record_row.RecordRow.{RecordRow}
use Rattle.qrules.specs.Sort.{Sort, Inodes, Blocks}
use Rattle.qrules.specs.Account.{Account, HasEnds}
use Rattle.qrules.specs.Charge.{first_fault}
use Rattle.qrules.specs.Grace.{unused, with_ends}
use Rattle.qplain.specs.declared.principal.Principal.{Principal}
use Rattle.qplain.specs.declared.refusal.Refusal.{Refusal}
use Rattle.qplain.specs.declared.refusal.Refusal.TheVariants.{EDQUOT}
use Rattle.qplain.specs.State.{Inode, State}
use Rattle.qplain.specs.Use.{account_of, total_of, use_of}
use Rattle.qplain_laws.specs.Replaces.{Replaces, weight_of}
use Rattle.qstore_accounts.specs.declared.bill.Posting.{Posting}
use Rattle.qstore_accounts.specs.declared.bill.Postings.{Postings}
use Rattle.qstore_accounts.specs.declared.record_change.RecordChange.{RecordChange}
use Rattle.qstore_accounts.specs.declared.record_change.RecordChange.TheVariants.{Uses, Limits}
use Rattle.qstore_accounts.specs.declared.claim.OwnerClaim.{OwnerClaim}
use Rattle.qstore_accounts.specs.declared.kept_holder.KeptHolder.{KeptHolder}
use Rattle.qstore_accounts.specs.Bills.{IsPostingFor}
use Rattle.qstore_accounts.specs.Claims.{IsShareOf}
use Rattle.qstore_accounts.specs.KeptHolders.{IsCountedIn, holder_in}

-- the moment and the graces by which ends are made are in their ranges
pub record AreTimesInRange (graces : Graces) (moment : ℕ) : Type 0 where
  pub time : moment ≤ MAX_MOMENT
  pub block : graces.block ≤ MAX_GRACE
  pub inode : graces.inode ≤ MAX_GRACE

-- a declared principal in a new store: id 0 has the root directory, and any other uses nothing
abbrev pub new_holder : Graces → Principal → KeptHolder
new_holder graces p = record {
  id = p.id;
  name = p.name;
  account =
      if 0 == p.id then with_ends (record (unused p.limits) { inodes = 1 }) graces 0
      else unused p.limits;
}

-- this is the kept holder of this id, and stands at this slot
pub record IsHolderAt (holders : List KeptHolder) (slot id : ℕ) (o : KeptHolder) : Type 0 where
  pub there : slice_get holders slot ≡ Some o
  pub same : o.id ≡ id

-- for the records of one kind: they are counted in the old state, and the shares are what the two inodes take of them
pub record IsLedgerReplacement (holders : List KeptHolder) (kind : Kind) (from to : Option OwnerClaim)
    (S S1 : State) (f t : Option Inode) : Type 0 where
  pub counted : All (IsCountedIn S kind) holders
  pub ends : All (λ o. HasEnds o.account) holders
  pub replaces : Replaces S S1 f t
  pub lost : IsShareOf holders kind from f
  pub gained : IsShareOf holders kind to t
  pub few : (sort : Sort) → total_of S1 sort + weight_of sort f ≤ MAX_USE

-- the record of a kept holder in the new state, with the ends that then stand
abbrev pub record_after : State → ℕ → Kind → KeptHolder → Account
record_after S1 moment kind o = with_ends (account_of S1 (holder_in kind o)) S1.graces moment

-- the uses that the new state counts of a kept holder's principal
abbrev pub uses_after : State → Kind → KeptHolder → RecordChange
uses_after S1 kind o = Uses (use_of S1 kind o.id Blocks) (use_of S1 kind o.id Inodes)

-- the posting sets the uses of its principal to those that the new state counts
pub record IsFinal (holders : List KeptHolder) (kind : Kind) (S1 : State) (p : Posting) : Type 0 where
  pub placed : IsPostingFor holders p
  pub uses : (o : KeptHolder) → slice_get holders p.slot ≡ Some o → p.change ≡ uses_after S1 kind o

-- the share that is given up, unless the other is taken of the same record
abbrev pub apart : Option OwnerClaim → Option OwnerClaim → Option OwnerClaim
apart None to = None
apart (Some lost) None = Some lost
apart (Some lost) (Some gained) = if lost.slot == gained.slot then None else Some lost

-- the postings of one kind are final, one for each record that a share is of
pub record ArePosted (holders : List KeptHolder) (kind : Kind) (S1 : State) (from to : Option OwnerClaim) (p : Postings)
    : Type 0 where
  pub from_there : option_map (λ q. q.slot) p.from ≡ option_map (λ share. share.slot) (apart from to)
  pub to_there : option_map (λ q. q.slot) p.to ≡ option_map (λ share. share.slot) to
  pub from_final : IfSome p.from (IsFinal holders kind S1)
  pub to_final : IfSome p.to (IsFinal holders kind S1)

-- the first limit in the way of a change: of other uses, and none of new limits
abbrev pub fault_of_change : Account → ℕ → RecordChange → Option Over
fault_of_change account moment (Uses blocks inodes) = first_fault account moment blocks inodes
fault_of_change account moment (Limits limits) = None

-- why the record at a posting's slot may not change so
abbrev pub posting_refusal : List KeptHolder → Kind → ℕ → Option Posting → Option Refusal
posting_refusal holders kind moment None = None
posting_refusal holders kind moment (Some p) =
    option_and_then
    (λ o. option_map (λ over. EDQUOT kind over) (fault_of_change o.account moment p.change)) (slice_get holders p.slot)

-- the row of a kept holder's record
abbrev pub holder_row : Kind → KeptHolder → RecordRow
holder_row kind o = record {
  kind = kind;
  id = o.id;
  name = o.name;
  blocks = o.account.blocks;
  inodes = o.account.inodes;
  limits = o.account.limits;
  block_end = o.account.block_end;
  inode_end = o.account.inode_end;
}
