-- What a bill makes of the books.
use Rattle.std.specs.Prelude.{ℕ, ◌≢◌, ◌≤◌, ◌==◌, if◌then◌else◌, List, map, Option, Some, None, IfSome}
use Rattle.qrules.specs.declared.kind.Kind.{Kind}
use Rattle.qrules.specs.declared.graces.Graces.{Graces}
use Rattle.qrules.specs.declared.graces.TheConstants.{MAX_MOMENT}
use Rattle.qrules.specs.declared.record.TheConstants.{MAX_USE}
use Rattle.qrules.specs.Account.{Account}
use Rattle.qrules.specs.Grace.{with_ends, with_limits}
use Rattle.qrules.specs.Kinds.{by_kind, is_same_kind}
use Rattle.qstore_accounts.specs.declared.bill.Bill.{Bill}
use Rattle.qstore_accounts.specs.declared.bill.Posting.{Posting}
use Rattle.qstore_accounts.specs.declared.bill.Postings.{Postings}
use Rattle.qstore_accounts.specs.declared.record_change.RecordChange.{RecordChange}
use Rattle.qstore_accounts.specs.declared.record_change.RecordChange.TheVariants.{Uses, Limits}
use Rattle.qstore_accounts.specs.declared.kept_holder.KeptHolder.{KeptHolder}
use Rattle.qstore_accounts.specs.Books.{Books}
use Rattle.qstore_accounts.specs.KeptHolders.{IsSlotOf}

-- the bill of nothing
abbrev pub no_bill : Bill
no_bill = record {
  users = record { from = None; to = None };
  groups = record { from = None; to = None };
  projects = record { from = None; to = None };
  blocks = 0;
  inodes = 0;
  moment = 0;
}

-- the record after a change at this moment: it has other uses, or other limits, and the grace ends that then stand
abbrev pub account_after : RecordChange → Account → Graces → ℕ → Account
account_after (Uses blocks inodes) account graces moment =
    with_ends (record account { blocks = blocks; inodes = inodes }) graces moment
account_after (Limits limits) account graces moment = with_limits account limits graces moment

-- the kept holder after a posting at this moment, which changes the record of one id
abbrev pub post : Graces → ℕ → Option Posting → KeptHolder → KeptHolder
post graces moment None o = o
post graces moment (Some p) o =
    if p.id == o.id then record o { account = account_after p.change o.account graces moment } else o

-- the kept holder after the postings of its kind
abbrev pub posted : Graces → ℕ → Postings → KeptHolder → KeptHolder
posted graces moment p o = post graces moment p.to (post graces moment p.from o)

-- the postings of a kind
abbrev pub postings_in : Kind → Bill → Postings
postings_in kind bill = by_kind bill.users bill.groups bill.projects kind

-- this posting for its kind, and none for any other
abbrev pub only_in : Kind → Posting → Kind → Postings
only_in kind posting other = record { from = None; to = if is_same_kind kind other then Some posting else None }

-- the books after a bill
abbrev pub settled : Bill → Books → Books
settled bill b = record b {
  users = map (posted b.graces bill.moment bill.users) b.users;
  groups = map (posted b.graces bill.moment bill.groups) b.groups;
  projects = map (posted b.graces bill.moment bill.projects) b.projects;
  blocks = bill.blocks;
  inodes = bill.inodes;
}

-- the uses that a change sets, if it sets any, are no more than a record may count
abbrev pub IsCountable : RecordChange → Type 0
IsCountable (Uses blocks inodes) = (blocks ≤ MAX_USE) × (inodes ≤ MAX_USE)
IsCountable (Limits limits) = Unit {0}

-- the posting stands at the slot of its id, and its change can be made
pub record IsPostingFor (holders : List KeptHolder) (p : Posting) : Type 0 where
  pub slot : IsSlotOf holders p.slot p.id
  pub countable : IsCountable p.change

-- so does a posting, if there is one
abbrev pub IsPlaced : List KeptHolder → Option Posting → Type 0
IsPlaced holders posting = IfSome posting (IsPostingFor holders)

-- both postings of a kind do, and they are of two records
pub record ArePlaced (holders : List KeptHolder) (p : Postings) : Type 0 where
  pub from : IsPlaced holders p.from
  pub to : IsPlaced holders p.to
  pub apart : IfSome p.from (λ f. IfSome p.to (λ t. f.slot ≢ t.slot))

-- the bill is for these books, and its moment is one that a call may have
pub record IsBillFor (b : Books) (bill : Bill) : Type 0 where
  pub users : ArePlaced b.users bill.users
  pub groups : ArePlaced b.groups bill.groups
  pub projects : ArePlaced b.projects bill.projects
  pub moment : bill.moment ≤ MAX_MOMENT
