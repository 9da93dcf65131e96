-- How a bill is made and judged. No public clause cites this module.
use Rattle.std.specs.Prelude.{◌≡◌, ℕ, ◌+◌, ◌||◌, nat_lt, if◌then◌else◌, Option, Some, None}
use Rattle.std.specs.Option.{option_and_then, option_or}
use Rattle.qrules.specs.declared.kind.Kind.{Kind}
use Rattle.qrules.specs.declared.kind.Kind.TheVariants.{User, Group, Project}
use Rattle.qrules.specs.Sort.{Inodes, Blocks}
use Rattle.qplain.specs.declared.bounds.TheConstants.{MAX_NUMBER}
use Rattle.qplain.specs.declared.refusal.Refusal.{Refusal}
use Rattle.qplain.specs.declared.refusal.Refusal.TheVariants.{ENOSPC}
use Rattle.qplain.specs.Caller.{Caller, is_superuser}
use Rattle.qplain.specs.State.{State}
use Rattle.qplain.specs.Use.{total_of}
use Rattle.qstore_accounts.specs.declared.bill.Bill.{Bill}
use Rattle.qstore_accounts.specs.declared.claim.Claim.{Claim}
use Rattle.qstore_accounts.specs.Books.{Books, ledger_in}
use Rattle.qstore_accounts.specs.Bills.{postings_in}
use Rattle.qstore_accounts.specs.Claims.{share_in}
use Rattle.qstore_accounts.specs.Ledgers.{ArePosted, posting_refusal}

-- the bill sets the uses of the owners to those that the new state counts, has its totals, and is of this moment
pub record IsBillOf (b : Books) (from to : Option Claim) (S S1 : State) (moment : ℕ) (bill : Bill) : Type 0 where
  pub posted : (kind : Kind) → ArePosted (ledger_in kind b) kind S1
      (option_and_then (share_in kind) from) (option_and_then (share_in kind) to) (postings_in kind bill)
  pub blocks : bill.blocks ≡ total_of S1 Blocks
  pub inodes : bill.inodes ≡ total_of S1 Inodes
  pub time : bill.moment ≡ moment

-- why a bill is refused, if it is: space comes before quota, and the superuser passes every quota
abbrev pub bill_refusal : Books → Caller → ℕ → ℕ → Bill → Option Refusal
bill_refusal b cred moment next bill =
    if nat_lt b.size bill.blocks || nat_lt b.most_inodes bill.inodes || nat_lt (MAX_NUMBER + 1) next then Some ENOSPC
    else if is_superuser cred then None
    else option_or (posting_refusal b.users User moment bill.users.to)
    (option_or (posting_refusal b.groups Group moment bill.groups.to)
    (posting_refusal b.projects Project moment bill.projects.to))
