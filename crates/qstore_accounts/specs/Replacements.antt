-- A call that asks for its bill: in the new state one inode stands where another stood, or none.
use Rattle.std.specs.Prelude.{◌≤◌, ◌^◌, Option}
use Rattle.std.specs.Option.{option_and_then}
use Rattle.qrules.specs.declared.kind.Kind.{Kind}
use Rattle.qrules.specs.Sort.{Blocks}
use Rattle.qplain.specs.State.{Inode, State}
use Rattle.qplain_laws.specs.Laws.{IsLawful}
use Rattle.qplain_laws.specs.Replaces.{Replaces, weight_of}
use Rattle.qstore_accounts.specs.declared.claim.Claim.{Claim}
use Rattle.qstore_accounts.specs.Books.{AreBooksOf, Books, ledger_in}
use Rattle.qstore_accounts.specs.Claims.{IsShareOf, share_in}

-- the claim is what the inode, where one stands, takes of its owners' records
abbrev pub IsClaimed : Books → Option Claim → Option Inode → Type 0
IsClaimed b claim inode =
    (kind : Kind) → IsShareOf (ledger_in kind b) kind (option_and_then (share_in kind) claim) inode

-- for the books: they are those of the old, lawful state, and the claims are what the two inodes take
pub record IsReplacement (b : Books) (from to : Option Claim) (S S1 : State) (f t : Option Inode) : Type 0 where
  pub lawful : IsLawful S
  pub books : AreBooksOf S b
  pub replaces : Replaces S S1 f t
  pub lost : IsClaimed b from f
  pub gained : IsClaimed b to t
  pub few : weight_of Blocks t ≤ 2 ^ 32
