-- What a board shows of the records, and what a bill does to it. No public clause cites this module.
use Rattle.std.specs.Prelude.{◌≡◌, ◌≢◌, ◌⊎◌, ℕ, ◌+◌, List, [], ◌∷◌, ◌++◌, map, Option, None, Some}
use Rattle.std.specs.List.{slice_get}
use Rattle.qrules.specs.declared.board_row.BoardRow.{BoardRow}
use Rattle.qrules.specs.declared.graces.Graces.{Graces}
use Rattle.qrules.specs.declared.kind.Kind.{Kind}
use Rattle.qrules.specs.Account.{Account}
use Rattle.qplain.specs.declared.placed_row.PlacedRow.{PlacedRow}
use Rattle.qstore_accounts.specs.declared.bill.Posting.{Posting}
use Rattle.qstore_accounts.specs.declared.bill.Postings.{Postings}
use Rattle.qstore_accounts.specs.declared.kept_holder.KeptHolder.{KeptHolder}
use Rattle.qstore_accounts.specs.Bills.{account_after}
use Rattle.qstore_accounts.specs.KeptHolders.{across}

-- the row of a record
abbrev pub board_row : Kind → ℕ → Account → BoardRow
board_row kind id a = record {
  kind = kind;
  id = id;
  blocks = a.blocks;
  inodes = a.inodes;
  limits = a.limits;
  block_end = a.block_end;
  inode_end = a.inode_end;
}

-- the row of a kept holder's record
abbrev pub board_row_of : Kind → KeptHolder → BoardRow
board_row_of kind o = board_row kind o.id o.account

-- the rows of all records, one kind after the other
abbrev pub rows_in : (Kind → List KeptHolder) → List BoardRow
rows_in ledgers = across (λ kind. map (board_row_of kind) (ledgers kind))

-- the row of a posting's record, which stands after N rows of others
abbrev pub placed_row : Kind → ℕ → Posting → Account → PlacedRow
placed_row kind before p account = record { place = before + p.slot; row = board_row kind p.id account }

-- the rows that show how a posting's record changes: none where it does not, and else the row after it
abbrev pub ShowsChange : Kind → ℕ → Posting → Account → Account → List PlacedRow → Type 0
ShowsChange kind before p old new placed =
    ((old ≡ new) × (placed ≡ [])) ⊎ ((old ≢ new) × (placed ≡ placed_row kind before p new ∷ []))

-- what a posting puts on a board: how it changes the record at its slot
pub record IsRowPut (holders : List KeptHolder) (kind : Kind) (before : ℕ) (graces : Graces) (moment : ℕ) (p : Posting)
    (placed : List PlacedRow) : Type 0 where
  pub holder : KeptHolder
  pub there : slice_get holders p.slot ≡ Some holder
  pub shown : ShowsChange kind before p holder.account (account_after p.change holder.account graces moment) placed

-- the same, where there is a posting or none
abbrev pub IsPut : List KeptHolder → Kind → ℕ → Graces → ℕ → Option Posting → List PlacedRow → Type 0
IsPut holders kind before graces moment None placed = placed ≡ []
IsPut holders kind before graces moment (Some p) placed = IsRowPut holders kind before graces moment p placed

-- what the postings of a kind put there
pub record ArePut (holders : List KeptHolder) (kind : Kind) (before : ℕ) (graces : Graces) (moment : ℕ) (p : Postings)
    (placed : List PlacedRow) : Type 0 where
  pub first : List PlacedRow
  pub second : List PlacedRow
  pub from : IsPut holders kind before graces moment p.from first
  pub to : IsPut holders kind before graces moment p.to second
  pub both : placed ≡ first ++ second
