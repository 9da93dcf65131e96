-- What a reader may rely on in a board.
use Rattle.std.specs.Prelude.{◌≡◌, ℕ, ◌<◌, ◌≤◌, ◌==◌, Bool, ◌&&◌, List, filter, length, sum_by, All, Option, Some}
use Rattle.std.specs.List.{find}
use Rattle.qrules.specs.declared.board_row.BoardRow.{BoardRow}
use Rattle.qrules.specs.declared.kind.Kind.{Kind}
use Rattle.qrules.specs.declared.kind.Kind.TheVariants.{User, Group, Project}
use Rattle.qrules.specs.Kinds.{is_same_kind}
use Rattle.qrules.specs.Sort.{Sort, Inodes, Blocks}
use Rattle.qrules.specs.Account.{Account, HasEnds, count_in}
use Rattle.qplain.specs.declared.board.Board.{Board}
use Rattle.qplain.specs.declared.entry.Entry.{Entry}
use Rattle.qplain.specs.Setups.{Setting}
use Rattle.qplain.specs.State.{State}
use Rattle.qshare_boards.specs.Boards.{shown_of}

-- what a row says of its principal
abbrev pub account_in : BoardRow → Account
account_in r = record {
  blocks = r.blocks;
  inodes = r.inodes;
  limits = r.limits;
  block_end = r.block_end;
  inode_end = r.inode_end;
}

-- what the rows of a kind use of a sort, added up
abbrev pub sum_in : Board → Kind → Sort → ℕ
sum_in b kind sort = sum_by (λ r. count_in sort (account_in r)) (filter (λ r. is_same_kind kind r.kind) b.rows)

-- users, groups and, where any is declared, projects each use all that is used, no more than there is, and a grace end
-- stands exactly where use is over that soft limit
pub record IsWhole (setting : Setting) (b : Board) : Type 0 where
  pub user_blocks : sum_in b User Blocks ≡ b.blocks
  pub group_blocks : sum_in b Group Blocks ≡ b.blocks
  pub user_inodes : sum_in b User Inodes ≡ b.inodes
  pub group_inodes : sum_in b Group Inodes ≡ b.inodes
  pub project_blocks : 0 < length setting.projects → sum_in b Project Blocks ≡ b.blocks
  pub project_inodes : 0 < length setting.projects → sum_in b Project Inodes ≡ b.inodes
  pub blocks_fit : b.blocks ≤ setting.blocks
  pub inodes_fit : b.inodes ≤ setting.inodes
  pub ends_stand : All (λ r. HasEnds (account_in r)) b.rows

-- the row is that of this principal
abbrev pub is_row_of : Kind → ℕ → BoardRow → Bool
is_row_of kind id r = is_same_kind kind r.kind && r.id == id

-- the row of a principal, if there is one
abbrev pub row_in : Board → Kind → ℕ → Option BoardRow
row_in b kind id = find (is_row_of kind id) b.rows

-- the row under this version is that of the principal on the board of the history
abbrev pub IsRecordOf : State → List Entry → Kind → ℕ → ℕ × BoardRow → Type 0
IsRecordOf S history kind id (version, row) =
    (version ≡ length history) × (row_in (shown_of S history) kind id ≡ Some row)
