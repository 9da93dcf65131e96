-- What is counted at the end of an image, and what it is of a state.
use Rattle.std.specs.Prelude.{◌≡◌, ℕ, ◌+◌, true, List, [], ◌∷◌, map, Option, Some, None, Result, Ok, Err, if◌then◌else◌}
use Rattle.std.specs.List.{list_all}
use Rattle.qrules.specs.declared.inode_row.InodeRow.{InodeRow}
use Rattle.qrules.specs.declared.kind.Kind.{Kind}
use Rattle.qrules.specs.Account.{Account}
use Rattle.qrules.specs.Sort.{Inodes, Blocks}
use Rattle.qplain.specs.declared.quota.Quota.{Quota}
use Rattle.qplain.specs.State.{State}
use Rattle.qplain.specs.Use.{use_of}
use Rattle.qtext_image.specs.Counts.{is_in_tree}
use Rattle.qtext_image.specs.Faults.{has_few_names}
use Rattle.qaudit.specs.declared.counts.CountRow.{CountRow}
use Rattle.qaudit.specs.declared.counts.Counts.{Counts}
use Rattle.qaudit.specs.Differences.{counted_of, counts_in}
use Rattle.qstore_tree.specs.Tree.{RoomyTree, kept_row}
use Rattle.qstore_tree.specs.TreeOf.{IsTreeOf}
use Rattle.qstore_open.specs.declared.bounds.Bounds.{Bounds}
use Rattle.qstore_open.specs.declared.ending.WrongLine.{WrongLine}
use Rattle.qstore_open.specs.declared.reach.Reach.{Reach}
use Rattle.qstore_open.specs.Reaching.{has}

-- a quota as the rules see it
abbrev pub account_in : Quota → Account
account_in q = record {
  blocks = q.blocks;
  inodes = q.inodes;
  limits = q.limits;
  block_end = q.block_end;
  inode_end = q.inode_end;
}

-- what is counted of each principal of the kind is its use
pub record AreCountsOf (S : State) (kind : Kind) (counts : List CountRow) : Type 0 where
  pub blocks : (id : ℕ) → (counted_of counts id).blocks ≡ use_of S kind id Blocks
  pub inodes : (id : ℕ) → (counted_of counts id).inodes ≡ use_of S kind id Inodes

-- the rows are those of the state's inodes
abbrev pub AreRowsOf : State → List InodeRow → Type 0
AreRowsOf S rows = (links : List (ℕ × ℕ)) × (rows ≡ map (kept_row links) S.inodes)

-- what is counted, row by row and principal by principal, is the state's, in which the root has no name and any other
-- directory one at most
pub record AreCounted (S : State) (counts : Counts) (rows : List InodeRow) : Type 0 where
  pub uses : (kind : Kind) → AreCountsOf S kind (counts_in kind counts)
  pub inodes : AreRowsOf S rows
  pub few_names : list_all (has_few_names S) S.inodes ≡ true

-- those inodes were found that are in the state's tree
abbrev pub FindsTree : State → Reach → Type 0
FindsTree S reach = (number : ℕ) → has reach number ≡ is_in_tree S number

-- the line that is wrong, if one is; where none was up to some line, it is looked for from there on
abbrev pub goes_on : (ℕ → Option ℕ) → Result ℕ WrongLine → Option ℕ
goes_on next (Ok line) = next line
goes_on next (Err wrong) = Some wrong.line

-- the line of the first inode, from this line on, that was not found
abbrev pub rows_line : Reach → ℕ → List InodeRow → Option ℕ
rows_line reach line [] = None
rows_line reach line (r ∷ rows) =
    if has reach r.ino then rows_line reach (line + 1 + r.blocks) rows else Some line

-- the tree and the bounds are the state's, in which the root has no name and any other directory one at most
pub record IsOpened (S : State) (bounds : Bounds) (tree : RoomyTree) : Type 0 where
  pub is_of : IsTreeOf S tree
  pub size : S.size ≡ bounds.size
  pub most_inodes : S.most_inodes ≡ bounds.most_inodes
  pub few_names : list_all (has_few_names S) S.inodes ≡ true
