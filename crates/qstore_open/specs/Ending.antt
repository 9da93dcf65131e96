-- The line of the first row, if there is one, that all rows of an image together show not to be so.
use Rattle.std.specs.Prelude.{ℕ, ◌+◌, ◌==◌, ◌<◌, ◌^◌, Bool, ◌&&◌, List, [], ◌∷◌, Option, Some, None, if◌then◌else◌}
use Rattle.std.specs.List.{AllByRecursion}
use Rattle.qrules.specs.Sort.{Inodes, Blocks}
use Rattle.qblocks.specs.File.{blocks_of}
use Rattle.qplain.specs.State.{Inode, State}
use Rattle.qplain.specs.Use.{account_of, use_of}
use Rattle.qplain_laws.specs.Laws.{has_right_names}
use Rattle.qplain_image.specs.Parts.{HolderPart, Sections}
use Rattle.qplain_image.specs.Rows.{Bounds}
use Rattle.qtext_image.specs.Counts.{has_ends, is_balanced, is_in_tree}
use Rattle.qtext_image.specs.Faults.{ImageFault, BadCount}

-- the uses that are told of a holder are the state's, and its grace ends stand exactly where they have to
abbrev pub is_told_right : State → HolderPart → Bool
is_told_right S t =
    t.blocks == use_of S t.holder.kind t.holder.id Blocks && t.inodes == use_of S t.holder.kind t.holder.id Inodes
    && has_ends (account_of S t.holder)

-- the inode has as many names as it may, and they lead up to the root
abbrev pub is_placed : State → ℕ × Inode → Bool
is_placed S e = has_right_names S e && is_in_tree S e.0

-- the line of the first inode, from this line on, that is not placed; the rows of its blocks stand behind each
abbrev pub inodes_line : State → ℕ → List (ℕ × Inode) → Option ℕ
inodes_line S line [] = None
inodes_line S line (e ∷ es) =
    if is_placed S e then inodes_line S (line + 1 + blocks_of e.1.file) es else Some line

-- the line of the first record, from this line on, that is not told right; and where all are, of the first inode
-- behind them that is not placed
abbrev pub records_line : State → ℕ → List HolderPart → Option ℕ
records_line S line [] = inodes_line S line S.inodes
records_line S line (t ∷ ts) = if is_told_right S t then records_line S (line + 1) ts else Some line

-- the first line of all: that of the bounds, where the totals are not within them or no root stands
abbrev pub end_line : State → List HolderPart → Option ℕ
end_line S records =
    if is_balanced S (Bounds S.size S.most_inodes S.next) then records_line S 4 records else Some 2

-- a count is wrong in this line, if there is one
abbrev pub bad_count : Option ℕ → Option ImageFault
bad_count None = None
bad_count (Some line) = Some (record { line = line; kind = BadCount })

-- the bounds, and the uses that are told, are numbers of 64 bits, as the types of code have them
pub record AreCountsTyped (s : Sections) : Type 0 where
  pub size : s.size < 2 ^ 64
  pub most : s.most < 2 ^ 64
  pub records : AllByRecursion (λ t. (t.blocks < 2 ^ 64) × (t.inodes < 2 ^ 64)) s.records
