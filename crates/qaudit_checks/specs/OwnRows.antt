-- The rows of a state, and what an audit of them finds.
use Rattle.std.specs.Prelude.{◌≡◌, List, [], map}
use Rattle.qrules.specs.declared.inode_row.InodeRow.{InodeRow}
use Rattle.qrules.specs.declared.name_row.NameRow.{NameRow}
use Rattle.qrules.specs.declared.record_row.RecordRow.{RecordRow}
use Rattle.qplain.specs.State.{State}
use Rattle.qplain_laws.specs.Laws.{IsLawful}
use Rattle.qaudit.specs.declared.difference.Difference.{Difference}
use Rattle.qaudit.specs.Recount.{recount_of}
use Rattle.qaudit.specs.Differences.{differences_of}
use Rattle.qstore.specs.Rows.{inode_row_of, name_row_of, record_row_of}

-- the rows of its inodes
abbrev pub inode_rows : State → List InodeRow
inode_rows S = map (inode_row_of S) S.inodes

-- the rows of its names
abbrev pub name_rows : State → List NameRow
name_rows S = map name_row_of S.names

-- the rows of its records
abbrev pub record_rows : State → List RecordRow
record_rows S = map (record_row_of S) S.holders

-- the recount of its own rows, compared with its own records
abbrev pub differences_in : State → List Difference
differences_in S = differences_of (recount_of (inode_rows S) (name_rows S)) (record_rows S)

-- an audit of a lawful state's own rows finds nothing
abbrev pub OwnRowsAgree : Type 0
OwnRowsAgree = (S : State) → IsLawful S → differences_in S ≡ []
