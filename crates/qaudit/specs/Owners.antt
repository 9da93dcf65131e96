-- How the rows of owners are counted, those of one owner in a row together. No public clause cites this module.
use Rattle.std.specs.Prelude.{ℕ, ◌+◌, ◌==◌, if◌then◌else◌, List, Option, Some, None}
use Rattle.std.specs.BTreeMap.{BTreeMap, get, keys}
use Rattle.std.specs.BTreeSet.{insert_key}
use Rattle.std.specs.Option.{unwrap_or}
use Rattle.std.specs.Ordering.{nat_cmp}
use Rattle.qaudit.specs.declared.counts.CountRow.{CountRow}
use Rattle.qaudit.specs.Differences.{no_use}

-- what is counted of an owner so far
abbrev pub counted_at : BTreeMap ℕ CountRow → ℕ → CountRow
counted_at counts id = unwrap_or (get nat_cmp counts id) (no_use id)

-- a count, with one row of N blocks more
abbrev pub with_row : CountRow → ℕ → CountRow
with_row count blocks = record { id = count.id; blocks = count.blocks + blocks; inodes = count.inodes + 1 }

-- a count, with that of a run of rows
abbrev pub with_run : CountRow → CountRow → CountRow
with_run count run = record { id = count.id; blocks = count.blocks + run.blocks; inodes = count.inodes + run.inodes }

-- the owners with that of a row, which may have none
abbrev pub with_owner : List ℕ → Option ℕ → List ℕ
with_owner owners None = owners
with_owner owners (Some id) = insert_key nat_cmp owners id

-- the owners that are counted, and that of a run, unless it has no rows
abbrev pub keys_with : BTreeMap ℕ CountRow → CountRow → List ℕ
keys_with counts run = if run.inodes == 0 then keys counts else insert_key nat_cmp (keys counts) run.id

-- what is counted of an owner, with the run where it is the owner's
abbrev pub counted_with : BTreeMap ℕ CountRow → CountRow → ℕ → CountRow
counted_with counts run q =
    if run.inodes == 0 then counted_at counts q
    else if run.id == q then with_run (counted_at counts q) run
    else counted_at counts q
