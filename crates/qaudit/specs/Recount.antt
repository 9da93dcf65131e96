-- What rows of inodes and names come to, whoever made them (quotacheck(8)).
use Rattle.std.specs.Prelude.{ℕ, ◌+◌, Bool, false, ◌&&◌, ◌==◌, if◌then◌else◌, List, [], length, map, sum_by, count_by}
use Rattle.std.specs.Prelude.{Option, Some, None}
use Rattle.std.specs.BTreeSet.{insert_key}
use Rattle.std.specs.List.{filter_map, fold, list_any}
use Rattle.std.specs.Ordering.{nat_cmp}
use Rattle.qrules.specs.declared.inode_row.InodeRow.{InodeRow}
use Rattle.qrules.specs.declared.kind.Kind.{Kind}
use Rattle.qrules.specs.declared.kind.Kind.TheVariants.{User, Group, Project}
use Rattle.qrules.specs.Kinds.{by_kind, is_id}
use Rattle.qrules.specs.declared.name_row.NameRow.{NameRow}
use Rattle.qaudit.specs.declared.counts.Counts.{Counts}
use Rattle.qaudit.specs.declared.counts.CountRow.{CountRow}
use Rattle.qaudit.specs.declared.counts.LinkRow.{LinkRow}

-- whose the row is: each row is a user's and a group's, and a project's where it tells of one
abbrev pub owner_of : Kind → InodeRow → Option ℕ
owner_of kind row = by_kind (Some row.uid) (Some row.gid) row.project kind

-- the row is this owner's
abbrev pub is_owned : Kind → ℕ → InodeRow → Bool
is_owned kind id row = is_id id (owner_of kind row)

-- what the row adds to this owner's blocks
abbrev pub blocks_to : Kind → ℕ → InodeRow → ℕ
blocks_to kind id row = if is_owned kind id row then row.blocks else 0

-- what an owner's rows come to: the sum of their blocks, and how many they are
abbrev pub count_of : Kind → List InodeRow → ℕ → CountRow
count_of kind inodes id = record {
  id = id;
  blocks = sum_by (blocks_to kind id) inodes;
  inodes = count_by (is_owned kind id) inodes;
}

-- the numbers in ascending order, each once
abbrev pub ascending : List ℕ → List ℕ
ascending numbers = fold (insert_key nat_cmp) [] numbers

-- what each owner's rows come to, by id; a row without an owner of the kind is counted for nobody
abbrev pub counts_by : Kind → List InodeRow → List CountRow
counts_by kind inodes = map (count_of kind inodes) (ascending (filter_map (owner_of kind) inodes))

-- how many names lead to this number
abbrev pub names_to : List NameRow → ℕ → ℕ
names_to names number = count_by (λ n. n.ino == number) names

-- some row of a directory has this number
abbrev pub is_directory : List InodeRow → ℕ → Bool
is_directory inodes number = list_any (λ row. row.dir && row.ino == number) inodes

-- how many names in the directory of this number lead to directories
abbrev pub subdirectories : List InodeRow → List NameRow → ℕ → ℕ
subdirectories inodes names number = count_by (λ n. n.dir == number && is_directory inodes n.ino) names

-- the links of a row: of a file the names that lead to it, of a directory 2 and its subdirectories
abbrev pub counted_links : List InodeRow → List NameRow → InodeRow → ℕ
counted_links inodes names row =
    if row.dir then 2 + subdirectories inodes names row.ino else names_to names row.ino

-- the link count that a row shows, beside the counted one
abbrev pub link_row : List InodeRow → List NameRow → InodeRow → LinkRow
link_row inodes names row = record {
  ino = row.ino;
  recorded = row.links;
  counted = counted_links inodes names row;
}

-- what the rows come to: by user, by group, by project, in all, and the links row by row
abbrev pub recount_of : List InodeRow → List NameRow → Counts
recount_of inodes names = record {
  users = counts_by User inodes;
  groups = counts_by Group inodes;
  projects = counts_by Project inodes;
  blocks = sum_by (λ row. row.blocks) inodes;
  inodes = length inodes;
  links = map (link_row inodes names) inodes;
}
