-- What a recount finds otherwise than it is recorded (quotacheck(8)).
use Rattle.std.specs.Prelude.{ℕ, Bool, not, ◌&&◌, ◌==◌, List, ◌++◌, map}
use Rattle.std.specs.List.{filter, find, list_any}
use Rattle.std.specs.Option.{unwrap_or}
use Rattle.qrules.specs.declared.kind.Kind.{Kind}
use Rattle.qrules.specs.declared.kind.Kind.TheVariants.{User, Group, Project}
use Rattle.qrules.specs.Kinds.{by_kind, is_same_kind}
use Rattle.qrules.specs.declared.record_row.RecordRow.{RecordRow}
use Rattle.qaudit.specs.declared.counts.Counts.{Counts}
use Rattle.qaudit.specs.declared.counts.CountRow.{CountRow}
use Rattle.qaudit.specs.declared.counts.LinkRow.{LinkRow}
use Rattle.qaudit.specs.declared.difference.Difference.{Difference}
use Rattle.qaudit.specs.declared.difference.Difference.TheVariants.{Uses, NoRow, Links}

-- what is counted of who owns nothing
abbrev pub no_use : ℕ → CountRow
no_use id = record { id = id; blocks = 0; inodes = 0 }

-- what is counted of an id: the first row that has it; of an id in no row nothing
abbrev pub counted_of : List CountRow → ℕ → CountRow
counted_of counts id = unwrap_or (find (λ c. c.id == id) counts) (no_use id)

-- the counts of one kind
abbrev pub counts_in : Kind → Counts → List CountRow
counts_in kind counts = by_kind counts.users counts.groups counts.projects kind

-- what is counted of whom a record is for
abbrev pub counted_for : Counts → RecordRow → CountRow
counted_for counts r = counted_of (counts_in r.kind counts) r.id

-- a record shows other blocks or other inodes than were counted
abbrev pub is_off : CountRow → RecordRow → Bool
is_off counted r = not (r.blocks == counted.blocks && r.inodes == counted.inodes)

-- a record, beside what was counted
abbrev pub use_difference : Counts → RecordRow → Difference
use_difference counts r = Uses r.kind r (counted_for counts r)

-- some record is for this owner
abbrev pub has_record : Kind → List RecordRow → ℕ → Bool
has_record kind records id = list_any (λ r. is_same_kind kind r.kind && id == r.id) records

-- the link counts differ
abbrev pub is_off_by_links : LinkRow → Bool
is_off_by_links l = not (l.recorded == l.counted)

-- the records that show other uses, in order
abbrev pub use_differences : Counts → List RecordRow → List Difference
use_differences counts records =
    map (use_difference counts) (filter (λ r. is_off (counted_for counts r) r) records)

-- the counted owners of a kind for whom there is no record, in order
abbrev pub owners_without_record : Kind → List CountRow → List RecordRow → List Difference
owners_without_record kind counts records =
    map (NoRow kind) (filter (λ c. not (has_record kind records c.id)) counts)

-- the inodes that show other links, in order
abbrev pub link_differences : List LinkRow → List Difference
link_differences links = map Links (filter is_off_by_links links)

-- the records that are off; then the users, the groups and the projects without a record; then the inodes whose links
-- are off
abbrev pub differences_of : Counts → List RecordRow → List Difference
differences_of counts records =
    use_differences counts records
    ++ owners_without_record User counts.users records
    ++ owners_without_record Group counts.groups records
    ++ owners_without_record Project counts.projects records
    ++ link_differences counts.links
