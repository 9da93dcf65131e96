-- The report as records of CSV, in the columns of `repquota -O csv` (repquota(8)), each as the kit's writer writes it.
use Rattle.std.specs.Prelude.{ℕ, ◌-◌, ◌&&◌, not, nat_lt, List, [], ◌∷◌, ◌++◌, Option, Some, None, codes, decimal}
use Rattle.std.specs.Prelude.{◌==◌, if◌then◌else◌}
use Rattle.std.specs.List.{flat_map, list_any}
use Rattle.csv.specs.Writing.{comma, default_writer, field_text, quote_mark, row_text}
use Rattle.qrules.specs.Kinds.{is_same_kind}
use Rattle.qrules.specs.Sort.{Inodes, Blocks, amount_of, is_over}
use Rattle.qrules.specs.declared.kind.Kind.{Kind}
use Rattle.qrules.specs.declared.kind.Kind.TheVariants.{User, Group, Project}
use Rattle.qrules.specs.declared.record_row.RecordRow.{RecordRow}
use Rattle.qtext.specs.declared.view.View.{View}
use Rattle.qtext_outcome.specs.Reports.{is_over_any}

-- what stands for a byte between the quotes of a field
abbrev pub doubled_byte : ℕ → List ℕ
doubled_byte byte = if byte == quote_mark then quote_mark ∷ byte ∷ [] else byte ∷ []

-- a field behind another
abbrev pub next_field : List ℕ → List ℕ
next_field field = comma ∷ field_text default_writer field

-- the head of a kind's names
abbrev pub kind_head : Kind → List ℕ
kind_head User = codes "User"
kind_head Group = codes "Group"
kind_head Project = codes "Project"

-- the heads of a kind's columns
abbrev pub csv_heads : Kind → List (List ℕ)
csv_heads kind = kind_head kind ∷ codes "BlockStatus" ∷ codes "FileStatus" ∷ codes "BlockUsed" ∷ codes "BlockSoftLimit"
    ∷ codes "BlockHardLimit" ∷ codes "BlockGrace" ∷ codes "FileUsed" ∷ codes "FileSoftLimit" ∷ codes "FileHardLimit"
    ∷ codes "FileGrace" ∷ []

-- how a use stands to its limits: over the hard one, else over the soft one, else neither
abbrev pub status_text : ℕ → ℕ → ℕ → List ℕ
status_text used soft hard = if is_over used hard then codes "hard" else if is_over used soft then codes "soft"
    else codes "ok"

-- what is left of a grace at a moment: nothing where none runs, the seconds, or none
abbrev pub grace_left : ℕ → Option ℕ → List ℕ
grace_left moment None = []
grace_left moment (Some end) = if nat_lt moment end then decimal (end - moment) else codes "none"

-- the fields of a record: its name, how its uses stand, KiB in use, their limits and grace, inodes, theirs
abbrev pub csv_fields : ℕ → RecordRow → List (List ℕ)
csv_fields moment r = r.name
    ∷ status_text (amount_of Blocks r.blocks) r.limits.block_soft r.limits.block_hard
    ∷ status_text (amount_of Inodes r.inodes) r.limits.inode_soft r.limits.inode_hard
    ∷ decimal (amount_of Blocks r.blocks) ∷ decimal r.limits.block_soft ∷ decimal r.limits.block_hard
    ∷ grace_left moment r.block_end
    ∷ decimal r.inodes ∷ decimal r.limits.inode_soft ∷ decimal r.limits.inode_hard ∷ grace_left moment r.inode_end ∷ []

-- a record of this kind, and nothing of one of another, nor of one that is over no limit where only those are asked for
abbrev pub csv_record : View → Kind → ℕ → RecordRow → List ℕ
csv_record view kind moment r =
    if not (is_same_kind r.kind kind) then []
    else if view.over && not (is_over_any r) then []
    else row_text default_writer (csv_fields moment r)

-- a kind's heads and its records, and nothing where it has none
abbrev pub csv_kind : View → Kind → List RecordRow → ℕ → List ℕ
csv_kind view kind rows moment =
    if list_any (λ r. is_same_kind r.kind kind) rows
    then row_text default_writer (csv_heads kind) ++ flat_map (csv_record view kind moment) rows
    else []

-- the report, kind by kind
abbrev pub csv_text : View → List RecordRow → ℕ → List ℕ
csv_text view rows moment = csv_kind view User rows moment
    ++ (csv_kind view Group rows moment ++ csv_kind view Project rows moment)
