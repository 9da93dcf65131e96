-- The report as a view shows it (profile, after repquota(8)).
use Rattle.std.specs.Prelude.{ℕ, ◌||◌, ◌&&◌, Bool, not, List, [], ◌∷◌, ◌++◌, codes, if◌then◌else◌}
use Rattle.std.specs.List.{concat, flat_map}
use Rattle.qrules.specs.Sort.{Inodes, Blocks, amount_of, is_over}
use Rattle.qrules.specs.declared.record_row.RecordRow.{RecordRow}
use Rattle.qtext.specs.Pieces.{left_in}
use Rattle.qtext.specs.RuleWords.{kind_text}
use Rattle.qtext.specs.declared.view.View.{View}
use Rattle.qaudit.specs.Reports.{column, flag_text, grace_text, row_text}
use Rattle.qtext_outcome.specs.Units.{count_text, space_text}

-- the heads of the report's columns, each in its place: kind, name, the flags for blocks and inodes; space in use, in
-- KiB or with its unit, its limits and grace; inodes, their limits and grace
abbrev pub heads_text : View → List ℕ
heads_text view = (
    if view.human_readable then codes "kind    name             bi      space       soft       hard      grace"
    else codes "kind    name             bi        KiB       soft       hard      grace"
    )
    ++ codes "     inodes       soft       hard      grace\n"

-- whether a record's use is over a limit, soft or hard, of blocks or of inodes
abbrev pub is_over_any : RecordRow → Bool
is_over_any r = is_over (amount_of Blocks r.blocks) r.limits.block_soft
    || (is_over (amount_of Blocks r.blocks) r.limits.block_hard
    || (is_over (amount_of Inodes r.inodes) r.limits.inode_soft
    || is_over (amount_of Inodes r.inodes) r.limits.inode_hard))

-- the begin of a line: kind, name and flags
abbrev pub row_start : RecordRow → List ℕ
row_start r = concat (left_in 7 (kind_text r.kind) ∷ codes " " ∷ left_in 16 r.name ∷ codes " "
    ∷ flag_text (is_over (amount_of Blocks r.blocks) r.limits.block_soft)
    ∷ flag_text (is_over (amount_of Inodes r.inodes) r.limits.inode_soft) ∷ [])

-- space in use, its limits and grace
abbrev pub space_columns : ℕ → RecordRow → List ℕ
space_columns moment r =
    (column (space_text (amount_of Blocks r.blocks)) ++ column (space_text r.limits.block_soft))
    ++ (column (space_text r.limits.block_hard) ++ column (grace_text moment r.block_end))

-- inodes in use, their limits and grace
abbrev pub inode_columns : ℕ → RecordRow → List ℕ
inode_columns moment r =
    (column (count_text r.inodes) ++ column (count_text r.limits.inode_soft))
    ++ (column (count_text r.limits.inode_hard) ++ column (grace_text moment r.inode_end))

-- a line of the report with amounts in larger units
abbrev pub human_row : ℕ → RecordRow → List ℕ
human_row moment r = row_start r ++ (space_columns moment r ++ (inode_columns moment r ++ codes "\n"))

-- a record's line, and none of one that is over no limit where only those are asked for
abbrev pub shown_row : View → ℕ → RecordRow → List ℕ
shown_row view moment r = if view.over && not (is_over_any r) then []
    else if view.human_readable then human_row moment r else row_text moment r

-- the lines of the report that are asked for
abbrev pub shown_rows : View → List RecordRow → ℕ → List ℕ
shown_rows view rows moment = flat_map (shown_row view moment) rows

-- the report, under its heads where they are asked for
abbrev pub shown_report : View → List RecordRow → ℕ → List ℕ
shown_report view rows moment =
    if view.heads then heads_text view ++ shown_rows view rows moment else shown_rows view rows moment
