-- The report: one line a quota record (profile, after repquota(8)).
use Rattle.std.specs.Prelude.{ℕ, ◌-◌, Bool, List, [], ◌∷◌, codes, decimal, nat_lt, Option, Some, None, if◌then◌else◌}
use Rattle.std.specs.List.{concat, flat_map}
use Rattle.qrules.specs.Sort.{Inodes, Blocks, amount_of, is_over}
use Rattle.qrules.specs.declared.record_row.RecordRow.{RecordRow}
use Rattle.qtext.specs.Pieces.{left_in, right_in}
use Rattle.qtext.specs.RuleWords.{kind_text}

-- a plus where use is over its soft limit, else a dash
abbrev pub flag_text : Bool → List ℕ
flag_text over = if over then codes "+" else codes "-"

-- what is left of a grace at a moment: a dash where none runs, the seconds, or none
abbrev pub grace_text : ℕ → Option ℕ → List ℕ
grace_text moment None = codes "-"
grace_text moment (Some end) = if nat_lt moment end then decimal (end - moment) else codes "none"

-- a space, and a text at the right of ten places
abbrev pub column : List ℕ → List ℕ
column text = concat (codes " " ∷ right_in 10 text ∷ [])

-- a line of the report: kind, name, two flags; KiB in use, their limits and grace; inodes, their limits and grace
abbrev pub row_text : ℕ → RecordRow → List ℕ
row_text moment r = concat (
    left_in 7 (kind_text r.kind) ∷ codes " " ∷ left_in 16 r.name ∷ codes " "
    ∷ flag_text (is_over (amount_of Blocks r.blocks) r.limits.block_soft)
    ∷ flag_text (is_over (amount_of Inodes r.inodes) r.limits.inode_soft)
    ∷ column (decimal (amount_of Blocks r.blocks)) ∷ column (decimal r.limits.block_soft)
    ∷ column (decimal r.limits.block_hard)
    ∷ column (grace_text moment r.block_end)
    ∷ column (decimal r.inodes) ∷ column (decimal r.limits.inode_soft) ∷ column (decimal r.limits.inode_hard)
    ∷ column (grace_text moment r.inode_end) ∷ codes "\n" ∷ [])

-- the report over any rows at any moment
abbrev pub report_text : List RecordRow → ℕ → List ℕ
report_text rows moment = flat_map (row_text moment) rows
