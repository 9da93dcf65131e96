-- The report as objects, one a record (profile, after repquota(8)).
use Rattle.std.specs.Prelude.{ℕ, ◌-◌, ◌&&◌, not, List, [], ◌∷◌, Option, Some, None, codes, decimal, if◌then◌else◌}
use Rattle.std.specs.List.{concat, flat_map}
use Rattle.json.specs.Print.{quoted}
use Rattle.qrules.specs.Sort.{Inodes, Blocks, amount_of, is_over}
use Rattle.qrules.specs.declared.record_row.RecordRow.{RecordRow}
use Rattle.qtext.specs.RuleWords.{kind_text}
use Rattle.qtext.specs.declared.view.View.{View}
use Rattle.qtext_outcome.specs.Reports.{is_over_any}
use Rattle.qtext_rows.specs.Values.{flag_text, member, object_start}

-- what is left of a grace at a moment, in seconds: null where none runs, and 0 where it has ended
abbrev pub grace_left : ℕ → Option ℕ → List ℕ
grace_left moment None = codes "null"
grace_left moment (Some end) = decimal (end - moment)

-- a record: whose it is, whether it is over its soft limits, space in KiB, its limits and grace, inodes, theirs
abbrev pub record_object : ℕ → RecordRow → List ℕ
record_object moment r = concat (object_start (codes "record") ∷ member (codes "kind") (quoted (kind_text r.kind))
    ∷ member (codes "name") (quoted r.name) ∷ member (codes "id") (decimal r.id)
    ∷ member (codes "block_over") (flag_text (is_over (amount_of Blocks r.blocks) r.limits.block_soft))
    ∷ member (codes "inode_over") (flag_text (is_over (amount_of Inodes r.inodes) r.limits.inode_soft))
    ∷ member (codes "kib") (decimal (amount_of Blocks r.blocks))
    ∷ member (codes "block_soft") (decimal r.limits.block_soft)
    ∷ member (codes "block_hard") (decimal r.limits.block_hard)
    ∷ member (codes "block_grace") (grace_left moment r.block_end) ∷ member (codes "inodes") (decimal r.inodes)
    ∷ member (codes "inode_soft") (decimal r.limits.inode_soft)
    ∷ member (codes "inode_hard") (decimal r.limits.inode_hard)
    ∷ member (codes "inode_grace") (grace_left moment r.inode_end) ∷ codes "}\n" ∷ [])

-- a record's object, and none of one that is over no limit where only those are asked for
abbrev pub shown_object : View → ℕ → RecordRow → List ℕ
shown_object view moment r = if view.over && not (is_over_any r) then [] else record_object moment r

-- those of the records that are asked for
abbrev pub record_objects : View → List RecordRow → ℕ → List ℕ
record_objects view rows moment = flat_map (shown_object view moment) rows
