-- What an audit found, as text (profile).
use Rattle.std.specs.Prelude.{ℕ, List, [], ◌∷◌, ◌++◌, codes, decimal, length, if◌then◌else◌, ◌==◌}
use Rattle.std.specs.List.{concat, flat_map}
use Rattle.qrules.specs.declared.kind.Kind.{Kind}
use Rattle.qrules.specs.declared.record_row.RecordRow.{RecordRow}
use Rattle.qtext.specs.RuleWords.{kind_text}
use Rattle.qaudit.specs.declared.counts.CountRow.{CountRow}
use Rattle.qaudit.specs.declared.counts.LinkRow.{LinkRow}
use Rattle.qaudit.specs.declared.difference.Difference.{Difference}
use Rattle.qaudit.specs.declared.difference.Difference.TheVariants.{Uses, NoRow, Links}

-- the line of a record that shows other uses than were counted: of blocks and of inodes the recorded use, then the
-- counted
abbrev pub use_text : Kind → RecordRow → CountRow → List ℕ
use_text kind r counted = concat (
    kind_text kind ∷ codes " " ∷ decimal r.id
    ∷ codes " blocks " ∷ decimal r.blocks ∷ codes " " ∷ decimal counted.blocks
    ∷ codes " inodes " ∷ decimal r.inodes ∷ codes " " ∷ decimal counted.inodes ∷ codes "\n" ∷ [])

-- the line of an owner without a record
abbrev pub owner_text : Kind → CountRow → List ℕ
owner_text kind counted = concat (
    kind_text kind ∷ codes " " ∷ decimal counted.id ∷ codes " no record blocks " ∷ decimal counted.blocks
    ∷ codes " inodes " ∷ decimal counted.inodes ∷ codes "\n" ∷ [])

-- the line of an inode whose link counts differ: the recorded one, then the counted
abbrev pub link_text : LinkRow → List ℕ
link_text l = concat (
    codes "inode " ∷ decimal l.ino ∷ codes " links " ∷ decimal l.recorded ∷ codes " " ∷ decimal l.counted
    ∷ codes "\n" ∷ [])

-- the line of a difference
abbrev pub difference_text : Difference → List ℕ
difference_text (Uses kind r counted) = use_text kind r counted
difference_text (NoRow kind counted) = owner_text kind counted
difference_text (Links l) = link_text l

-- the line over the differences: how many there are, and that all is well where there are none
abbrev pub audit_head : ℕ → List ℕ
audit_head count = if count == 0 then codes "audit ok\n" else concat (codes "audit " ∷ decimal count ∷ codes "\n" ∷ [])

-- what an audit found
abbrev pub audit_text : List Difference → List ℕ
audit_text differences = audit_head (length differences) ++ flat_map difference_text differences
