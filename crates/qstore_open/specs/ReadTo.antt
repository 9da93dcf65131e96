-- What was read of the lines of an image so far.
use Rattle.std.specs.Prelude.{◌≡◌, ◌⊎◌, ℕ, List, [], ◌∷◌, ◌++◌, Some, None, Result, Ok, Err}
use Rattle.std.specs.List.{AllByRecursion, fold}
use Rattle.qplain_image.specs.Parts.{HolderPart}
use Rattle.qplain_image.specs.Rows.{Row, made_of}
use Rattle.qtext.specs.declared.text_fault.TextKind.{TextKind}
use Rattle.qtext_files.specs.RawLines.{RawLine}
use Rattle.qtext_image.specs.Faults.{ImageFault, ImageKind, InText, row_fault}
use Rattle.qtext_image.specs.Held.{IsRow}
use Rattle.qtext_image.specs.Images.{rows_at_end, rows_up_to_end}
use Rattle.qtext_image.specs.NextFaults.{next_fault}
use Rattle.qtext_image_read.specs.Lines.{line_in}
use Rattle.qstore_open.specs.declared.image_fault.ImageFault as declared
use Rattle.qstore_open.specs.declared.lines.Taken.{Taken}
use Rattle.qstore_open.specs.declared.lines.Taken.TheVariants as taken
use Rattle.qstore_open.specs.declared.open_fault.OpenFault.{OpenFault}
use Rattle.qstore_open.specs.declared.open_fault.OpenFault.TheVariants as refusals
use Rattle.qstore_open.specs.declared.row_fault.RowFault.{RowFault}
use Rattle.qstore_open.specs.declared.row_fault.RowFault.TheVariants as faults
use Rattle.qstore_open.specs.Faults.{kind_of}
use Rattle.qstore_open.specs.Told.{Told, records_more, told_more}

-- what the records of rows tell
abbrev pub records_of : List Row → List HolderPart
records_of rows = fold records_more [] rows

-- behind the rows before them, none of these is at fault
abbrev pub DoPass : ℕ → List Row → List Row → Type 0
DoPass limit before [] = Unit {0}
DoPass limit before (r ∷ rs) = (row_fault limit (before ++ r ∷ []) ≡ None) × DoPass limit (before ++ r ∷ []) rs

-- these rows of an image of this file limit, of which none is at fault, tell this
pub record IsToldBy (limit : ℕ) (rows : List Row) (told : Told) : Type 0 where
  pub typed : AllByRecursion IsRow rows
  pub pass : DoPass limit [] rows
  pub state : made_of limit rows ≡ told.state
  pub records : records_of rows ≡ told.records

-- some rows tell this, and what is read of the lines that are left, from this one on, is what is read of all
pub record IsReadTo (limit : ℕ) (all : List RawLine) (line : ℕ) (rest : List RawLine) (told : Told) : Type 0 where
  pub rows : List Row
  pub tell : IsToldBy limit rows told
  pub same : rows_up_to_end limit 2 [] all ≡ rows_up_to_end limit line rows rest

-- this is wrong with a line behind those that have told so much: its text, or its row
abbrev pub IsWrong : RawLine → Told → ImageKind → Type 0
IsWrong l told kind = ((k : TextKind) × (line_in l ≡ Err k) × (kind ≡ InText k))
    ⊎ ((row : Row) × (line_in l ≡ Ok (Some row)) × (next_fault told.state row ≡ Some kind))

-- the last line tells nothing more, and any other a row of which nothing is wrong; else this is wrong with the line,
-- unless memory ran out
abbrev pub TakesLine : RawLine → Told → Told → Result Taken RowFault → Type 0
TakesLine l old new (Ok taken.End) = (line_in l ≡ Ok None) × (new ≡ old)
TakesLine l old new (Ok taken.Row) = (row : Row) × (line_in l ≡ Ok (Some row)) × (next_fault old.state row ≡ None)
    × (new ≡ told_more old row)
TakesLine l old new (Err faults.Memory) = Unit {0}
TakesLine l old new (Err (faults.Row kind)) = IsWrong l old (kind_of kind)

-- what the value says is wrong
abbrev pub fault_of : declared.ImageFault → ImageFault
fault_of f = record { line = f.line; kind = kind_of f.kind }

-- the rows of all these lines up to the last tell this, and nothing stands behind; else this is wrong with the lines,
-- unless memory ran out
abbrev pub TakesLines : ℕ → List RawLine → Told → Result Unit OpenFault → Type 0
TakesLines limit lines told (Ok done) = (rows : List Row) × IsToldBy limit rows told
    × (rows_up_to_end limit 2 [] lines ≡ rows_at_end limit rows [])
TakesLines limit lines told (Err refusals.Memory) = Unit {0}
TakesLines limit lines told (Err (refusals.Image fault)) = rows_up_to_end limit 2 [] lines ≡ Err (fault_of fault)

-- what is told of a row's fault in this line
abbrev pub in_line : ℕ → RowFault → OpenFault
in_line line faults.Memory = refusals.Memory
in_line line (faults.Row kind) = refusals.Image (record { line = line; kind = kind })

-- nothing stands behind the last line; else this is wrong there
abbrev pub IsBehind : ℕ → List Row → List RawLine → Result Unit OpenFault → Type 0
IsBehind limit rows lines (Ok done) = lines ≡ []
IsBehind limit rows lines (Err refusals.Memory) = ⊥
IsBehind limit rows lines (Err (refusals.Image fault)) = rows_at_end limit rows lines ≡ Err (fault_of fault)
