-- What a line of an image says.
use Rattle.std.specs.Prelude.{◌≡◌, Option, Some, None, Result, Ok, Err, if◌then◌else◌}
use Rattle.qplain_image.specs.Rows.{Row}
use Rattle.qtext.specs.declared.read_fault.ReadFault.{ReadFault}
use Rattle.qtext.specs.declared.text_fault.TextKind.{TextKind}
use Rattle.qtext.specs.Gives.{Fails}
use Rattle.qtext.specs.Reading.{◌>>=◌}
use Rattle.qtext_files.specs.RawLines.{RawLine}
use Rattle.qtext_image.specs.Images.{Head, head_in, is_end, words_of}
use Rattle.qtext_image.specs.RowsRead.{row_in}
use Rattle.qtext_image_read.specs.declared.head.ImageHead.{ImageHead}
use Rattle.qtext_image_read.specs.declared.line.ImageLine.{ImageLine}
use Rattle.qtext_image_read.specs.declared.line.ImageLine.TheVariants as lines
use Rattle.qtext_image_read.specs.ImageRows.{row_of_image_row}

-- what the first line says, or the first thing wrong in it
unfoldable pub head_of : RawLine → Result Head TextKind
head_of l = do
  w ← words_of l
  head_in w

-- what any other line says, or the first thing wrong in it: a row, or none in the last
unfoldable pub line_in : RawLine → Result (Option Row) TextKind
line_in l = do
  w ← words_of l
  if is_end w then Ok None else (do
    row ← row_in w
    Ok (Some row))

-- the head tells of the one that reading gives, unless memory ran out
abbrev pub TellsHead : Result ImageHead ReadFault → Result Head TextKind → Type 0
TellsHead (Ok head) read = read ≡ Ok (record { edition = head.edition; place = head.place })
TellsHead (Err fault) read = Fails fault read

-- the row that a value tells of, or none in the last line
abbrev pub row_of_image_line : ImageLine → Option Row
row_of_image_line lines.End = None
row_of_image_line (lines.Row row) = Some (row_of_image_row row)

-- the value tells of what reading gives, unless memory ran out
abbrev pub TellsLine : Result ImageLine ReadFault → Result (Option Row) TextKind → Type 0
TellsLine (Ok line) read = read ≡ Ok (row_of_image_line line)
TellsLine (Err fault) read = Fails fault read
