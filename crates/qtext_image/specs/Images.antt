-- What an image says: an edition, how many calls there were before it, and a state; or the line that is told to be at
-- fault.
use Rattle.std.specs.Prelude.{ℕ, ◌+◌, ◌^◌, Bool, false, not, List, [], ◌∷◌, ◌++◌, codes, Option, Some, None}
use Rattle.std.specs.Prelude.{Result, Ok, Err, if◌then◌else◌}
use Rattle.std.specs.List.{list_all}
use Rattle.std.specs.Str.{bytes_eq}
use Rattle.qplain.specs.declared.edition.Edition.{Edition}
use Rattle.qplain.specs.Editions.{file_limit_of}
use Rattle.qplain.specs.State.{State}
use Rattle.qplain_image.specs.Rows.{Row, made_of, rows_of}
use Rattle.qtext.specs.declared.text_fault.TextKind.{TextKind}
use Rattle.qtext.specs.declared.text_fault.TextKind.TheVariants.{BadByte, BadHead, Cut, TooMany}
use Rattle.qtext.specs.Reading.{◌>>=◌}
use Rattle.qtext.specs.Words.{is_text_byte, number_of, words}
use Rattle.qtext_files.specs.Journals.{edition_of, head_keyword}
use Rattle.qtext_files.specs.RawLines.{RawLine, raw_lines}
use Rattle.qtext_image.specs.Counts.{count_fault}
use Rattle.qtext_image.specs.Faults.{ImageFault, ImageKind, InText, row_fault}
use Rattle.qtext_image.specs.RowsRead.{row_in}

-- what may be wrong in any text is wrong in this line
abbrev pub in_text : {A : Type 0} → ℕ → Result A TextKind → Result A ImageFault
in_text line (Ok x) = Ok x
in_text line (Err kind) = Err (record { line = line; kind = InText kind })

-- the rows, unless something is wrong with the last of them, which stands in this line
abbrev pub unless_wrong : ℕ → List Row → Option ImageKind → Result (List Row) ImageFault
unless_wrong line rows None = Ok rows
unless_wrong line rows (Some kind) = Err (record { line = line; kind = kind })

-- the rows, unless something is wrong with them at the end
abbrev pub unless_miscounted : List Row → Option ImageFault → Result (List Row) ImageFault
unless_miscounted rows None = Ok rows
unless_miscounted rows (Some fault) = Err fault

-- the words of a whole line of bytes that a text may have
unfoldable pub words_of : RawLine → Result (List (List ℕ)) TextKind
words_of l =
    if not l.whole then Err Cut
    else if not (list_all is_text_byte l.bytes) then Err BadByte
    else Ok (words l.bytes)

-- the most calls before an image
abbrev pub MAX_PLACE : ℕ
MAX_PLACE = 2 ^ 63

-- the edition and the place
pub record Head : Type 0 where
  pub edition : Edition
  pub place : ℕ

-- quotafs image E at PLACE
unfoldable pub head_in : List (List ℕ) → Result Head TextKind
head_in (q ∷ i ∷ e ∷ a ∷ p ∷ []) = do
  program ← head_keyword (codes "quotafs") q
  image ← head_keyword (codes "image") i
  edition ← edition_of e
  at ← head_keyword (codes "at") a
  place ← number_of BadHead MAX_PLACE p
  Ok (record { edition = edition; place = place })
head_in _ = Err BadHead

-- the words are those of the last line
unfoldable pub is_end : List (List ℕ) → Bool
is_end [] = false
is_end (e ∷ []) = bytes_eq e (codes "end")
is_end (e ∷ other ∷ rest) = false

-- the rows of an image of this file limit at its end, behind which no line stands
unfoldable pub rows_at_end : ℕ → List Row → List RawLine → Result (List Row) ImageFault
rows_at_end limit rows [] =
    let S = made_of limit rows in unless_miscounted rows (count_fault S 2 rows (rows_of S))
rows_at_end limit rows (l ∷ ls) = Err (record { line = l.number; kind = InText TooMany })

-- the rows of an image of this file limit, those before this line and those in all lines up to the last, which is
-- there
unfoldable pub rows_up_to_end : ℕ → ℕ → List Row → List RawLine → Result (List Row) ImageFault
rows_up_to_end limit line rows [] = Err (record { line = line; kind = InText Cut })
rows_up_to_end limit line rows (l ∷ ls) = do
  w ← in_text line (words_of l)
  if is_end w then rows_at_end limit rows ls else (do
    row ← in_text line (row_in w)
    more ← unless_wrong line (rows ++ row ∷ []) (row_fault limit (rows ++ row ∷ []))
    rows_up_to_end limit (line + 1) more ls)

-- what an image says
pub record Said : Type 0 where
  pub edition : Edition
  pub place : ℕ
  pub state : State

-- what the lines of an image say
unfoldable pub image_in : List RawLine → Result Said ImageFault
image_in [] = Err (record { line = 1; kind = InText BadHead })
image_in (first ∷ lines) = do
  w ← in_text 1 (words_of first)
  head ← in_text 1 (head_in w)
  rows ← rows_up_to_end (file_limit_of head.edition) 2 [] lines
  Ok (record {
    edition = head.edition;
    place = head.place;
    state = made_of (file_limit_of head.edition) rows;
  })

-- what an image says
abbrev pub image_of : List ℕ → Result Said ImageFault
image_of text = image_in (raw_lines text)
