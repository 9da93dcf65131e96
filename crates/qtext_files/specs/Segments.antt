-- Journals that begin at a place: what they say, or the first line at fault with the first thing wrong in it, and how
-- they are spelled out.
use Rattle.std.specs.Prelude.{◌≡◌, ℕ, ◌^◌, ◌==◌, not, List, [], ◌∷◌, ◌++◌, codes, decimal, Result, Ok, Err}
use Rattle.std.specs.Prelude.{if◌then◌else◌}
use Rattle.std.specs.List.{flat_map, join_with_byte, list_all}
use Rattle.qplain.specs.declared.edition.Edition.{Edition}
use Rattle.qplain.specs.Journals.{Written}
use Rattle.qtext.specs.declared.text_fault.TextKind.{TextKind}
use Rattle.qtext.specs.declared.text_fault.TextKind.TheVariants.{BadByte, BadHead, Cut}
use Rattle.qtext.specs.declared.text_fault.TextFault.{TextFault}
use Rattle.qtext.specs.Reading.{◌>>=◌, each_of}
use Rattle.qtext.specs.Words.{is_text_byte, number_of, words}
use Rattle.qtext_files.specs.declared.placed.Placed.{Placed}
use Rattle.qtext_files.specs.declared.segment.Segment.{Segment}
use Rattle.qtext_files.specs.Journals.{at_entry, head_in, head_keyword, head_told}
use Rattle.qtext_files.specs.RawLines.{RawLine, in_line, raw_lines}
use Rattle.qtext_files.specs.Spelling.{entry_text, head_words}

-- the greatest place at which a journal may begin
abbrev pub MAX_PLACE : ℕ
MAX_PLACE = 2 ^ 63

-- a place, which is not the first
unfoldable pub place_of : List ℕ → Result ℕ TextKind
place_of word = do
  place ← number_of BadHead MAX_PLACE word
  if place == 0 then Err BadHead else Ok place

-- quotafs journal E workers W from PLACE in its seven words
unfoldable pub placed_told : List ℕ → List ℕ → List ℕ → List ℕ → List ℕ → List ℕ → List ℕ → Result Placed TextKind
placed_told q j e n w f p = do
  head ← head_told q j e n w
  word ← head_keyword (codes "from") f
  place ← place_of p
  Ok (record { head = head; from = place })

-- the words of a head, and from PLACE behind it where the place is not 0
unfoldable pub placed_in : List (List ℕ) → Result Placed TextKind
placed_in (q ∷ j ∷ e ∷ n ∷ w ∷ f ∷ p ∷ []) = placed_told q j e n w f p
placed_in ws = do
  head ← head_in ws
  Ok (record { head = head; from = 0 })

-- what the first line tells, or the first thing wrong in it
unfoldable pub placed_of : RawLine → Result Placed TextKind
placed_of l =
    if not l.whole then Err Cut
    else if not (list_all is_text_byte l.bytes) then Err BadByte
    else placed_in (words l.bytes)

-- what the lines of a segment say, as those of a journal
unfoldable pub segment_in : List RawLine → Result Segment TextFault
segment_in [] = Err (record { line = 1; kind = BadHead })
segment_in (first ∷ lines) = do
  placed ← in_line 1 (placed_of first)
  entries ← each_of (at_entry placed.head) lines
  Ok (record {
    from = placed.from;
    journal = record { edition = placed.head.edition; workers = placed.head.workers; entries = entries };
  })

-- what a segment says: the place at which it begins and the journal from there, or the first line at fault
abbrev pub segment_of : List ℕ → Result Segment TextFault
segment_of text = segment_in (raw_lines text)

-- ---- spelled out

-- from PLACE, where the place is not 0
abbrev pub from_words : ℕ → List (List ℕ)
from_words from = if from == 0 then [] else codes "from" ∷ decimal from ∷ []

-- the same, with the space before each word
abbrev pub from_text : ℕ → List ℕ
from_text from = if from == 0 then [] else codes " from " ++ decimal from

-- quotafs journal E workers W from PLACE
abbrev pub placed_words : ℕ → Edition → ℕ → List (List ℕ)
placed_words from edition workers = head_words edition workers ++ from_words from

-- the first line
abbrev pub placed_text : ℕ → Edition → ℕ → List ℕ
placed_text from edition workers = join_with_byte 0x20 (placed_words from edition workers) ++ 10 ∷ []

-- a journal that begins at a place, spelled out: at 0 it is the journal's own spelling
abbrev pub segment_spelling : ℕ → Written → List ℕ
segment_spelling from j = placed_text from j.edition j.workers ++ flat_map entry_text j.entries

-- what is spelled out of the journal at this place says that
abbrev pub CanBeReadFrom : ℕ → Written → Type 0
CanBeReadFrom from j = segment_of (segment_spelling from j) ≡ Ok (record { from = from; journal = j })
