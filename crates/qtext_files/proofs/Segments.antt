-- What is said of a journal that begins at a place, from its lines.
use Rattle.std.proofs.Common.{◌≡◌, ◌⊎◌, ℕ, List, ◌∷◌, length, Result, Ok, Err, refl, sym, ap, inl, inr}
use Rattle.qplain.specs.declared.entry.Entry.{Entry}
use Rattle.qtext.specs.declared.text_fault.TextFault.{TextFault}
use Rattle.qtext.specs.declared.text_fault.TextKind.{TextKind}
use Rattle.qtext.specs.declared.text_fault.TextKind.TheVariants.{BadHead}
use Rattle.qtext.specs.Reading.{each_of}
use Rattle.qtext.specs.TextFaults.{want_of_memory}
use Rattle.qtext_files.specs.declared.placed.Placed.{Placed}
use Rattle.qtext_files.specs.declared.segment.Segment.{Segment}
use Rattle.qtext_files.specs.RawLines.{RawLine, raw_lines}
use Rattle.qtext_files.specs.Journals.{at_entry}
use Rattle.qtext_files.specs.Segments.{placed_of, segment_in, segment_of}
use Rattle.qtext_files.proofs.RawLines.{no_line_of}

-- what is read, of its first line and its entries
abbrev pub segment_from : Placed → List Entry → Segment
segment_from placed entries = record {
  from = placed.from;
  journal = record { edition = placed.head.edition; workers = placed.head.workers; entries = entries };
}

pub no_first_line : (text : List ℕ) → length text ≡ 0 → segment_of text ≡ Err (record { line = 1; kind = BadHead })
unfolding segment_in
no_first_line text none = rw (no_line_of 1 text none) refl

pub placed_fault : (text : List ℕ) (l : RawLine) (ls : List RawLine) (kind : TextKind) → raw_lines text ≡ l ∷ ls → placed_of l ≡ Err kind
    → segment_of text ≡ Err (record { line = 1; kind = kind })
unfolding segment_in
placed_fault text l ls kind cut fault = rw (cut, fault) refl

entries_fault : (text : List ℕ) (l : RawLine) (ls : List RawLine) (placed : Placed) (fault : TextFault) → raw_lines text ≡ l ∷ ls
    → placed_of l ≡ Ok placed → each_of (at_entry placed.head) ls ≡ Err fault → segment_of text ≡ Err fault
unfolding segment_in
entries_fault text l ls placed fault cut told read = rw (cut, told, read) refl

pub segment_read : (text : List ℕ) (l : RawLine) (ls : List RawLine) (placed : Placed) (entries : List Entry) → raw_lines text ≡ l ∷ ls
    → placed_of l ≡ Ok placed → each_of (at_entry placed.head) ls ≡ Ok entries → segment_of text ≡ Ok (segment_from placed entries)
unfolding segment_in
segment_read text l ls placed entries cut told read = rw (cut, told, read) refl

abbrev failed : TextFault → Result Segment TextFault
failed fault = Err fault

-- what was answered, where the entries were at fault or memory was wanting
pub segment_told : (text : List ℕ) (l : RawLine) (ls : List RawLine) (placed : Placed) (fault : TextFault) → raw_lines text ≡ l ∷ ls
    → placed_of l ≡ Ok placed → (fault ≡ want_of_memory) ⊎ (each_of (at_entry placed.head) ls ≡ Err fault)
    → (failed fault ≡ segment_of text) ⊎ (failed fault ≡ Err want_of_memory)
segment_told text l ls placed fault cut told (inl e) = inr (ap failed e)
segment_told text l ls placed fault cut told (inr e) = inl (sym (entries_fault text l ls placed fault cut told e))
