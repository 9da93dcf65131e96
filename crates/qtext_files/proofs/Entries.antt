-- What is said of a line that holds an entry, or a fault.
use Rattle.std.proofs.Common.{◌≡◌, ◌⊎◌, ℕ, List, ◌∷◌, length, Result, Ok, Err, refl, sym, ap, inl, inr}
use Rattle.qplain.specs.declared.entry.Entry.{Entry}
use Rattle.qtext.specs.declared.text_fault.TextFault.{TextFault}
use Rattle.qtext.specs.declared.text_fault.TextKind.{TextKind}
use Rattle.qtext.specs.declared.text_fault.TextKind.TheVariants.{BadHead}
use Rattle.qtext.specs.Reading.{each_of}
use Rattle.qtext.specs.TextFaults.{want_of_memory}
use Rattle.qtext_files.specs.declared.head.Head.{Head}
use Rattle.qtext_files.specs.RawLines.{RawLine, in_line, raw_lines}
use Rattle.qtext_files.proofs.RawLines.{no_line_of}
use Rattle.qtext_files.specs.Journals.{at_entry, journal_entry_of, head_of, journal_in, journal_of}
use Rattle.qplain.specs.Journals.{Written}

pub at_entry_is : (head : Head) (l : RawLine) → in_line l.number (journal_entry_of head l) ≡ at_entry head l
unfolding at_entry
at_entry_is head l = refl

-- ---- a journal, from its lines

pub no_head : (text : List ℕ) → length text ≡ 0 → journal_of text ≡ Err (record { line = 1; kind = BadHead })
unfolding journal_in
no_head text none = rw (no_line_of 1 text none) refl

pub head_fault : (text : List ℕ) (l : RawLine) (ls : List RawLine) (kind : TextKind) → raw_lines text ≡ l ∷ ls → head_of l ≡ Err kind
    → journal_of text ≡ Err (record { line = 1; kind = kind })
unfolding journal_in
head_fault text l ls kind cut fault = rw (cut, fault) refl

pub entries_fault : (text : List ℕ) (l : RawLine) (ls : List RawLine) (head : Head) (fault : TextFault) → raw_lines text ≡ l ∷ ls
    → head_of l ≡ Ok head → each_of (at_entry head) ls ≡ Err fault → journal_of text ≡ Err fault
unfolding journal_in
entries_fault text l ls head fault cut told read = rw (cut, told, read) refl

pub all_read : (text : List ℕ) (l : RawLine) (ls : List RawLine) (head : Head) (entries : List Entry) → raw_lines text ≡ l ∷ ls
    → head_of l ≡ Ok head → each_of (at_entry head) ls ≡ Ok entries
    → journal_of text ≡ Ok (record { edition = head.edition; workers = head.workers; entries = entries })
unfolding journal_in
all_read text l ls head entries cut told read = rw (cut, told, read) refl

abbrev failed : TextFault → Result Written TextFault
failed fault = Err fault

-- what was answered, where the entries were at fault or memory was wanting
pub entries_told : (text : List ℕ) (l : RawLine) (ls : List RawLine) (head : Head) (fault : TextFault) → raw_lines text ≡ l ∷ ls → head_of l ≡ Ok head
    → (fault ≡ want_of_memory) ⊎ (each_of (at_entry head) ls ≡ Err fault)
    → (failed fault ≡ journal_of text) ⊎ (failed fault ≡ Err want_of_memory)
entries_told text l ls head fault cut told (inl e) = inr (ap failed e)
entries_told text l ls head fault cut told (inr e) = inl (sym (entries_fault text l ls head fault cut told e))
