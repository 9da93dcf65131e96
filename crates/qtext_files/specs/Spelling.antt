-- How scripts and journals are spelled out, each in its one spelling.
use Rattle.std.specs.Prelude.{◌≡◌, ℕ, List, [], ◌∷◌, ◌++◌, codes, decimal, Ok}
use Rattle.std.specs.List.{flat_map, join_with_byte}
use Rattle.qplain.specs.Journals.{Written}
use Rattle.qplain.specs.declared.edition.Edition.{Edition}
use Rattle.qplain.specs.declared.edition.Edition.TheVariants.{One, Two}
use Rattle.qplain.specs.declared.entry.Entry.{Entry}
use Rattle.qplain.specs.declared.line.Line.{Line}
use Rattle.qtext_read.specs.RepliesSpelled.{reply_words}
use Rattle.qtext_read.specs.Spelling.{call_words, caller_text}
use Rattle.qtext_files.specs.Journals.{journal_of}

-- MOMENT CALLER CALL
abbrev pub line_words : Line → List (List ℕ)
line_words l = decimal l.moment ∷ caller_text l.cred ∷ call_words l.call

-- a line with a space between its words and a line end after it
abbrev pub script_line_text : Line → List ℕ
script_line_text l = join_with_byte 0x20 (line_words l) ++ 10 ∷ []

-- the lines of a script, spelled out
abbrev pub script_spelling : List Line → List ℕ
script_spelling ls = flat_map script_line_text ls

-- WORKER MOMENT CALLER CALL => REPLY
abbrev pub entry_words : Entry → List (List ℕ)
entry_words e = decimal e.worker ∷ decimal e.moment ∷ caller_text e.cred
    ∷ (call_words e.call ++ codes "=>" ∷ reply_words e.reply)

-- an entry with a space between its words and a line end after it
abbrev pub entry_text : Entry → List ℕ
entry_text e = join_with_byte 0x20 (entry_words e) ++ 10 ∷ []

-- the number of an edition
abbrev pub edition_text : Edition → List ℕ
edition_text One = codes "1"
edition_text Two = codes "2"

-- quotafs journal E workers W
abbrev pub head_words : Edition → ℕ → List (List ℕ)
head_words edition workers =
    codes "quotafs" ∷ codes "journal" ∷ edition_text edition ∷ codes "workers" ∷ decimal workers ∷ []

-- the first line
abbrev pub head_text : Edition → ℕ → List ℕ
head_text edition workers = join_with_byte 0x20 (head_words edition workers) ++ 10 ∷ []

-- a journal, spelled out
abbrev pub journal_spelling : Written → List ℕ
journal_spelling j = head_text j.edition j.workers ++ flat_map entry_text j.entries

-- what is spelled out of the journal says that journal
abbrev pub CanBeRead : Written → Type 0
CanBeRead j = journal_of (journal_spelling j) ≡ Ok j
