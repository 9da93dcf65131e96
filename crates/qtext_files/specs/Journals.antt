-- Journals: their editions, workers and entries, or the first line at fault with the first thing wrong in it.
use Rattle.std.specs.Prelude.{ℕ, ◌+◌, ◌==◌, not, List, [], ◌∷◌, drop, codes, Result, Ok, Err, nat_lt, if◌then◌else◌}
use Rattle.std.specs.List.{list_all}
use Rattle.std.specs.Str.{bytes_eq}
use Rattle.qplain.specs.declared.edition.Edition.{Edition}
use Rattle.qplain.specs.declared.edition.Edition.TheVariants.{One, Two}
use Rattle.qplain.specs.declared.entry.Entry.{Entry}
use Rattle.qplain.specs.declared.reply.Reply.{Reply}
use Rattle.qtext.specs.declared.text_fault.TextKind.{TextKind}
use Rattle.qtext.specs.declared.text_fault.TextKind.TheVariants.{Cut, BadByte, BadNumber, BadCred, TooMany, BadHead}
use Rattle.qtext.specs.declared.text_fault.TextKind.TheVariants.{BadReply}
use Rattle.qtext.specs.declared.text_fault.TextFault.{TextFault}
use Rattle.qtext.specs.Reading.{◌>>=◌, each_of}
use Rattle.qtext.specs.Words.{is_text_byte, words, number, number_of}
use Rattle.qtext_read.specs.Callers.{caller_of}
use Rattle.qtext_read.specs.Journaled.{journaled_call_in}
use Rattle.qtext_read.specs.RepliesRead.{reply_in}
use Rattle.qplain.specs.Journals.{Written}
use Rattle.qtext_files.specs.RawLines.{RawLine, in_line, raw_lines}
use Rattle.qplain.specs.declared.bounds.TheConstants.{MAX_WORKERS}
use Rattle.qplain.specs.Editions.{max_entries_of}
use Rattle.qtext_files.specs.declared.head.Head.{Head}

-- the number of a worker, of which there are so many, from 1
unfoldable pub worker_of : ℕ → List ℕ → Result ℕ TextKind
worker_of workers word = do
  worker ← number_of BadNumber workers word
  if worker == 0 then Err BadNumber else Ok worker

-- => and a reply
unfoldable pub reply_behind : Edition → List (List ℕ) → Result Reply TextKind
reply_behind edition [] = Err BadReply
reply_behind edition (arrow ∷ reply) = if bytes_eq arrow (codes "=>") then reply_in edition reply else Err BadReply

-- WORKER MOMENT CALLER CALL => REPLY in a journal with this head
unfoldable pub entry_in : Head → List (List ℕ) → Result Entry TextKind
entry_in head [] = Err BadNumber
entry_in head (w ∷ []) = do
  worker ← worker_of head.workers w
  Err BadNumber
entry_in head (w ∷ m ∷ []) = do
  worker ← worker_of head.workers w
  moment ← number m
  Err BadCred
entry_in head (w ∷ m ∷ c ∷ behind) = do
  worker ← worker_of head.workers w
  moment ← number m
  cred ← caller_of c
  called ← journaled_call_in head.edition behind
  reply ← reply_behind head.edition (drop called.1 behind)
  Ok (record { worker = worker; cred = cred; moment = moment; call = called.0; reply = reply })

-- the entry in a line of a journal with this head, or the first thing wrong in it
unfoldable pub journal_entry_of : Head → RawLine → Result Entry TextKind
journal_entry_of head l =
    if nat_lt (max_entries_of head.edition + 1) l.number then Err TooMany
    else if not l.whole then Err Cut
    else if not (list_all is_text_byte l.bytes) then Err BadByte
    else entry_in head (words l.bytes)

-- the word is the one that stands in every head
unfoldable pub head_keyword : List ℕ → List ℕ → Result Unit TextKind
head_keyword wanted word = if bytes_eq word wanted then Ok tt else Err BadHead

-- how many workers there are
unfoldable pub workers_of : List ℕ → Result ℕ TextKind
workers_of word = do
  workers ← number_of BadHead MAX_WORKERS word
  if workers == 0 then Err BadHead else Ok workers

-- the edition of a journal
unfoldable pub edition_of : List ℕ → Result Edition TextKind
edition_of word =
    if bytes_eq word (codes "1") then Ok One
    else if bytes_eq word (codes "2") then Ok Two
    else Err BadHead

-- quotafs journal E workers W in its five words
unfoldable pub head_told : List ℕ → List ℕ → List ℕ → List ℕ → List ℕ → Result Head TextKind
head_told q j e n w = do
  program ← head_keyword (codes "quotafs") q
  journal ← head_keyword (codes "journal") j
  edition ← edition_of e
  noun ← head_keyword (codes "workers") n
  workers ← workers_of w
  Ok (record { edition = edition; workers = workers })

-- the five words of a head
unfoldable pub head_in : List (List ℕ) → Result Head TextKind
head_in (q ∷ j ∷ e ∷ n ∷ w ∷ []) = head_told q j e n w
head_in _ = Err BadHead

-- what the first line tells, or the first thing wrong in it
unfoldable pub head_of : RawLine → Result Head TextKind
head_of l =
    if not l.whole then Err Cut
    else if not (list_all is_text_byte l.bytes) then Err BadByte
    else head_in (words l.bytes)

-- the entry in a line, or the fault that is told of it
unfoldable pub at_entry : Head → RawLine → Result Entry TextFault
at_entry head l = in_line l.number (journal_entry_of head l)

-- what the lines of a journal say; a journal of no line has no head
unfoldable pub journal_in : List RawLine → Result Written TextFault
journal_in [] = Err (record { line = 1; kind = BadHead })
journal_in (first ∷ lines) = do
  head ← in_line 1 (head_of first)
  entries ← each_of (at_entry head) lines
  Ok (record { edition = head.edition; workers = head.workers; entries = entries })

-- what a journal says: its edition, its workers and its entries, or the first line at fault
abbrev pub journal_of : List ℕ → Result Written TextFault
journal_of text = journal_in (raw_lines text)
