-- A journal beside the transcripts of its workers: whether they tell the same, and the first place where they do not.
use Rattle.std.specs.Prelude.{◌≡◌, ℕ, ◌+◌, ◌<◌, ◌⊎◌, ◌==◌, if◌then◌else◌, List, [], ◌∷◌, length, slice_get, take, All}
use Rattle.std.specs.Prelude.{Any, Some}
use Rattle.qplain.specs.declared.entry.Entry.{Entry}
use Rattle.qplain.specs.declared.transcript.Transcript.{Transcript}
use Rattle.qplain.specs.Journal.{entries_of}
use Rattle.qplain.specs.Transcripts.{Belongs, journaled_lines}

-- what the receipts of a transcript stand for, with their places
abbrev pub receipts_of : Transcript → List (ℕ × Entry)
receipts_of t = journaled_lines t.worker t.lines t.answers

-- for each worker, its entries are its journaled lines, in order, with the same places; and no entry belongs to a
-- worker without a transcript
pub record IsGathered (journal : List Entry) (transcripts : List Transcript) : Type 0 where
  pub own : All (λ t. receipts_of t ≡ entries_of journal t.worker) transcripts
  pub belong : All (Belongs transcripts) journal

-- what the receipts of a worker stand for; nothing, where no transcript is the worker's
abbrev pub told_of : List Transcript → ℕ → List (ℕ × Entry)
told_of [] worker = []
told_of (t ∷ ts) worker = if t.worker == worker then receipts_of t else told_of ts worker

-- the entry after these is told of: its worker's receipt of the same number stands for it, and has its place
abbrev pub HasReceipt : List (ℕ × Entry) → List Entry → Entry → Type 0
HasReceipt told before e = slice_get told (length (entries_of before e.worker)) ≡ Some (length before + 1, e)

-- the entry of this place, from 1, fails: its worker has no transcript, or that has no receipt of the same number, or
-- one that differs in place, caller, moment, call or reply
pub record EntryFailsAt (journal : List Entry) (transcripts : List Transcript) (place : ℕ) : Type 0 where
  pub index : ℕ
  pub place_is : place ≡ index + 1
  pub entry : Entry
  pub there : slice_get journal index ≡ Some entry
  pub fails : HasReceipt (told_of transcripts entry.worker) (take index journal) entry → ⊥

-- a transcript has more receipts than its worker has entries
abbrev pub HasMore : List Entry → Transcript → Type 0
HasMore journal t = length (entries_of journal t.worker) < length (receipts_of t)

-- the place after the journal, where a transcript has a receipt left over
abbrev pub IsLeftOver : List Entry → List Transcript → ℕ → Type 0
IsLeftOver journal transcripts place = (place ≡ length journal + 1) × Any (HasMore journal) transcripts

-- the least place whose entry fails, or else the one after the journal
pub record IsMismatch (journal : List Entry) (transcripts : List Transcript) (place : ℕ) : Type 0 where
  pub here : EntryFailsAt journal transcripts place ⊎ IsLeftOver journal transcripts place
  pub least : (earlier : ℕ) → earlier < place → EntryFailsAt journal transcripts earlier → ⊥
