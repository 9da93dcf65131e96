-- The first place at which a journal and a part of its transcripts differ. No public clause cites this module.
use Rattle.std.specs.Prelude.{◌≡◌, ℕ, ◌+◌, ◌<◌, ◌≤◌, ◌⊎◌, ◌++◌, List, length, slice_get, take, drop, All, Option}
use Rattle.std.specs.Prelude.{Some, None, IfSome, Result, IsOk, nat_lt, if◌then◌else◌}
use Rattle.qplain.specs.declared.call_fault.CallFault.{CallFault}
use Rattle.qplain.specs.declared.entry.Entry.{Entry}
use Rattle.qplain.specs.declared.line.Line.{Line}
use Rattle.qplain.specs.declared.receipt.Receipt.{Receipt}
use Rattle.qplain.specs.declared.transcript.Transcript.{Transcript}
use Rattle.qplain.specs.Journal.{entries_of}
use Rattle.qplain.specs.Transcripts.{Belongs, journaled_lines}
use Rattle.qaudit_checks.specs.Gathered.{EntryFailsAt, HasMore, IsLeftOver, HasReceipt, receipts_of}

-- the earlier of two places, of which there may be none
abbrev pub earlier_of : Option ℕ → Option ℕ → Option ℕ
earlier_of None other = other
earlier_of (Some place) None = Some place
earlier_of (Some place) (Some other) = Some (if nat_lt other place then other else place)

-- the index is before the place, if there is one
abbrev pub IsBefore : ℕ → Option ℕ → Type 0
IsBefore index None = Unit {0}
IsBefore index (Some place) = index + 1 < place

-- of the entries before the place, each that passes the first test passes the second
abbrev pub AllBefore : List Entry → Option ℕ → (Entry → Type 0) → (ℕ → Entry → Type 0) → Type 0
AllBefore journal place P Q =
    (index : ℕ) (entry : Entry) → slice_get journal index ≡ Some entry → IsBefore index place → P entry → Q index entry

-- the receipts of the transcript tell of all entries of its worker before the place
abbrev pub AreToldBefore : List Entry → Transcript → Option ℕ → Type 0
AreToldBefore journal t place =
    AllBefore journal place (λ e. e.worker ≡ t.worker) (λ k e. HasReceipt (receipts_of t) (take k journal) e)

-- the entry of this place is of another worker than all transcripts
pub record IsStrange (journal : List Entry) (transcripts : List Transcript) (place : ℕ) : Type 0 where
  pub index : ℕ
  pub place_is : place ≡ index + 1
  pub entry : Entry
  pub there : slice_get journal index ≡ Some entry
  pub strange : Belongs transcripts entry → ⊥

-- the place of the first entry of no transcript's worker
pub record IsFirstStrange (journal : List Entry) (transcripts : List Transcript) (place : Option ℕ) : Type 0 where
  pub before : AllBefore journal place (λ e. Unit {0}) (λ k e. Belongs transcripts e)
  pub here : (p : ℕ) → place ≡ Some p → IsStrange journal transcripts p

-- the entry of this place is the transcript's worker's, and its receipts do not tell of it
pub record IsUntold (journal : List Entry) (t : Transcript) (place : ℕ) : Type 0 where
  pub index : ℕ
  pub place_is : place ≡ index + 1
  pub entry : Entry
  pub there : slice_get journal index ≡ Some entry
  pub own : entry.worker ≡ t.worker
  pub untold : HasReceipt (receipts_of t) (take index journal) entry → ⊥

-- where the transcript and its worker's entries first differ, if they do
pub record IsFirstOther (journal : List Entry) (t : Transcript) (place : Option ℕ) : Type 0 where
  pub before : AreToldBefore journal t place
  pub same : place ≡ None → receipts_of t ≡ entries_of journal t.worker
  pub here : (p : ℕ) → place ≡ Some p
      → IsUntold journal t p ⊎ ((p ≡ length journal + 1) × HasMore journal t)

-- the first place at which the journal and the first `count` transcripts differ, if they do
pub record IsFirstMismatch (journal : List Entry) (transcripts : List Transcript) (count : ℕ) (place : Option ℕ)
    : Type 0 where
  pub known : AllBefore journal place (λ e. Unit {0}) (λ k e. Belongs transcripts e)
  pub told : All (λ t. AreToldBefore journal t place) (take count transcripts)
  pub same : place ≡ None → All (λ t. receipts_of t ≡ entries_of journal t.worker) (take count transcripts)
  pub here : (p : ℕ) → place ≡ Some p → EntryFailsAt journal transcripts p ⊎ IsLeftOver journal transcripts p

-- from this answer on, `next` is the index of the next receipt, or how many answers there are: what is passed over
-- stands for nothing
pub record IsNextReceipt (answers : List (Result Receipt CallFault)) (from next : ℕ) : Type 0 where
  pub within : next ≤ length answers
  pub skipped : (worker : ℕ) (lines : List Line) → length answers ≡ length lines
      → journaled_lines worker (drop from lines) (drop from answers)
      ≡ journaled_lines worker (drop next lines) (drop next answers)
  pub receipt : IfSome (slice_get answers next) IsOk

-- the first `seen` answers of a transcript were compared with the first `index` entries: its receipts stand for the
-- worker's entries up to there, and for what its further answers stand for
pub record AreSeenAnswers (journal : List Entry) (t : Transcript) (index seen : ℕ) : Type 0 where
  pub within : seen ≤ length t.answers
  pub parts : receipts_of t ≡ entries_of (take index journal) t.worker
      ++ journaled_lines t.worker (drop seen t.lines) (drop seen t.answers)
  pub told : AreToldBefore journal t (Some (index + 1))
