-- What a call leaves that was journaled.
use Rattle.std.specs.Prelude.{◌≡◌, Bool, ℕ, ◌+◌, ◌<◌, ◌≤◌, List, [], ◌∷◌, ◌++◌, length}
use Rattle.qplain.specs.declared.bounds.TheConstants.{MAX_ENTRIES}
use Rattle.qplain.specs.declared.call.Call.{Call}
use Rattle.qplain.specs.declared.entry.Entry.{Entry}
use Rattle.qplain.specs.declared.line.Line.{Line}
use Rattle.qplain.specs.declared.receipt.Receipt.{Receipt}
use Rattle.qplain.specs.declared.tallies.Tallies.{Tallies}
use Rattle.qplain.specs.Caller.{Caller}
use Rattle.qplain.specs.Journal.{IsLegal, change_of, counted, entry_of}
use Rattle.qplain.specs.State.{State}
use Rattle.qshare_history.specs.Moments.{IsGiven}
use Rattle.qstore_journaled.specs.Lines.{line_of}
use Rattle.qshare.specs.Holds.{Holding}
use Rattle.qshare.specs.Seats.{Seated}

-- the entry stands at this place of a history, from 1
abbrev pub IsAt : List Entry → ℕ → Entry → Type 0
IsAt xs place e =
    (before : List Entry) × (after : List Entry) × (xs ≡ before ++ e ∷ after) × (place ≡ length before + 1)

-- the line stands in what the seat has seen, at the receipt's place, which a journal may have, with its reply, after
-- all that it had seen; and it is counted once
pub record IsCalled (line : Line) (old new : Seated) (receipt : Receipt) : Type 0 where
  pub stands : IsAt new.seen receipt.place (entry_of old.worker line receipt.reply)
  pub later : length old.seen < receipt.place
  pub few : receipt.place ≤ MAX_ENTRIES
  pub tally : new.tally ≡ counted old.tally (change_of receipt.reply)

-- the journal has one entry more, which is this worker's line with the receipt's reply, at its place; and it is counted
-- once
pub record IsJournaled (worker : ℕ) (line : Line) (old new : List Entry) (before after : Tallies) (receipt : Receipt)
    : Type 0 where
  pub journal : new ≡ old ++ entry_of worker line receipt.reply ∷ []
  pub place : receipt.place ≡ length old + 1
  pub tally : after ≡ counted before (change_of receipt.reply)

-- so is the line of a seat under a lock that it holds, which may then be held for one call less
pub record IsHeldCall (line : Line) (old new : Holding) (before after : Seated) (receipt : Receipt) : Type 0 where
  pub journaled : IsJournaled before.worker line old.journal new.journal before.tally after.tally receipt
  pub seat : after ≡ record before { tally = after.tally }
  pub room : new.room + 1 ≡ old.room

-- it holds of a caller's call with some moment that it is given, and of the receipt
abbrev pub AtGiven : Bool → Caller → ℕ → Call → (Line → Receipt → Type 0) → Receipt → Type 0
AtGiven clocked cred told call Is receipt =
    (given : ℕ) × IsGiven clocked told given × Is (line_of cred given call) receipt

-- the answer is the form of a receipt of which that holds
abbrev pub IsFormOf : {A : Type 0} → (Receipt → A) → (Receipt → Type 0) → A → Type 0
IsFormOf form is a = (receipt : Receipt) × (a ≡ form receipt) × is receipt

-- the same worker holds the lock, nothing more is published, and the journal is legal from this beginning and no longer
-- than it may be
pub record StaysHeld (begun : State) (old new : Holding) : Type 0 where
  pub by : new.by ≡ old.by
  pub published : new.published ≡ old.published
  pub legal : IsLegal begun new.journal
  pub few : length new.journal ≤ MAX_ENTRIES
