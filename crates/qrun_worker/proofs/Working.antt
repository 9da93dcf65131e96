-- One more line of a worker's script.
use Rattle.std.proofs.Common.{◌≡◌, ◌↔◌, ℕ, zero, suc, ◌+◌, ◌<◌, ◌≤◌, List, [], ◌∷◌, ◌++◌, length, slice_get, Some, Result, Ok, Err, IfOk, IfErr, OnErr, refl, sym, ap, subst, append-nil, ◌∙◌, arith, le_trans}
use Rattle.std.proofs.lemmas.List.{length-append}
use Rattle.std.proofs.lemmas.List.Elements.{All-nil, All-push}
use mathlib.Core.List.{IsPrefix}
use Rattle.qplain.specs.declared.call_fault.CallFault.{CallFault}
use Rattle.qplain.specs.declared.call_fault.CallFault.TheVariants.{JournalFull, OutOfMemory}
use Rattle.qplain.specs.declared.entry.Entry.{Entry}
use Rattle.qplain.specs.declared.line.Line.{Line}
use Rattle.qplain.specs.declared.receipt.Receipt.{Receipt}
use Rattle.qplain.specs.Journal.{entries_of, entry_of}
use Rattle.qplain.specs.Transcripts.{journaled_line, journaled_lines}
use Rattle.qplain.specs.declared.bounds.TheConstants.{MAX_ENTRIES}
use Rattle.qshare_history.proofs.Prefixes.{prefix_length}
use Rattle.qplain.specs.State.{State}
use Rattle.qshare.specs.Calls.{IsAt, IsCalled, IsHeldCall, StaysHeld}
use Rattle.qshare.specs.Holds.{Holding}
use Rattle.qshare.specs.Seats.{HasSeenOn, Seated}
use Rattle.qrun_client.specs.Clients.{HasLowPlace}
use Rattle.qrun_worker.specs.Work.{AreAnswers, HasAnswers, HasSeenFull, IsSubsequence}
use Rattle.qrun_worker.proofs.Owning.{none_answered, one_more_answered, own_grown, own_told}
use Rattle.qrun_worker.proofs.Subsequences.{none_among}

-- a worker who has played nothing has none
pub no_answers : (worker : ℕ) (lines : List Line) (seen : List Entry) → AreAnswers worker lines seen 0 []
no_answers worker lines seen = record {
  few = omega arith;
  full = All-nil (HasSeenFull seen);
  low = All-nil HasLowPlace;
  own = subst (λ told. IsSubsequence told (entries_of seen worker)) (sym (none_answered worker lines)) (none_among (entries_of seen worker));
  counted = ap length (sym (none_answered worker lines));
}

-- who is told of a full journal has seen one
now_seen : (seen : List Entry) (answer : Result Receipt CallFault) → IfErr answer (λ f. f ≡ JournalFull → length seen ≡ MAX_ENTRIES)
    → HasSeenFull seen answer
now_seen seen (Ok r) full told = absurd (cc told)
now_seen seen (Err JournalFull) full told = omega (arith, full refl)
now_seen seen (Err OutOfMemory) full told = absurd (cc told)

-- who is there stands below the length
below_of : {X : Type 0} (xs : List X) (i : ℕ) (x : X) → slice_get xs i ≡ Some x → i < length xs
below_of [] i x there = absurd cc
below_of (y ∷ xs) zero x there = omega arith
below_of (y ∷ xs) (suc i) x there = let less = below_of xs i x there in omega (arith, less)

-- what receipts stand for, with one answer more
module _ (worker : ℕ) (lines : List Line) (answers : List (Result Receipt CallFault)) (line : Line)
    (there : slice_get lines (length answers) ≡ Some line) where
  abbrev told : List (ℕ × Entry)
  told = journaled_lines worker lines answers

  own_more : (answer : Result Receipt CallFault) (old new : List Entry) → IsSubsequence told (entries_of old worker) → IsPrefix old new
      → IfOk answer (λ r. IsAt new r.place (entry_of worker line r.reply)) → IfOk answer (λ r. length old < r.place)
      → IsSubsequence (journaled_lines worker lines (answers ++ answer ∷ [])) (entries_of new worker)
  own_more (Ok r) old new own more stands later =
      subst (λ told. IsSubsequence told (entries_of new worker)) (sym (one_more_answered worker lines answers line (Ok r) there))
      (own_told worker old new told r.place (entry_of worker line r.reply) more stands later refl own)
  own_more (Err fault) old new own more stands later =
      subst (λ told. IsSubsequence told (entries_of new worker))
      (sym (one_more_answered worker lines answers line (Err fault) there ∙ append-nil told)) (own_grown worker old new told more own)

  counted_more : (answer : Result Receipt CallFault) (calls after : ℕ) → calls ≡ length told → IfOk answer (λ r. after ≡ calls + 1)
      → OnErr answer (after ≡ calls) → after ≡ length (journaled_lines worker lines (answers ++ answer ∷ []))
  counted_more (Ok r) calls after so_far one none =
      omega (
        arith,
        so_far,
        one,
        ap length (one_more_answered worker lines answers line (Ok r) there),
        length-append told (journaled_line worker line (Ok r)),
      )
  counted_more (Err fault) calls after so_far one none =
      none ∙ so_far ∙ ap length (sym (one_more_answered worker lines answers line (Err fault) there ∙ append-nil told))

-- one more answer
pub one_more : (worker : ℕ) (lines : List Line) (old new : List Entry) (calls later : ℕ) (answers after : List (Result Receipt CallFault))
    (line : Line) (answer : Result Receipt CallFault)
    → AreAnswers worker lines old calls answers → slice_get lines (length answers) ≡ Some line → IsPrefix old new
    → IfOk answer (λ r. IsAt new r.place (entry_of worker line r.reply)) → IfOk answer (λ r. length old < r.place)
    → IfOk answer (λ r. later ≡ calls + 1) → OnErr answer (later ≡ calls)
    → IfErr answer (λ f. f ≡ JournalFull → length new ≡ MAX_ENTRIES) → HasLowPlace answer → after ≡ answers ++ answer ∷ []
    → AreAnswers worker lines new later after
one_more worker lines old new calls later answers after line answer so_far there more stands behind one none full low_place is =
    let longer : length (answers ++ answer ∷ []) ≡ length answers + 1 = length-append answers (answer ∷ []) in
    let grown : length old ≤ length new = prefix_length old new more in
    let low : length answers < length lines = below_of lines (length answers) line there in
    subst (AreAnswers worker lines new later) (sym is) (record {
      few = omega (arith, longer, low);
      full = All-push (HasSeenFull new) answers answer (λ k d less behind. le_trans (so_far.full k d less behind) grown)
          (now_seen new answer full);
      low = All-push HasLowPlace answers answer so_far.low low_place;
      own = own_more worker lines answers line there answer old new so_far.own more stands behind;
      counted = counted_more worker lines answers line there answer calls later so_far.counted one none;
    })

-- one more answer to a call that waits for the lock
pub one_more_called : (begun : State) (lines : List Line) (old new : Seated) (answers after : List (Result Receipt CallFault))
    (line : Line) (answer : Result Receipt CallFault) → HasAnswers lines old answers → slice_get lines (length answers) ≡ Some line
    → HasSeenOn begun old new → IfOk answer (IsCalled line old new) → OnErr answer (new.tally ≡ old.tally)
    → IfErr answer (λ f. (f ≡ JournalFull) ↔ (length new.seen ≡ MAX_ENTRIES)) → after ≡ answers ++ answer ∷ []
    → HasAnswers lines new after
one_more_called begun lines old new answers after line (Ok r) so_far there seen called kept full is =
    subst (λ w. AreAnswers w lines new.seen new.tally.calls after) (sym seen.worker)
    (one_more old.worker lines old.seen new.seen old.tally.calls new.tally.calls answers after line (Ok r) so_far there seen.begins
    called.stands called.later (ap (λ t. t.calls) called.tally) tt tt called.few is)
one_more_called begun lines old new answers after line (Err fault) so_far there seen called kept full is =
    subst (λ w. AreAnswers w lines new.seen new.tally.calls after) (sym seen.worker)
    (one_more old.worker lines old.seen new.seen old.tally.calls new.tally.calls answers after line (Err fault) so_far there seen.begins
    tt tt tt (ap (λ t. t.calls) kept) full.0 tt is)

-- one more answer under a lock that is held, where this much is journaled
pub one_more_held : (begun : State) (lines : List Line) (old new : Holding) (before behind : Seated)
    (answers after : List (Result Receipt CallFault)) (line : Line) (answer : Result Receipt CallFault)
    → AreAnswers before.worker lines old.journal before.tally.calls answers → slice_get lines (length answers) ≡ Some line
    → IfOk answer (IsHeldCall line old new before behind) → StaysHeld begun old new
    → OnErr answer ((new ≡ old) × (behind ≡ before)) → (answer ≡ Err JournalFull → length old.journal ≡ MAX_ENTRIES)
    → after ≡ answers ++ answer ∷ []
    → AreAnswers behind.worker lines new.journal behind.tally.calls after
one_more_held begun lines old new before behind answers after line (Ok r) so_far there called held same full is =
    let journal = called.journaled.journal in
    let e = entry_of before.worker line r.reply in
    subst (λ w. AreAnswers w lines new.journal behind.tally.calls after) (sym (ap (λ s. s.worker) called.seat))
    (one_more before.worker lines old.journal new.journal before.tally.calls behind.tally.calls answers after line (Ok r) so_far there
    (entry_of before.worker line r.reply ∷ [], sym journal) (old.journal, [], journal, called.journaled.place)
    (omega (arith, called.journaled.place)) (ap (λ t. t.calls) called.journaled.tally) tt tt
    (omega (arith, called.journaled.place, ap length journal, length-append old.journal (e ∷ []), held.few)) is)
one_more_held begun lines old new before behind answers after line (Err fault) so_far there called held same full is =
    let as_was : new.journal ≡ old.journal = ap (λ h. h.journal) same.0 in
    subst (λ s. AreAnswers s.worker lines new.journal s.tally.calls after) (sym same.1)
    (one_more before.worker lines old.journal new.journal before.tally.calls before.tally.calls answers after line (Err fault) so_far there
    ([], append-nil old.journal ∙ sym as_was) tt tt tt refl (λ told. ap length as_was ∙ full (ap Err told)) tt is)

-- who sees more has seen all that was told
pub seen_more : (worker : ℕ) (lines : List Line) (calls : ℕ) (old new : List Entry) (answers : List (Result Receipt CallFault))
    → AreAnswers worker lines old calls answers → IsPrefix old new → AreAnswers worker lines new calls answers
seen_more worker lines calls old new answers so_far more = record {
  few = so_far.few;
  full = λ k d less behind. le_trans (so_far.full k d less behind) (prefix_length old new more);
  low = so_far.low;
  own = own_grown worker old new (journaled_lines worker lines answers) more so_far.own;
  counted = so_far.counted;
}
