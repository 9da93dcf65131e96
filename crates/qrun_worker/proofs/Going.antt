-- A worker who goes on with its client: no line further, one, and some more after some.
use Rattle.std.proofs.Common.{◌≡◌, ◌↔◌, ℕ, Bool, true, false, ◌+◌, ◌≤◌, List, [], ◌∷◌, ◌++◌, length, Option, Some, slice_get, Result, Ok, Err, IfOk, IfErr, OnErr, refl, sym, ap, subst, ◌∙◌, append-nil, append_assoc, length-append, arith}
use mathlib.Core.List.{IsPrefix}
use Rattle.qplain.specs.declared.bounds.TheConstants.{MAX_ENTRIES}
use Rattle.qplain.specs.declared.call_fault.CallFault.{CallFault}
use Rattle.qplain.specs.declared.call_fault.CallFault.TheVariants.{JournalFull}
use Rattle.qplain.specs.declared.entry.Entry.{Entry}
use Rattle.qplain.specs.declared.line.Line.{Line}
use Rattle.qplain.specs.declared.receipt.Receipt.{Receipt}
use Rattle.qplain.specs.Journal.{entry_of, no_tally}
use Rattle.qplain.specs.State.{State}
use Rattle.qshare_history.specs.Moments.{IsGiven}
use Rattle.qstore_journaled.specs.Lines.{line_of}
use Rattle.qshare.specs.Calls.{AtGiven, IsCalled, IsFormOf, IsHeldCall, StaysHeld}
use Rattle.qshare.specs.Holds.{Holding}
use Rattle.qshare.specs.Seats.{HasSeenOn, Seated}
use Rattle.qrun_client.specs.Clients.{ComesOf, IsAnswerIn, IsTold, Takes, Talk, in_form}
use Rattle.qrun_replay.specs.declared.failed_line.FailedLine.{FailedLine}
use Rattle.qrun_worker.specs.Work.{AreAnswers, HasGone, IsPlayed, MayBeGiven, Worked, stands_of}
use Rattle.qrun_worker.proofs.Clients.{one_line_more}
use Rattle.qrun_worker.proofs.Stands.{stands_of-append}
use Rattle.qrun_worker.proofs.Working.{no_answers, one_more_called, one_more_held, seen_more}

-- the last of some lines stands behind the others
last_line : (lines : List Line) (line : Line) (many : ℕ) → many ≡ length lines → slice_get (lines ++ line ∷ []) many ≡ Some line
last_line [] line many is = ap (λ n. slice_get (line ∷ []) n) is
last_line (l ∷ lines) line many is = ap (λ n. slice_get (l ∷ (lines ++ line ∷ [])) n) is ∙ last_line lines line (length lines) refl

-- no line further, where more is seen or the same
pub none_further : {Left : Type 0} (seen later : List Entry) (seat : Seated) (stands : List (Result ℕ FailedLine)) (from to : Talk Left)
    → IsPrefix seen later → ComesOf from to → HasGone seen later seat seat stands stands from to
unfolding stands_of
none_further seen later seat stands from to more comes = record {
  worker = refl;
  lines = [];
  answers = [];
  each = refl;
  stands = sym (append-nil stands);
  are = λ first given each so_far. rw (append-nil first, append-nil given)
      (seen_more seat.worker first seat.tally.calls seen later given so_far more);
  goes_on = comes;
}

-- nor where nothing has happened
pub not_gone : {Left : Type 0} (seen : List Entry) (seat : Seated) (stands : List (Result ℕ FailedLine)) (talk : Talk Left)
    → HasGone seen seen seat seat stands stands talk talk
not_gone seen seat stands talk = none_further seen seen seat stands talk talk ([], append-nil seen) (λ lines answers left comes. comes)

-- one line further, with what more of the client is to come behind it
one_further : {Left : Type 0} (seen later : List Entry) (old new : Seated) (line : Line) (answer : Result Receipt CallFault)
    (before after : List (Result ℕ FailedLine)) (from mid to : Talk Left) → new.worker ≡ old.worker → ComesOf from mid → IsTold line answer before after mid to
    → ((lines : List Line) (answers : List (Result Receipt CallFault)) → AreAnswers old.worker lines seen old.tally.calls answers
    → slice_get lines (length answers) ≡ Some line → AreAnswers old.worker lines later new.tally.calls (answers ++ answer ∷ []))
    → HasGone seen later old new before after from to
unfolding stands_of
one_further seen later old new line answer before after from mid to same comes told answered = record {
  worker = same;
  lines = line ∷ [];
  answers = answer ∷ [];
  each = refl;
  stands = told.stands;
  are = λ first given each so_far. answered (first ++ line ∷ []) given
      (one_line_more old.worker first (first ++ line ∷ []) line seen old.tally.calls given refl so_far) (last_line first line (length given) each);
  goes_on = λ more further left is. comes (line ∷ more) (answer ∷ further) left (told.goes_on more further left is);
}

-- some lines further, and then some more
module _ {Left : Type 0} (first second third : List Entry) (old mid new : Seated) (before between after : List (Result ℕ FailedLine))
    (from through to : Talk Left) where
  pub further : HasGone first second old mid before between from through → HasGone second third mid new between after through to
      → HasGone first third old new before after from to
  further one two = record {
    worker = two.worker ∙ one.worker;
    lines = one.lines ++ two.lines;
    answers = one.answers ++ two.answers;
    each = omega (arith, length-append one.answers two.answers, length-append one.lines two.lines, one.each, two.each);
    stands = two.stands ∙ ap (λ s. s ++ stands_of two.lines two.answers) one.stands
        ∙ append_assoc before (stands_of one.lines one.answers) (stands_of two.lines two.answers)
        ∙ ap (λ s. before ++ s) (sym (stands_of-append one.lines two.lines one.answers two.answers one.each));
    are = λ lines given each so_far.
        let there = one.are lines given each so_far in
        let many : length (given ++ one.answers) ≡ length (lines ++ one.lines) =
        omega (arith, length-append given one.answers, length-append lines one.lines, each, one.each) in
        rw (sym (append_assoc lines one.lines two.lines), sym (append_assoc given one.answers two.answers), sym one.worker)
        (two.are (lines ++ one.lines) (given ++ one.answers) many (rw one.worker there));
    goes_on = λ more further left is.
        rw (append_assoc one.lines two.lines more, append_assoc one.answers two.answers further)
        (one.goes_on (two.lines ++ more) (two.answers ++ further) left (two.goes_on more further left is));
  }

-- a moment that is given in a store is given to a client whose lines may be given theirs
given_too : (store client : Bool) (told given : ℕ) → MayBeGiven store client → IsGiven store told given → IsGiven client told given
given_too true client told given may later = subst (λ c. IsGiven c told given) (sym (may refl)) later
given_too false true told given may same = omega (arith, same)
given_too false false told given may same = same

module _ {A : Type 0} (form : Receipt → A) (store : Bool) (asked : Line) where
  -- an answer of this form, to a line of which that holds
  abbrev Answers : (Line → Receipt → Type 0) → A → Type 0
  Answers Is a = IsFormOf form (AtGiven store asked.cred asked.moment asked.call Is) a

  -- what is answered has a place that a journal may have
  pub called_low : (old new : Seated) (a : Result A CallFault) → IfOk a (Answers (λ line. IsCalled line old new)) → IsAnswerIn form a
  called_low old new (Ok f) (receipt, is, (given, later, called)) = (Ok receipt, ap (λ x. Ok x) is, called.few)
  called_low old new (Err fault) called = (Err fault, refl, tt)

  pub held_low : (begun : State) (old new : Holding) (seat behind : Seated) (a : Result A CallFault)
      → IfOk a (Answers (λ line. IsHeldCall line old new seat behind)) → StaysHeld begun old new → IsAnswerIn form a
  held_low begun old new seat behind (Ok f) (receipt, is, (given, later, called)) stays =
      let journaled = called.journaled in
      let e = entry_of seat.worker (line_of asked.cred given asked.call) receipt.reply in
      let low : receipt.place ≤ MAX_ENTRIES =
      omega (arith, journaled.place, ap length journaled.journal, length-append old.journal (e ∷ []), stays.few) in
      (Ok receipt, ap (λ x. Ok x) is, low)
  held_low begun old new seat behind (Err fault) called stays = (Err fault, refl, tt)

  module _ {Left : Type 0} (client : Bool) (may : MayBeGiven store client) (begun : State) (before after : List (Result ℕ FailedLine))
      (from mid to : Talk Left) (owed : Option Line) (is_owed : owed ≡ Some asked) (comes : ComesOf from mid) where
    -- one line further by a call that waits for the lock
    pub called_further : (old new : Seated) (a : Result A CallFault) → Takes client form owed a before after mid to → HasSeenOn begun old new
        → IfOk a (Answers (λ line. IsCalled line old new)) → OnErr a (new.tally ≡ old.tally)
        → IfErr a (λ f. (f ≡ JournalFull) ↔ (length new.seen ≡ MAX_ENTRIES)) → HasGone old.seen new.seen old new before after from to
    called_further old new (Ok f) takes seen (receipt, is, (given, later, called)) kept full =
        let line = line_of asked.cred given asked.call in
        one_further old.seen new.seen old new line (Ok receipt) before after from mid to seen.worker comes
        (takes asked line (Ok receipt) is_owed (given, given_too store client asked.moment given may later, refl) (ap (λ x. Ok x) is))
        (λ lines answers so_far at. subst (λ w. AreAnswers w lines new.seen new.tally.calls (answers ++ Ok receipt ∷ [])) seen.worker
        (one_more_called begun lines old new answers (answers ++ Ok receipt ∷ []) line (Ok receipt) so_far at seen called tt tt refl))
    called_further old new (Err fault) takes seen called kept full =
        one_further old.seen new.seen old new asked (Err fault) before after from mid to seen.worker comes
        (takes asked asked (Err fault) is_owed refl refl)
        (λ lines answers so_far at. subst (λ w. AreAnswers w lines new.seen new.tally.calls (answers ++ Err fault ∷ [])) seen.worker
        (one_more_called begun lines old new answers (answers ++ Err fault ∷ []) asked (Err fault) so_far at seen tt kept full refl))

    -- and by one under a lock that is held
    pub held_further : (old new : Holding) (seat behind : Seated) (a : Result A CallFault) → Takes client form owed a before after mid to
        → IfOk a (Answers (λ line. IsHeldCall line old new seat behind)) → StaysHeld begun old new → OnErr a ((new ≡ old) × (behind ≡ seat))
        → ((a ≡ Err JournalFull) ↔ (length old.journal ≡ MAX_ENTRIES)) → HasGone old.journal new.journal seat behind before after from to
    held_further old new seat behind (Ok f) takes (receipt, is, (given, later, called)) stays same full =
        let line = line_of asked.cred given asked.call in
        let worker : behind.worker ≡ seat.worker = ap (λ s. s.worker) called.seat in
        one_further old.journal new.journal seat behind line (Ok receipt) before after from mid to worker comes
        (takes asked line (Ok receipt) is_owed (given, given_too store client asked.moment given may later, refl) (ap (λ x. Ok x) is))
        (λ lines answers so_far at. subst (λ w. AreAnswers w lines new.journal behind.tally.calls (answers ++ Ok receipt ∷ [])) worker
        (one_more_held begun lines old new seat behind answers (answers ++ Ok receipt ∷ []) line (Ok receipt) so_far at called stays tt
        (λ e. absurd (cc e)) refl))
    held_further old new seat behind (Err fault) takes called stays same full =
        let worker : behind.worker ≡ seat.worker = ap (λ s. s.worker) same.1 in
        one_further old.journal new.journal seat behind asked (Err fault) before after from mid to worker comes
        (takes asked asked (Err fault) is_owed refl refl)
        (λ lines answers so_far at. subst (λ w. AreAnswers w lines new.journal behind.tally.calls (answers ++ Err fault ∷ [])) worker
        (one_more_held begun lines old new seat behind answers (answers ++ Err fault ∷ []) asked (Err fault) so_far at tt stays same
        (λ e. full.0 (ap (in_form form) e)) refl))

  -- the hold has room for all but one call of those before
  pub room_left : (old new : Holding) (seat behind : Seated) (a : Result A CallFault)
      → IfOk a (Answers (λ line. IsHeldCall line old new seat behind)) → OnErr a ((new ≡ old) × (behind ≡ seat)) → old.room ≤ new.room + 1
  room_left old new seat behind (Ok f) (receipt, is, (given, later, called)) same = omega (arith, called.room)
  room_left old new seat behind (Err fault) called same = omega (arith, ap (λ h. h.room) same.0)

-- a new worker who has gone on to the end of its client has played it
pub all_played : {Left : Type 0} (old new : Seated) (before after : List (Result ℕ FailedLine)) (from to : Talk Left) (w : Worked Left)
    → HasGone old.seen new.seen old new before after from to → old.tally ≡ no_tally → before ≡ [] → to [] [] w.left
    → w.share ≡ record { worker = new.worker; seen = new.seen; tally = new.tally } → w.places ≡ record { stands = after; room = 0 }
    → IsPlayed old.worker from w
all_played old new before after from to w gone tally none ended share places = record {
  lines = gone.lines;
  answers = gone.answers;
  placed = places ∙ ap (λ s. record { stands = s; room = 0 }) (gone.stands ∙ ap (λ s. s ++ stands_of gone.lines gone.answers) none);
  work = rw share (record {
    worker_is = gone.worker;
    each = gone.each;
    are = gone.are [] [] refl (subst (λ t. AreAnswers old.worker [] old.seen t.calls []) (sym tally) (no_answers old.worker [] old.seen));
  });
  talked = subst (λ ls. from ls gone.answers w.left) (append-nil gone.lines)
      (subst (λ told. from (gone.lines ++ []) told w.left) (append-nil gone.answers) (gone.goes_on [] [] w.left ended));
}
