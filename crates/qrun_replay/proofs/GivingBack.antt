-- What workers have left, played again: it is legal, so no entry is a mismatch, and each worker's own entries are its lines that did not fail.
use Rattle.std.proofs.Common.{◌≡◌, ℕ, ◌+◌, List, [], ◌∷◌, ◌++◌, length, map, filter, Result, Ok, Err, IfOk, refl, sym, ap, subst, ◌∙◌, arith}
use Rattle.std.specs.Result.{is_ok}
use Rattle.std.specs.List.{range_with_len}
use Rattle.qplain.specs.declared.call_fault.CallFault.{CallFault}
use Rattle.qplain.specs.declared.entry.Entry.{Entry}
use Rattle.qplain.specs.declared.line.Line.{Line}
use Rattle.qplain.specs.declared.receipt.Receipt.{Receipt}
use Rattle.qplain.specs.declared.transcript.Transcript.{Transcript}
use Rattle.qplain.specs.declared.edition.Edition.{Edition}
use Rattle.qplain.specs.Setups.{Setting, in_edition}
use Rattle.qplain.specs.State.{State, start}
use Rattle.qplain.specs.Journal.{IsLegal, play, played, tally_of}
use Rattle.qstore.specs.Rows.{record_row_of}
use Rattle.qaudit_checks.specs.OwnRows.{differences_in}
use Rattle.qrun_replay.specs.declared.outcome.Outcome.{Outcome}
use Rattle.qrun_replay.specs.declared.replay_fault.ReplayFault.{ReplayFault}
use Rattle.qrun_replay.specs.declared.replay_fault.ReplayFault.TheVariants.{Memory, Mismatch}
use Rattle.qplain.specs.Transcripts.{journaled_lines}
use Rattle.qrun_replay.specs.Runs.{AreTranscriptsOf, IsLeftByWorkers, IsTranscriptOf}
use Rattle.qrun_replay.specs.Replays.{GivesBack, IsAsBefore, IsFirstMismatch, IsReplayOf, answer_of, granted_lines, transcript_in, without_failed}
use Rattle.qrun_replay.specs.Placed.{line_of_entry}

-- in a legal journal each reply is the plain machine's
legal-at : (S : State) (before : List Entry) (e : Entry) (after : List Entry) → IsLegal S (before ++ e ∷ after)
    → e.reply ≡ (played (play S before) e).1
legal-at S [] e after legal = legal.0
legal-at S (x ∷ before) e after legal = legal-at (played S x).0 before e after legal.1

-- so none of its entries is a mismatch
no_mismatch : (S : State) (journal : List Entry) (place : ℕ) → IsLegal S journal → IsFirstMismatch S journal place → ⊥
no_mismatch S journal place legal is =
    is.here.other (legal-at S is.before is.entry is.after (rw is.parts at legal))

-- the lines of the entries that a worker's receipts stand for
lines_again : (worker : ℕ) (lines : List Line) (answers : List (Result Receipt CallFault))
    → map (λ x. line_of_entry x.1) (journaled_lines worker lines answers) ≡ granted_lines lines answers
unfolding journaled_lines granted_lines
lines_again worker (line ∷ lines) (Ok receipt ∷ answers) = ap (λ rest. line ∷ rest) (lines_again worker lines answers)
lines_again worker (line ∷ lines) (Err fault ∷ answers) = lines_again worker lines answers
lines_again worker [] answers = refl
lines_again worker (line ∷ lines) [] = refl

-- and their answers
answers_again : (worker : ℕ) (lines : List Line) (answers : List (Result Receipt CallFault)) → length answers ≡ length lines
    → map answer_of (journaled_lines worker lines answers) ≡ filter is_ok answers
unfolding journaled_lines
answers_again worker (line ∷ lines) (Ok receipt ∷ answers) each =
    ap (λ rest. Ok receipt ∷ rest) (answers_again worker lines answers (omega arith))
answers_again worker (line ∷ lines) (Err fault ∷ answers) each = answers_again worker lines answers (omega arith)
answers_again worker [] [] each = refl
answers_again worker [] (answer ∷ answers) each = absurd (cc)
answers_again worker (line ∷ lines) [] each = refl

-- a worker's own entries are its lines that did not fail
transcript_again : (worker : ℕ) (lines : List Line) (journal : List Entry) (t : Transcript) → IsTranscriptOf worker lines journal t
    → transcript_in journal worker ≡ without_failed t
transcript_again worker lines journal t is =
    let own_lines = lines_again worker lines t.answers in
    let own_answers = answers_again worker lines t.answers is.each in
    rw (sym is.own, own_lines, own_answers, is.worker_is, is.lines_are) refl

-- worker by worker
transcripts_again : (worker : ℕ) (rest : List (List Line)) (journal : List Entry) (ts : List Transcript)
    → AreTranscriptsOf worker rest journal ts
    → map (transcript_in journal) (range_with_len worker (length rest)) ≡ map without_failed ts
unfolding AreTranscriptsOf
transcripts_again worker [] journal [] are = refl
transcripts_again worker (lines ∷ rest) journal (t ∷ ts) are =
    ap (λ first. first ∷ map (transcript_in journal) (range_with_len (worker + 1) (length rest)))
    (transcript_again worker lines journal t are.0)
    ∙ ap (λ rest. without_failed t ∷ rest) (transcripts_again (worker + 1) rest journal ts are.1)
transcripts_again worker [] journal (t ∷ ts) are = absurd are
transcripts_again worker (lines ∷ rest) journal [] are = absurd are

-- what a replay of their journal leaves is what they have left, but for its failed lines
pub as_before : (setting : Setting) (begun : State) (lines : List (List Line)) (old new : Outcome) → IsLeftByWorkers setting begun lines old
    → IsReplayOf setting begun old.journal new → IsAsBefore old new
as_before setting begun lines old new run replay =
    let store : new.store.state ≡ old.store.state = replay.store ∙ sym run.store in
    record {
      tallies = replay.tallies ∙ ap (λ journal. tally_of journal.entries) replay.journal ∙ sym run.tallies;
      store = store;
      transcripts = replay.transcripts
          ∙ ap (λ n. map (transcript_in old.journal.entries) (range_with_len 1 n)) run.workers
          ∙ transcripts_again 1 lines old.journal.entries old.transcripts run.transcripts;
      records = replay.records ∙ ap (λ S. map (record_row_of S) S.holders) store ∙ sym run.records;
      differences = replay.differences ∙ ap differences_in store ∙ sym run.differences;
    }

-- their setup is in the edition of their journal
own_edition : (setting : Setting) (begun : State) (lines : List (List Line)) (run : Outcome) → IsLeftByWorkers setting begun lines run
    → in_edition run.journal.edition setting ≡ setting
own_edition setting begun lines run is = ap (λ (e : Edition). in_edition e setting) (is.edition.1 ∙ sym is.edition.0)

-- and it meets no mismatch
pub gives_back : (setting : Setting) (begun : State) (lines : List (List Line)) (old : Outcome) (r : Result Outcome ReplayFault)
    → IsLeftByWorkers setting begun lines old → IfOk r (IsReplayOf setting begun old.journal)
    → ((place : ℕ) → r ≡ Err (Mismatch place) → IsFirstMismatch begun old.journal.entries place) → GivesBack old r
gives_back setting begun lines old (Ok new) run replay mismatch = as_before setting begun lines old new run replay
gives_back setting begun lines old (Err Memory) run replay mismatch = tt
gives_back setting begun lines old (Err (Mismatch place)) run replay mismatch =
    no_mismatch begun old.journal.entries place run.legal (mismatch place refl)

-- workers have left it under their setup in the edition of their journal, too
pub left_in : (setting : Setting) (lines : List (List Line)) (run : Outcome) → IsLeftByWorkers setting (start setting) lines run
    → IsLeftByWorkers (in_edition run.journal.edition setting) (start (in_edition run.journal.edition setting)) lines run
left_in setting lines run is =
    subst (λ (s : Setting). IsLeftByWorkers s (start s) lines run) (sym (own_edition setting (start setting) lines run is)) is
