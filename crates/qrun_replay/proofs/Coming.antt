-- What workers and replays leave, put together of its parts.
use Rattle.std.proofs.Common.{◌≡◌, ℕ, ◌≤◌, List, [], length, All, Result, ap, subst, ◌∙◌}
use Rattle.qplain.specs.declared.board.Board.{Board}
use Rattle.qplain.specs.declared.line.Line.{Line}
use Rattle.qplain.specs.declared.look_fault.LookFault.{LookFault}
use Rattle.qplain.specs.Setups.{Setting}
use Rattle.qrun_replay.specs.declared.outcome.Outcome.{Outcome}
use Rattle.qplain.specs.declared.transcript.Transcript.{Transcript}
use Rattle.qplain.specs.Journals.{IsJournal, IsWorkers, Written}
use Rattle.qrun_replay.specs.Left.{AreOfEdition, IsLeftOf, IsOneOf}
use Rattle.qrun_replay.specs.Replays.{IsReplayOf, transcripts_in}
use Rattle.qplain.specs.Transcripts.{Belongs}
use Rattle.qrun_replay.specs.Runs.{AreTranscriptsOf, IsLeftByWorkers}
use Rattle.qplain.specs.State.{State}
use Rattle.qplain.specs.Journal.{IsLegal}
use Rattle.qplain.specs.declared.entry.Entry.{Entry}
use Rattle.qplain_laws.specs.Laws.{IsLawful}
use Rattle.qplain_laws.proofs.Tallying.{journals_balance}
use Rattle.qplain.specs.declared.edition.Edition.{Edition}
use Rattle.qplain.specs.declared.edition.Edition.TheVariants.{Two}
use Rattle.qplain.specs.Editions.{max_entries_of}
use Rattle.qaudit_checks.specs.LawfulBoards.{AreLawful, boards_in}
use Rattle.qrun_replay.proofs.Stats.{legal-fair}

-- the journal of a store that was played on by N workers is one
pub journal_left : (setting : Setting) (begun : State) (journal : List Entry) (workers : ℕ) → IsLawful begun → IsLegal begun journal
    → length journal ≤ max_entries_of setting.edition → IsWorkers workers → All (IsOneOf workers) journal
    → AreOfEdition setting.edition journal
    → IsJournal (record { edition = setting.edition; workers = workers; entries = journal })
journal_left setting begun journal workers lawful legal few are each own = record {
  workers = are;
  few = few;
  each = λ k d less.
      let one = each k d less in
      (one.0, one.1, legal-fair begun journal lawful legal k d less, own k d less);
}

-- what is left of a store that was played on by the workers of these lines
pub left_by_workers : (setting : Setting) (begun : State) (lines : List (List Line)) (journal : List Entry) (workers : ℕ) (transcripts : List Transcript)
    (boards : List (Result Board LookFault)) (o : Outcome) → setting.edition ≡ Two
    → IsLeftOf setting begun journal workers transcripts boards o → workers ≡ length lines
    → AreTranscriptsOf 1 lines journal transcripts → All (Belongs transcripts) journal
    → AreLawful begun journal (boards_in boards) → IsLeftByWorkers setting begun lines o
left_by_workers setting begun lines journal workers transcripts boards o edition left each told belong lawful = record {
  setup = left.setup;
  edition = (edition, ap (λ j. j.edition) left.journal_is ∙ edition);
  legal = rw left.journal_is left.legal;
  workers = ap (λ j. j.workers) left.journal_is ∙ each;
  few = rw left.journal_is (subst (λ (e : Edition). length journal ≤ max_entries_of e) edition left.few);
  tallies = rw left.journal_is left.tallies;
  balanced = rw (left.store, left.tallies) (journals_balance begun journal left.legal);
  store = rw left.journal_is left.store;
  stands = left.stands;
  transcripts = rw (left.transcripts_are, left.journal_is) told;
  belong = rw (left.transcripts_are, left.journal_is) belong;
  boards = rw (left.boards_are, left.journal_is) lawful;
  records = left.records;
  differences = left.differences;
  agree = left.agree;
}

-- what is left of a store on which a journal was played again
pub again : (setting : Setting) (begun : State) (written : Written) (o : Outcome) → setting.edition ≡ written.edition
    → IsLeftOf setting begun written.entries written.workers (transcripts_in written) [] o → IsReplayOf setting begun written o
again setting begun written o edition left = record {
  setup = left.setup;
  legal = left.legal;
  few = left.few;
  journal = left.journal_is ∙ ap (λ (e : Edition). record written { edition = e }) edition;
  tallies = rw left.journal_is left.tallies;
  store = left.store;
  stands = left.stands;
  transcripts = left.transcripts_are;
  boards = left.boards_are;
  records = left.records;
  differences = left.differences;
  agree = left.agree;
}
