use Rattle.std.proofs.Common.{◌≡◌, ap, map, refl, sym, ◌∙◌}
use Rattle.qplain.specs.State.{State}
use Rattle.qstore.specs.Rows.{record_row_of}
use Rattle.qaudit_checks.specs.OwnRows.{differences_in}
use Rattle.qrun_replay.specs.Placed.{transcript_from}
use Rattle.qrun_replay.proofs.Coming.{journal_left}
use Rattle.qrun_replay.proofs.outcome.outcome_of.Goals as goal

pub new-journal-requires : goal.new-journal-requires
new-journal-requires c =
    let played = c.store-kept.ensures.played in
    rw (c.new.ensures, c.current_edition.ensures, c.into_parts-setup.ensures.setup, c.into_parts-setup.ensures.journal_is)
    (journal_left c.args.store.setting c.args.store.begun c.args.store.journal c.args.workers played.beginning.lawful played.legal
    c.requires.few c.requires.workers c.requires.each c.requires.of_edition)

pub transcripts_of-requires : goal.transcripts_of-requires
transcripts_of-requires c =
    rw (c.in_ok-journal.ensures, c.new-journal.ensures, c.new.ensures, c.into_parts-setup.ensures.journal_is) c.requires.places

pub returns : goal.returns
returns c =
    let ended = c.into_parts-setup.ensures in
    let written = c.in_ok-journal.ensures ∙ c.new-journal.ensures ∙ rw (c.new.ensures, c.current_edition.ensures, ended.setup, ended.journal_is) refl in
    let same : c.store-kept.result.now.state ≡ c.into_parts-setup.result.store.state =
    ap (λ s. s.state) c.store-kept.ensures.store ∙ c.store-kept.ensures.played.state ∙ sym ended.store in
    record {
      setup = ended.setup;
      legal = ended.legal;
      few = c.requires.few;
      journal_is = written;
      tallies = ended.tallies;
      store = ended.store;
      stands = ended.stands;
      transcripts_are = c.in_ok-transcripts.ensures ∙ ap (λ j. map (transcript_from j.entries) c.args.answered.items) written;
      boards_are = refl;
      records = c.new-3.ensures ∙ c.in_ok-records.ensures.rows ∙ ap (λ (S : State). map (record_row_of S) S.holders) same;
      differences = c.new-4.ensures ∙ c.in_ok-differences.ensures.differences ∙ ap differences_in same;
      agree = c.new-4.ensures ∙ c.in_ok-differences.ensures.none;
    }
