use Rattle.std.proofs.Common.{◌≡◌, ◌≤◌, List, length, map, refl, sym, subst, ◌∙◌}
use Rattle.std.proofs.lemmas.List.{length-map}
use Rattle.qplain.specs.declared.edition.Edition.{Edition}
use Rattle.qplain.specs.Editions.{max_entries_of}
use Rattle.qplain.specs.declared.transcript.Transcript.{Transcript}
use Rattle.qrun_replay.specs.Left.{AreOfEdition}
use Rattle.qrun_replay.specs.Placed.{transcript_from}
use Rattle.qrun_replay.specs.Runs.{lines_of}
use Rattle.qrun.proofs.Told.{gathered_told, one_of}
use Rattle.qrun.proofs.concluding.make_outcome.Goals as goal

pub outcome_of-requires-clause-each : goal.outcome_of-requires-clause-each
outcome_of-requires-clause-each c =
    let all = c.requires.worked.told.told in
    let journal = c.args.store.journal in
    let ts : List Transcript = map (transcript_from journal) c.args.answered.items in
    let many : length ts ≡ c.len-workers.result =
    length-map c.args.answered.items (transcript_from journal) ∙ sym c.args.answered.ok.0 ∙ sym c.len-workers.ensures in
    rw (sym many) (one_of (lines_of ts) all.told.shares ts journal all.told.told all.gathered.belong)

pub outcome_of-requires-clause-of_edition : goal.outcome_of-requires-clause-of_edition
outcome_of-requires-clause-of_edition c =
    subst (λ (e : Edition). AreOfEdition e c.args.store.journal) (sym c.requires.worked.edition) (λ k d less. refl)

pub outcome_of-requires-clause-few : goal.outcome_of-requires-clause-few
outcome_of-requires-clause-few c =
    subst (λ (e : Edition). length c.args.store.journal ≤ max_entries_of e) (sym c.requires.worked.edition) c.requires.worked.told.told.few

pub returns-clause-outcome : goal.returns-clause-outcome
returns-clause-outcome c =
    let journal = c.args.store.journal in
    let ts : List Transcript = map (transcript_from journal) c.args.answered.items in
    let many : c.len-workers.result ≡ length ts =
    c.len-workers.ensures ∙ c.args.answered.ok.0 ∙ sym (length-map c.args.answered.items (transcript_from journal)) in
    gathered_told c.args.store.setting c.args.store.begun journal ts c.args.looks.items c.len-workers.result c.in_ok-outcome.outcome c.requires.worked.edition
    c.requires.worked.told.told c.requires.worked.lawful many (rw (sym c.new.ensures) c.in_ok-outcome.ensures)
