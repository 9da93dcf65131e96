-- The journal of a session is one that can be written.
use Rattle.std.proofs.Common.{◌≤◌, length, All, sym, subst, refl, arith, rules}
use Rattle.qplain.specs.declared.edition.Edition.{Edition}
use Rattle.qplain.specs.declared.edition.Edition.TheVariants.{Two}
use Rattle.qplain.specs.Editions.{max_entries_of}
use Rattle.qplain.specs.Journals.{IsJournal, IsWorkers}
use Rattle.qrun_replay.proofs.Coming.{journal_left}
use Rattle.qrun_replay.specs.Left.{AreOfEdition, IsOneOf}
use Rattle.qstore_journaled.specs.Journaled.{IsPlayed, Journaled}
use Rattle.qsession.specs.Recorded.{IsOfSession}
use Rattle.qsession_text.specs.Journals.{journal_written}

pub journal_of_session : (j : Journaled) → IsPlayed j → IsOfSession j → IsJournal (journal_written j.journal)
journal_of_session j played session =
    let few : length j.journal ≤ max_entries_of j.setting.edition =
    subst (λ (e : Edition). length j.journal ≤ max_entries_of e) (sym session.newest) played.few in
    let workers : IsWorkers 1 = search rules in
    let each : All (IsOneOf 1) j.journal = λ k d less. let own = session.own k d less in (omega (arith, own), omega (arith, own)) in
    let newest : AreOfEdition Two j.journal = λ k d less. refl in
    let of_edition : AreOfEdition j.setting.edition j.journal = subst (λ (e : Edition). AreOfEdition e j.journal) (sym session.newest) newest in
    subst (λ (e : Edition). IsJournal (record { edition = e; workers = 1; entries = j.journal })) session.newest
    (journal_left j.setting j.begun j.journal 1 played.beginning.lawful played.legal few workers each of_edition)
