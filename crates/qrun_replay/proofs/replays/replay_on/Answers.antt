use Rattle.std.proofs.Common.{◌≡◌, Err, ap}
use Rattle.std.specs.List.{range_with_len}
use Rattle.std.proofs.lemmas.Result.{err_from_is_err_and}
use Rattle.qrun_replay.specs.declared.replay_fault.ReplayFault.TheVariants.{Mismatch}
use Rattle.qrun_replay.proofs.Coming.{again}
use Rattle.qrun_replay.proofs.GivingBack.{as_before, gives_back}
use Rattle.qrun_replay.proofs.Placing.{all_places, transcripts_seen}
use Rattle.qrun_replay.proofs.replays.replay_on.Goals as goal

pub outcome_of-requires-clause-of_edition : goal.outcome_of-requires-clause-of_edition
outcome_of-requires-clause-of_edition c =
    rw (
      c.in_ok-replay_all.ensures.stays.0,
      c.in_ok-replay_all.ensures.ok,
      c.entries.ensures.entries,
      c.requires.edition,
    ) (λ k d less. (c.entries.ensures.lawful.each k d less).3)

pub outcome_of-requires-clause-places : goal.outcome_of-requires-clause-places
outcome_of-requires-clause-places c =
    rw (
      c.in_ok-replay_all.ensures.ok,
      c.entries.ensures.entries,
      c.in_ok-answered.ensures,
    ) (all_places c.args.journal.now.entries (range_with_len 1 c.args.journal.now.workers))

pub returns-clause-replay : goal.returns-clause-replay
returns-clause-replay c =
    again c.args.store.setting c.args.store.begun c.args.journal.now c.in_ok-outcome_of.field-0 c.requires.edition
    (rw (
      c.in_ok-replay_all.ensures.stays.0,
      c.in_ok-replay_all.ensures.stays.1,
      c.in_ok-replay_all.ensures.ok,
      c.entries.ensures.entries,
      c.in_ok-answered.ensures,
      transcripts_seen c.args.journal.now.entries (range_with_len 1 c.args.journal.now.workers),
      c.workers.ensures,
      c.new-no_boards.ensures,
      c.new.ensures.items,
    ) at c.in_ok-outcome_of.ensures)

pub returns-clause-of_a_run : goal.returns-clause-of_a_run
returns-clause-of_a_run c lines run is same =
    as_before c.args.store.setting c.args.store.begun lines run c.in_ok-outcome_of.field-0 is (rw same at (returns-clause-replay c))

pub returns-in_err-replay_all-clause-of_a_run : goal.returns-in_err-replay_all-clause-of_a_run
returns-in_err-replay_all-clause-of_a_run c lines run is same =
    let fault = err_from_is_err_and c.from_residual.result c.from_residual.ensures.1 in
    rw (fault.1, fault.2)
    (gives_back c.args.store.setting c.args.store.begun lines run (Err c.in_err-replay_all.field-0.0) is tt
    (λ place told.
    let which : c.in_err-replay_all.field-0.0 ≡ Mismatch place = cc told in
    rw (c.entries.ensures.entries, same) at (c.in_err-replay_all.ensures.mismatch place (ap Err which))))
