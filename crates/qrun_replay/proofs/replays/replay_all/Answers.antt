use Rattle.std.proofs.Common.{◌≡◌, sym, ◌∙◌, Err, rules}
use Rattle.qrun_replay.proofs.Replaying.{mismatch_at}
use Rattle.qrun_replay.proofs.replays.replay_all.Goals as goal

pub returns-in_err-replay_entry-clause-mismatch : goal.returns-in_err-replay_entry-clause-mismatch
returns-in_err-replay_entry-clause-mismatch c place told =
    let same : c.from_residual.result ≡ Err c.in_err-replay_entry.field-0.0 = search rules in
    mismatch_at _ c.args.entries.now c.loop-entry.entry-index c.entry-item.result place c.loop-entry-test.true
    (rw (sym c.loop-entry.invariant.begun, sym c.loop-entry.invariant.journal, sym c.entry-item.is)
    (c.in_err-replay_entry.ensures.mismatch place (sym same ∙ told)))
