use Rattle.std.proofs.Common.{◌≡◌, Err, sym, ap, ◌∙◌}
use Rattle.std.proofs.lemmas.Result.{err_from_is_err_and}
use Rattle.qtool_runs.specs.declared.text_replay.TextReplayFault.TheVariants.{Mismatch}
use Rattle.qtool_runs.proofs.TextReplays.{mismatch_in, mismatch_told, same_journal}
use Rattle.qtool_runs.proofs.text_replay.replay_text.Goals as goal

pub returns-in_err-played-clause-mismatch : goal.returns-in_err-played-clause-mismatch
returns-in_err-played-clause-mismatch c =
    λ place is.
    let residual = c.from_residual-in_err-played in
    let told = err_from_is_err_and residual.result residual.ensures.1 in
    let reported : told.0 ≡ Mismatch place = cc (sym told.1 ∙ is) in
    mismatch_in c.args.config.setup c.args.text.items c.in_ok-journal.journal place
    (rw c.deref.ensures.value at c.in_ok-journal.ensures.exact)
    (c.in_err-played.ensures.mismatch place (ap Err (mismatch_told c.in_err-played.field-0.0 place (sym told.2 ∙ reported))))

pub returns-clause-of_a_run : goal.returns-clause-of_a_run
returns-clause-of_a_run c = λ scripts run is can spelled.
    let same = same_journal c.args.text.items c.in_ok-journal.journal run.journal (rw c.deref.ensures.value at c.in_ok-journal.ensures.exact)
    can spelled in
    c.in_ok-played.ensures.of_a_run scripts run is same
