use Rattle.qrun_replay.proofs.GivingBack.{left_in}
use Rattle.qrun_replay.proofs.replays.replay.Goals as goal

pub returns-clause-of_a_run : goal.returns-clause-of_a_run
returns-clause-of_a_run c lines run is same =
    c.replay_on.ensures.of_a_run lines run
    (rw (c.in_ok-store.ensures.setting, c.in_ok-store.ensures.begun, c.edition-2.ensures, c.edition.ensures, same) (left_in c.args.setup lines run is)) same
