use Rattle.std.proofs.Common.{◌≡◌, ◌≤◌}
use Rattle.std.specs.Vec.{vec_capacity, vec_len}
use Rattle.qplain.specs.Journal.{no_tally}
use Rattle.qaudit_checks.specs.LawfulBoards.{AreLawful, boards_in}
use Rattle.qrun.proofs.watcher.look_on.Given as goal

abbrev pub invariant-loop-look : goal.invariant-loop-look
invariant-loop-look g l = (vec_len l.looks ≡ l.look) × (l.boards ≤ vec_capacity l.looks) × (l.seat.worker ≡ l.fn.watcher.seat.worker)
    × (l.seat.tally ≡ no_tally) × AreLawful g.S.StoreId.id.begun l.seat.seen (boards_in l.looks.items)
