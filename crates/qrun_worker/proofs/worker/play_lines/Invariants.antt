use Rattle.std.proofs.Common.{◌≡◌, None}
use Rattle.qrun_worker.specs.Work.{HasGone}
use Rattle.qrun_worker.proofs.worker.play_lines.Given as goal

abbrev pub invariant-loop : goal.invariant-loop
invariant-loop g l = HasGone l.fn.seat.seen l.seat.seen l.fn.seat l.seat (g.C.Client.stands l.fn.client) (g.C.Client.stands l.client)
    (g.C.Client.talk l.fn.client) (g.C.Client.talk l.client) × (g.C.Client.owed l.client ≡ None)
