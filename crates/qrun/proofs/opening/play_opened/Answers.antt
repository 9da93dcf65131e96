use Rattle.std.proofs.Common.{length, ap, sym, ◌∙◌}
use Rattle.qrun.proofs.Naming.{staff_beside}
use Rattle.qrun.proofs.opening.play_opened.Goals as goal

pub returns-in-Nobody-clause-played : goal.returns-in-Nobody-clause-played
returns-in-Nobody-clause-played g c = rw c.in-Nobody.is c.play_and_end.ensures.played

pub play_and_end-requires-in-Watching-clause-staff : goal.play_and_end-requires-in-Watching-clause-staff
play_and_end-requires-in-Watching-clause-staff g c κs within =
    let can = rw c.in-Watching.is at c.requires.can in
    let made = c.in_ok-shared-in-Watching.ensures in
    staff_beside g.S.StoreId.id.setting (length c.args.crew) g.S.StoreId.id.counters.parts _ _ can.0 can.1 made.workers
    (ap (λ w. w.seat) c.in_ok-watcher-in-Watching.ensures ∙ made.observer)

pub returns-in-Watching-clause-played : goal.returns-in-Watching-clause-played
returns-in-Watching-clause-played g c =
    rw (c.in-Watching.is, sym (ap (λ w. w.boards) c.in_ok-watcher-in-Watching.ensures)) c.play_and_end-in-Watching.ensures.played

pub play_and_end-requires-in-Showing-clause-staff : goal.play_and_end-requires-in-Showing-clause-staff
play_and_end-requires-in-Showing-clause-staff g c κs within =
    let can = rw c.in-Showing.is at c.requires.can in
    let made = c.in_ok-shared-in-Showing.ensures in
    staff_beside g.S.StoreId.id.setting (length c.args.crew) g.S.StoreId.id.counters.parts _ _ can.0 can.1 made.workers
    (ap (λ o. o.seat) c.new-in-Showing.ensures ∙ made.observer)

pub returns-clause-played : goal.returns-clause-played
returns-clause-played g c =
    rw (c.in-Showing.is, sym (ap (λ o. o.monitor) c.new-in-Showing.ensures)) c.play_and_end-in-Showing.ensures.played
