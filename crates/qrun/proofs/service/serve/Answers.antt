use Rattle.std.proofs.Common.{subst}
use Rattle.qrun.specs.Crews.{HasEnded}
use Rattle.qrun.proofs.Ended.{of_clients}
use Rattle.qrun.proofs.Naming.{if_ok}
use Rattle.qrun.proofs.service.serve.Goals as goal

pub returns-clause-clients : goal.returns-clause-clients
returns-clause-clients g c =
    let talk = g.C.Client.talk in
    let setting = c.args.beginning.store.setting in
    let begun = c.args.beginning.store.begun in
    let crew = c.new-crew.result in
    if_ok c.play_on.result
    (λ s played. of_clients talk setting begun c.args.clients.items s.left.items s.outcome
    (subst (λ cs. HasEnded talk setting begun cs 0 s.left.items s.outcome) c.new-crew.ensures
    (subst (λ n. HasEnded talk setting begun crew n s.left.items s.outcome) c.of_monitor.ensures.looks played.ended)))
    c.play_on.ensures.played

pub play_on-requires-clause-begun : goal.play_on-requires-clause-begun
play_on-requires-clause-begun g c κs within = rw c.of_monitor.ensures.looks c.requires.can.0
