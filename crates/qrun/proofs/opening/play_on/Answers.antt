use Rattle.std.proofs.Common.{◌≡◌, length, IfErr, ap, subst, sym, ◌∙◌}
use Rattle.qrun.specs.Looking.{lookers_in}
use Rattle.qrun.specs.RunFaults.{IsFaultOf}
use Rattle.qrun.specs.Serving.{CanServe}
use Rattle.qrun.specs.Watching.{seats_for}
use Rattle.qrun.proofs.Naming.{if_ok, parts_for}
use Rattle.qrun.proofs.opening.play_on.Goals as goal

pub play_opened-requires-clause-can : goal.play_opened-requires-clause-can
play_opened-requires-clause-can g c κs within =
    let n = length c.args.crew in
    let setting : c.ruled.result.setting ≡ c.args.beginning.store.setting = ap (λ o. o.setting) c.ruled.ensures ∙ c.in_ok-opened.ensures.setting in (
      subst (λ s. CanServe s n (lookers_in c.args.looking)) (sym setting) c.requires.can.0,
      parts_for n c.args.looking _ _ _ (ap (λ o. o.counters.parts) c.ruled.ensures ∙ c.in_ok-opened.ensures.seats) c.len.ensures c.lookers.ensures,
    )

pub returns-clause-fault : goal.returns-clause-fault
returns-clause-fault g c =
    let n = length c.args.crew in
    let parts : c.ruled.result.counters.parts ≡ seats_for n (lookers_in c.args.looking) =
    parts_for n c.args.looking _ _ _ (ap (λ o. o.counters.parts) c.ruled.ensures ∙ c.in_ok-opened.ensures.seats) c.len.ensures c.lookers.ensures in
    subst (λ m. IfErr c.play_opened.result (IsFaultOf m)) parts c.play_opened.ensures.fault

pub returns-clause-played : goal.returns-clause-played
returns-clause-played g c =
    let setting : c.ruled.result.setting ≡ c.args.beginning.store.setting = ap (λ o. o.setting) c.ruled.ensures ∙ c.in_ok-opened.ensures.setting in
    let begun : c.ruled.result.begun ≡ c.args.beginning.store.begun = ap (λ o. o.begun) c.ruled.ensures ∙ c.in_ok-opened.ensures.begun in
    let clock : c.ruled.result.clocked ≡ c.args.clock = ap (λ o. o.clocked) c.ruled.ensures in
    if_ok c.play_opened.result (λ s played. rw (setting, begun, clock) at played) c.play_opened.ensures.played
