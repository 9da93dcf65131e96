use Rattle.std.proofs.Common.{refl, subst, sym}
use Rattle.qplain.specs.State.{State}
use Rattle.qstore_tree.specs.Room.{Room}
use Rattle.qstore_change.specs.Changes.{CanChange, changed}
use Rattle.qstore.proofs.Deciding.{decision-billed, decision-unbilled, kept}
use Rattle.qstore.proofs.store.Store.grant.Goals as goal

pub admit-requires-clause-asked : goal.admit-requires-clause-asked
admit-requires-clause-asked c = (changed c.args.self.now.state c.args.change, c.requires.asked)

pub returns-in-Ok : goal.returns-in-Ok
returns-in-Ok c =
    let x = c.args in
    let s = x.self.now in
    let same = c.admit.ensures.same in
    kept _ _ c.granted.ensures.plan
    (decision-billed s c.admit.new.self same x.request.now _ x.number 0 x.exchange.now _ c.requires.asked refl
    x.change c.granted.result c.in-Ok.ensures.granted refl
    (subst (λ (t : Room). CanChange c.admit.new.self.state t x.change) (sym c.admit.ensures.room)
    (subst (λ (S : State). CanChange S s.room x.change) (sym same.state) c.requires.can))
    c.granted.ensures.reply)

pub returns-in-Err : goal.returns-in-Err
returns-in-Err c =
    let x = c.args in
    kept _ _ c.refused.ensures.plan
    (decision-unbilled x.self.now c.admit.new.self c.admit.ensures.same x.request.now _ x.number 0 x.exchange.now _ c.requires.asked refl
    c.refused.result c.in-Err.refusal c.in-Err.ensures.refused c.refused.ensures.reply)
