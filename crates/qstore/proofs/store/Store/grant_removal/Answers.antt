use Rattle.std.proofs.Common.{refl, ap, subst, sym, ◌∙◌}
use Rattle.qplain.specs.Names.{swept, without_name}
use Rattle.qplain.specs.State.{State}
use Rattle.qstore_walk.specs.Paths.{name_in}
use Rattle.qstore_change.specs.FileTypes.{CanRemove}
use Rattle.qstore.proofs.Deciding.{decision-billed, decision-unbilled, decision-unmade, kept}
use Rattle.qstore.proofs.store.Store.grant_removal.Goals as goal

pub admit-requires-clause-asked : goal.admit-requires-clause-asked
admit-requires-clause-asked c = (swept (without_name c.args.self.now.state c.args.dir (name_in c.args.path.now)), c.requires.asked)

pub returns-in-Err : goal.returns-in-Err
returns-in-Err c =
    let x = c.args in
    kept _ _ c.refused.ensures.plan
    (decision-unbilled x.self.now c.admit.new.self c.admit.ensures.same x.request.now _ x.number 0 _ _ c.requires.asked refl c.refused.result
    c.in-Err.refusal c.in-Err.ensures.refused c.refused.ensures.reply)

pub returns-in_err-path : goal.returns-in_err-path
returns-in_err-path c =
    let x = c.args in
    decision-unmade x.self.now c.admit.new.self c.admit.ensures.same x.request.now _ x.number 0 _ _ c.requires.asked refl _ _
    c.in-Ok.ensures.granted c.from_residual.ensures.0

pub returns : goal.returns
returns c =
    let x = c.args in
    let s = x.self.now in
    let same = c.admit.ensures.same in
    let name = ap name_in c.in_ok-path.ensures in
    kept _ _ c.granted.ensures.plan
    (decision-billed s c.admit.new.self same x.request.now _ x.number 0 _ _ c.requires.asked refl _ c.granted.result c.in-Ok.ensures.granted
    (c.removal-change.ensures.made s.state ∙ ap (λ n. swept (without_name s.state x.dir n)) name)
    (c.removal-change.ensures.can c.admit.new.self.state c.admit.new.self.room
    (subst (λ (S : State). CanRemove x.sort S x.dir x.number (name_in c.in_ok-path.path)) (sym same.state)
    (subst (CanRemove x.sort s.state x.dir x.number) (sym name) c.requires.can)))
    c.granted.ensures.reply)
