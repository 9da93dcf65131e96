use Rattle.std.proofs.Common.{◌≡◌, sym, ap, ◌∙◌}
use Rattle.qplain.specs.declared.refusal.Refusal.TheVariants.{EISDIR}
use Rattle.qplain.specs.Attempt.{in_parent}
use Rattle.qplain.specs.Names.{unlink_as}
use Rattle.qplain.specs.State.{named}
use Rattle.qstore_walk.specs.Paths.{name_in}
use Rattle.qstore.proofs.Deciding.{decision-along}
use Rattle.qstore.proofs.store.Store.decide_unlink.Goals as goal

pub take_name-requires-clause-led : goal.take_name-requires-clause-led
take_name-requires-clause-led c =
    let S = c.args.self.now.state in
    let last = c.in-Ok.last in
    let name : name_in c.args.path.now ≡ last.name.now = ap name_in (sym c.text.ensures) ∙ c.in-Ok.ensures.name in
    ap (named S last.dir) name ∙ sym (c.in-Ok.ensures.leads_to S c.tree.ensures) ∙ c.in-Some.is

pub returns-in-Some : goal.returns-in-Some
returns-in-Some c =
    let x = c.args in
    let S = x.self.now.state in
    let cred = x.request.now.cred.now in
    let last = c.in-Ok.last in
    let name : name_in x.path.now ≡ last.name.now = ap name_in (sym c.text.ensures) ∙ c.in-Ok.ensures.name in
    decision-along x.self.now c.take_name.new.self x.request.now _ _ c.take_name.result
    (ap (in_parent S EISDIR (unlink_as S cred)) (sym c.text.ensures) ∙ c.in-Ok.ensures.found S c.tree.ensures (unlink_as S cred)
    ∙ ap (unlink_as S cred last.dir) (sym name))
    c.take_name.ensures
