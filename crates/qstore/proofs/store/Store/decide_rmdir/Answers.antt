use Rattle.std.proofs.Common.{◌≡◌, sym, ap, ◌∙◌}
use Rattle.qplain.specs.declared.refusal.Refusal.TheVariants.{EBUSY}
use Rattle.qplain.specs.Attempt.{in_parent}
use Rattle.qplain.specs.Names.{rmdir_as}
use Rattle.qplain.specs.State.{named}
use Rattle.qstore_walk.specs.Paths.{name_in}
use Rattle.qstore.proofs.Deciding.{decision-along}
use Rattle.qstore.proofs.store.Store.decide_rmdir.Goals as goal

pub take_directory-requires-clause-led : goal.take_directory-requires-clause-led
take_directory-requires-clause-led c =
    let S = c.args.self.now.state in
    let last = c.in-Ok.last in
    let name : name_in c.args.path.now ≡ last.name.now = ap name_in (sym c.text.ensures) ∙ c.in-Ok.ensures.name in
    ap (named S last.dir) name ∙ sym (c.in-Ok.ensures.leads_to S c.tree.ensures) ∙ c.in-Some.is

pub returns-in-Some : goal.returns-in-Some
returns-in-Some c =
    let x = c.args in
    let S = x.self.now.state in
    let cred = x.request.now.cred.now in
    let last = c.in-Ok.last in
    let name : name_in x.path.now ≡ last.name.now = ap name_in (sym c.text.ensures) ∙ c.in-Ok.ensures.name in
    decision-along x.self.now c.take_directory.new.self x.request.now _ _ c.take_directory.result
    (ap (in_parent S EBUSY (rmdir_as S cred)) (sym c.text.ensures) ∙ c.in-Ok.ensures.found S c.tree.ensures (rmdir_as S cred)
    ∙ ap (rmdir_as S cred last.dir) (sym name))
    c.take_directory.ensures
