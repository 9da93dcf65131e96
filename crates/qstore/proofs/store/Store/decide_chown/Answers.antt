use Rattle.std.proofs.Common.{rules, ◌≡◌, true, false, Some, refl, sym, ap, subst, ◌∙◌, arith}
use Rattle.qplain.specs.declared.refusal.Refusal.TheVariants.{EPERM}
use Rattle.qplain.specs.Attempt.{Becomes}
use Rattle.qplain.specs.Owners.{chown_at, give, with_owners}
use Rattle.qplain.specs.Rights.{may_give}
use Rattle.qplain_laws.proofs.Fitting.{known-owners}
use Rattle.qstore_tree.specs.Nodes.{inode_of}
use Rattle.qstore.specs.Decided.{IsAsked}
use Rattle.qstore.specs.Requests.{are_declared}
use Rattle.qstore.proofs.Calls.{altered-there, changed-asked, give-becomes, give-refused, known-declared, named-declared}
use Rattle.qstore.proofs.Deciding.{decision-along, refused-here}
use Rattle.qstore.proofs.store.Store.decide_chown.Goals as goal

pub returns-in-Err : goal.returns-in-Err
returns-in-Err c =
    let x = c.args in
    let s = x.self.now in
    refused-here s c.refused.new.self x.request.now _ c.refused.result c.in-Err.refusal
    (c.in-Err.ensures.fault s.state c.tree.ensures (chown_at s.state x.request.now.cred.now x.uid x.gid x.project)) c.refused.ensures.plan
    c.refused.ensures.reply

pub returns-then-not-may_give : goal.returns-then-not-may_give
returns-then-not-may_give c =
    let x = c.args in
    let s = x.self.now in
    let S = s.state in
    let cred = x.request.now.cred.now in
    let number = c.in-Ok.found.number in
    let inode = inode_of c.in-Ok.found.node.now in
    let found = c.in-Ok.ensures.found S c.tree.ensures (chown_at S cred x.uid x.gid x.project) in
    let owners : chown_at S cred x.uid x.gid x.project number inode ≡ give S cred c.renewed-owners.result number inode =
    λ i. give S cred (sym c.renewed-owners.ensures i) number inode in
    let may : may_give cred inode c.renewed-owners.result ≡ false = search rules in
    refused-here s c.refused-then-not-may_give.new.self x.request.now _ c.refused-then-not-may_give.result EPERM
    (found ∙ owners ∙ give-refused S cred c.renewed-owners.result number inode may)
    c.refused-then-not-may_give.ensures.plan c.refused-then-not-may_give.ensures.reply

pub claim-to-requires-clause-declared : goal.claim-to-requires-clause-declared
claim-to-requires-clause-declared c =
    let x = c.args in
    let S = x.self.now.state in
    let inode = inode_of c.in-Ok.found.node.now in
    let known = known-owners S c.in-Ok.found.number inode c.requires.can.whole.sound.lawful.parts (c.in-Ok.ensures.there S c.tree.ensures) in
    ap (are_declared S) c.renewed-owners.ensures
    ∙ named-declared S x.uid x.gid x.project inode.owners c.requires.declared (known-declared S inode.owners known)

pub grant-requires-clause-asked : goal.grant-requires-clause-asked
grant-requires-clause-asked c =
    let x = c.args in
    let s = x.self.now in
    let inode = inode_of c.in-Ok.found.node.now in
    let number = c.in-Ok.found.number in
    let there = c.in-Ok.ensures.there s.state c.tree.ensures in
    let owners = c.renewed-owners.result in
    let blocks = c.claim_of-from.ensures.blocks in
    let few = c.claim_of-from.ensures.few in
    let after = with_owners inode owners in
    subst (IsAsked s (record { from = Some c.claim_of-from.result; to = Some c.claim-to.result }) 0)
    (sym (altered-there s.state number (λ i. with_owners i owners) inode there))
    (changed-asked s c.requires.can.whole number inode after there c.claim_of-from.result c.claim-to.result c.claim_of-from.ensures.claimed
    (c.claim-to.ensures.claimed after refl (sym blocks)) (omega (arith, blocks, few)))

pub returns : goal.returns
returns c =
    let x = c.args in
    let S = x.self.now.state in
    let cred = x.request.now.cred.now in
    let number = c.in-Ok.found.number in
    let inode = inode_of c.in-Ok.found.node.now in
    let owners = c.renewed-owners.result in
    let found = c.in-Ok.ensures.found S c.tree.ensures (chown_at S cred x.uid x.gid x.project) in
    let given : chown_at S cred x.uid x.gid x.project number inode ≡ give S cred owners number inode =
    λ i. give S cred (sym c.renewed-owners.ensures i) number inode in
    let may : may_give cred inode owners ≡ true = search rules in
    let made = altered-there S number (λ i. with_owners i owners) inode (c.in-Ok.ensures.there S c.tree.ensures) in
    decision-along x.self.now c.grant.new.self x.request.now _ _ _
    (found ∙ given ∙ give-becomes S cred owners number inode may ∙ ap (λ T. Becomes T number) (sym made)) c.grant.ensures

pub grant-requires-clause-can : goal.grant-requires-clause-can
grant-requires-clause-can c = record {
  inode = inode_of c.in-Ok.found.node.now;
  there = c.in-Ok.ensures.there c.args.self.now.state c.tree.ensures;
}
