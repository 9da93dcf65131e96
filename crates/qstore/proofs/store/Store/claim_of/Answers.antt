use Rattle.std.proofs.Common.{◌≡◌, true, Some, refl, sym, subst, ◌∙◌, arith}
use Rattle.qplain.specs.State.{inode_at}
use Rattle.qstore_tree.specs.Nodes.{inode_of}
use Rattle.qplain_laws.proofs.Fitting.{known-owners}
use Rattle.qstore.specs.Kept.{state_of}
use Rattle.qstore.specs.Requests.{are_declared}
use Rattle.qstore.specs.Stored.{Stored}
use Rattle.qstore.proofs.Calls.{known-declared}
use Rattle.qstore.proofs.Deciding.{weight-fits}
use Rattle.qstore.proofs.store.Store.claim_of.Goals as goal

pub claim-requires-clause-declared : goal.claim-requires-clause-declared
claim-requires-clause-declared c =
    let x = c.args in
    let inode = inode_of x.node.now in
    let there = subst (λ (v : Stored). inode_at v.state x.number ≡ Some inode) (sym c.self.view_is) c.requires.there in
    subst (λ (v : Stored). are_declared v.state inode.owners ≡ true) c.self.view_is
    (known-declared (state_of c.self.inside) inode.owners
    (known-owners (state_of c.self.inside) x.number inode c.self.invariant.sound.lawful.parts there))

pub returns-clause-claimed : goal.returns-clause-claimed
returns-clause-claimed c = c.claim.ensures.claimed (inode_of c.args.node.now) refl (sym c.blocks-2.ensures)

pub returns-clause-few : goal.returns-clause-few
returns-clause-few c =
    let x = c.args in
    let a = c.self.inside in
    let there = subst (λ (v : Stored). inode_at v.state x.number ≡ Some (inode_of x.node.now)) (sym c.self.view_is) c.requires.there in
    let fits = weight-fits (state_of a) x.number (inode_of x.node.now) there c.self.invariant.sound.lawful in
    let low = c.self.invariant.in_range.size in
    let weight = c.claim.ensures.blocks ∙ c.blocks-2.ensures in
    omega (arith, fits, low, weight)
