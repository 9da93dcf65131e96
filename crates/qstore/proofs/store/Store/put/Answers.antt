use Rattle.std.proofs.Common.{ap, refl, subst, sym, ◌∙◌}
use Rattle.qblocks.specs.File.{after_write}
use Rattle.qblocks.specs.Input.{input_bytes}
use Rattle.qplain.specs.State.{State}
use Rattle.qstore_tree.specs.Room.{Room}
use Rattle.qstore_change.specs.declared.tree_change.TreeChange.{TreeChange}
use Rattle.qstore_change.specs.declared.tree_change.TreeChange.TheVariants.{Write}
use Rattle.qstore.specs.declared.store.Store.TheInside.{Inside}
use Rattle.qstore_change.specs.Changes.{CanChange, changed}
use Rattle.qstore.specs.Stored.{Stored}
use Rattle.qstore.proofs.Calls.{altered-there}
use Rattle.qstore.proofs.Settling.{bounds-changed, counted-billed, tree-kept}
use Rattle.qstore.proofs.store.Store.put.Goals as goal

pub write-requires : goal.write-requires
write-requires c =
    let x = c.args in
    let s = x.self.now in
    let change : TreeChange = Write x.target.now.number x.off (input_bytes x.bytes) x.spare in
    let view = sym c.self.view_is in
    let can = subst (λ (r : Room). CanChange s.state r change) (ap (λ (t : Stored). t.room) view) c.requires.can.0 in
    (s.state, tree-kept s c.self.inside view c.self.invariant, can)

pub invariant_of-self : goal.invariant_of-self
invariant_of-self c =
    let x = c.args in
    let s = x.self.now in
    let a = c.self.inside in
    let change : TreeChange = Write x.target.now.number x.off (input_bytes x.bytes) x.spare in
    let view = sym c.self.view_is in
    let new : Inside = record a { accounts = c.settle.new.self; tree = c.write.new.tree } in
    let can = subst (λ (r : Room). CanChange s.state r change) (ap (λ (t : Stored). t.room) view) c.requires.can.0 in
    let left = altered-there s.state x.target.now.number (λ i. record i { file = after_write i.file x.off (input_bytes x.bytes) }) can.inode can.there in
    let next = ap (λ (T : State). T.next) left ∙ ap (λ (t : Stored). t.state.next) view in
    let tree = c.write.ensures s.state (tree-kept s a view c.self.invariant) can in
    counted-billed s a new (changed s.state change) view (bounds-changed s.state change)
    c.self.invariant refl c.settle.ensures tree next c.requires.can.1 c.requires.sound
