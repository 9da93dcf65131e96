use Rattle.std.proofs.Common.{ℕ, List, refl, string_bytes, subst, sym, ◌∙◌}
use Rattle.std.specs.BTreeMap.{is_at}
use Rattle.std.specs.Map.{lookup}
use Rattle.std.specs.Ordering.{nat_cmp}
use Rattle.qblocks.specs.File.{after_truncate}
use Rattle.qplain.specs.Owners.{with_owners}
use Rattle.qplain_laws.proofs.Settling.{absent-next}
use Rattle.qstore_tree.specs.TreeOf.{IsTreeOf}
use Rattle.qstore_change.specs.declared.tree_change.TreeChange.{TreeChange}
use Rattle.qstore_change.specs.declared.tree_change.TreeChange.TheVariants.{Write}
use Rattle.qstore_change.specs.Changes.{CanChange, CanWrite, changed}
use Rattle.qstore_change.proofs.Making.{tree-altered, tree-created}
use Rattle.qstore_change.proofs.tree_change.make.Goals as goal

pub add_file-requires-clause-absent : goal.add_file-requires-clause-absent
add_file-requires-clause-absent c =
    let can = c.requires.can in
    (λ i. lookup (is_at (nat_cmp (sym can.2 i))) (can.1.inodes i)) ∙ absent-next can.0 can.3

pub returns-in-Create-clause-tree : goal.returns-in-Create-clause-tree
returns-in-Create-clause-tree c S is next lawful =
    let x = c.args in
    let m = c.in-Create in
    let e = c.add_file.ensures in
    subst (λ (change : TreeChange). CanChange S x.tree.now.room change → IsTreeOf (changed S change) c.add_file.new.self) (sym m.is)
    (λ can. tree-created S x.tree.now c.add_file.new.self m.owners m.dir x.next (string_bytes m.name) is next lawful can.absent e.inodes
    (rw c.replace-name.ensures.value at e.names) e.links)

pub write-requires : goal.write-requires
write-requires c =
    let can = c.requires.can in
    let m = c.in-Write in
    let here = subst (λ (change : TreeChange). CanChange can.0 c.args.tree.now.room change) m.is can.4 in
    let read = subst (CanWrite can.0 c.args.tree.now.room m.number m.off m.spare) (sym c.input.ensures) here in
    (can.0, can.1, rw c.replace-spare.ensures.value read)

pub returns-in-Write-clause-tree : goal.returns-in-Write-clause-tree
returns-in-Write-clause-tree c S is next lawful =
    let x = c.args in
    let m = c.in-Write in
    subst (λ (change : TreeChange). CanChange S x.tree.now.room change → IsTreeOf (changed S change) c.write.new.tree) (sym m.is)
    (subst (λ (bytes : List ℕ). CanWrite S x.tree.now.room m.number m.off m.spare bytes
    → IsTreeOf (changed S (Write m.number m.off bytes m.spare)) c.write.new.tree) c.input.ensures
    (rw c.replace-spare.ensures.value at (c.write.ensures S is)))

pub returns-in-Truncate-clause-tree : goal.returns-in-Truncate-clause-tree
returns-in-Truncate-clause-tree c S is next lawful =
    let x = c.args in
    let m = c.in-Truncate in
    let e = c.truncate.ensures in
    subst (λ (change : TreeChange). CanChange S x.tree.now.room change → IsTreeOf (changed S change) c.truncate.new.self) (sym m.is)
    (λ can. tree-altered S x.tree.now c.truncate.new.self m.number can.file.inode (λ i. record i { file = after_truncate i.file m.size })
    is can.file.there refl e.inodes e.names e.links)

pub returns-in-Chown-clause-tree : goal.returns-in-Chown-clause-tree
returns-in-Chown-clause-tree c S is next lawful =
    let x = c.args in
    let m = c.in-Chown in
    let e = c.set_owners.ensures in
    subst (λ (change : TreeChange). CanChange S x.tree.now.room change → IsTreeOf (changed S change) c.set_owners.new.self) (sym m.is)
    (λ can. tree-altered S x.tree.now c.set_owners.new.self m.number can.inode (λ i. with_owners i m.owners)
    is can.there refl e.inodes e.names e.links)

pub returns-in-Link-clause-tree : goal.returns-in-Link-clause-tree
returns-in-Link-clause-tree c S is next lawful =
    let x = c.args in
    let m = c.in-Link in
    subst (λ (change : TreeChange). CanChange S x.tree.now.room change → IsTreeOf (changed S change) c.add_name.new.tree) (sym m.is)
    (rw c.replace-name-in-Link.ensures.value at (c.add_name.ensures S is lawful))

pub returns-in-Rename-clause-tree : goal.returns-in-Rename-clause-tree
returns-in-Rename-clause-tree c S is next lawful =
    let x = c.args in
    let m = c.in-Rename in
    subst (λ (change : TreeChange). CanChange S x.tree.now.room change → IsTreeOf (changed S change) c.rename.new.tree) (sym m.is)
    (rw c.replace-to_name.ensures.value at (c.rename.ensures S is lawful))
