use Rattle.std.proofs.Common.{refl}
use Rattle.qblocks.specs.File.{after_write}
use Rattle.qblocks.specs.Input.{input_bytes}
use Rattle.qstore_change.proofs.Making.{tree-altered}
use Rattle.qstore_change.proofs.parts.write.Goals as goal

pub returns : goal.returns
returns c S is can =
    let x = c.args in
    let e = c.put.ensures in
    tree-altered S x.tree.now c.put.new.self x.number can.inode (λ i. record i { file = after_write i.file x.off (input_bytes x.input) })
    is can.there refl e.inodes e.names e.links
