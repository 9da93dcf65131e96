use Rattle.std.proofs.Common.{rules, string_bytes}
use Rattle.qstore_change.proofs.FurtherNames.{may-count, tree-linked}
use Rattle.qstore_change.proofs.parts.add_name.Goals as goal

pub add_link-requires : goal.add_link-requires
add_link-requires c =
    let x = c.args in
    let can = c.requires in
    let may = may-count can.0 x.tree.now x.number can.3.file.inode can.1 can.2 can.3.file.there in
    search (rules, may)

pub returns : goal.returns
returns c S is lawful can =
    let x = c.args in
    tree-linked S x.tree.now c.add_link.new.self x.dir (string_bytes x.name) x.number is lawful can (search rules) (search rules) (search rules)
