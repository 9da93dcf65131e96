use Rattle.std.proofs.Common.{true, ap, arith, string_bytes, sym, ◌∙◌}
use Rattle.std.specs.BTreeMap.{is_at}
use Rattle.std.specs.Map.{lookup}
use Rattle.std.specs.Ordering.{nat_cmp}
use Rattle.qplain.specs.Use.{links_of}
use Rattle.qplain_laws.proofs.Settling.{absent-next}
use Rattle.qstore_change.proofs.ParentLinks.{parent-links, tree-directory}
use Rattle.qstore_change.proofs.parts.add_directory.Goals as goal

pub add_link-requires : goal.add_link-requires
add_link-requires c =
    let S = c.requires.0 in
    let parent = parent-links S c.args.tree.now.links c.args.dir c.requires.1.links c.requires.3 c.requires.4.directory in
    let few = parent.1 in
    (links_of S c.args.dir true, parent.0, omega (arith, few))

pub add_directory-requires-clause-absent : goal.add_directory-requires-clause-absent
add_directory-requires-clause-absent c =
    ap (lookup (is_at (nat_cmp c.args.next))) c.add_link.ensures.inodes
    ∙ (λ i. lookup (is_at (nat_cmp (sym c.requires.2 i))) (c.requires.1.inodes i))
    ∙ absent-next c.requires.0 c.requires.3

pub returns : goal.returns
returns c S is next lawful can =
    let x = c.args in
    let e = c.add_link.ensures in
    let put = c.add_directory.ensures in
    tree-directory S x.tree.now c.add_link.new.self c.add_directory.new.self x.owners x.dir x.next (string_bytes x.name) is next lawful
    can.absent can.directory e.inodes e.names e.links put.inodes put.names put.links
