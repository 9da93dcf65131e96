use Rattle.std.proofs.Common.{ap, arith, true, ◌∙◌}
use Rattle.std.specs.BTreeMap.{is_at}
use Rattle.std.specs.Map.{lookup, remove_entry}
use Rattle.qplain.specs.State.{name_key_cmp}
use Rattle.qplain.specs.Use.{links_of}
use Rattle.qstore_walk.specs.Paths.{name_in}
use Rattle.qstore_change.proofs.EmptyDirectories.{empty-none}
use Rattle.qstore_change.proofs.ParentLinks.{parent-links, tree-removed}
use Rattle.qstore_change.proofs.parts.take_directory.Goals as goal

pub take_link-requires : goal.take_link-requires
take_link-requires c =
    let S = c.requires.0 in
    let parent = parent-links S c.args.tree.now.links c.args.dir c.requires.1.links c.requires.2 c.requires.3.directory in
    (links_of S c.args.dir true, parent.0, omega arith)

pub take_node-requires : goal.take_node-requires
take_node-requires c stands name =
    ap (lookup (is_at (name_key_cmp (c.args.number, name)))) (c.take_link.ensures.names ∙ c.requires.1.names)
    ∙ empty-none c.requires.0 c.args.number c.requires.3.empty name

pub returns : goal.returns
returns c S is lawful can =
    let x = c.args in
    let last = c.last_of.ensures ∙ ap name_in c.text.ensures in
    let fewer = c.take_link.ensures in
    let without = c.take_node.ensures in
    tree-removed S x.tree.now c.take_link.new.self c.take_node.new.self c.take_name.new.self x.dir x.number (name_in x.path.now) is lawful can
    fewer.inodes fewer.names fewer.links without.inodes without.names without.links c.take_name.ensures.inodes
    (c.take_name.ensures.names ∙ ap (λ n. remove_entry (is_at (name_key_cmp (x.dir, n))) c.take_node.new.self.names) last)
    c.take_name.ensures.links
