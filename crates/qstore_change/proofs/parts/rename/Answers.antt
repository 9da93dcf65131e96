use Rattle.std.proofs.Common.{◌≡◌, true, string_bytes, ap, sym, ◌∙◌, arith}
use Rattle.std.specs.BTreeMap.{is_at}
use Rattle.std.specs.Map.{lookup}
use Rattle.qplain.specs.State.{name_key_cmp, named}
use Rattle.qplain.specs.Use.{links_of}
use Rattle.qplain_laws.proofs.Finding.{led-inode}
use Rattle.qstore_walk.specs.Paths.{name_in}
use Rattle.qstore_change.proofs.ParentLinks.{parent-links}
use Rattle.qstore_change.proofs.RenamedTrees.{no-names, tree-onto, tree-onto-none}
use Rattle.qstore_change.proofs.Renamings.{leaves, moved-tree}
use Rattle.qstore_change.proofs.parts.rename.Goals as goal

pub move_node-requires-clause-from : goal.move_node-requires-clause-from
move_node-requires-clause-from c =
    let x = c.args in
    let r = c.requires in
    let stands = leaves r.0 x.tree.now.room r.2 x.dir (name_in x.path.now) x.number x.to_dir (string_bytes x.to_name) r.3 in
    (links_of r.0 x.dir true, (parent-links r.0 x.tree.now.links x.dir r.1.links r.2 stands).0, omega arith)

pub move_node-requires-clause-to : goal.move_node-requires-clause-to
move_node-requires-clause-to c =
    let x = c.args in
    let r = c.requires in
    let parent = parent-links r.0 x.tree.now.links x.to_dir r.1.links r.2 r.3.directory in
    let few = parent.1 in
    (links_of r.0 x.to_dir true, parent.0, omega (arith, few))

pub returns-in_default : goal.returns-in_default
returns-in_default c S is lawful can =
    let x = c.args in
    let to_name = string_bytes x.to_name in
    let target : c.led_to-replaced.result ≡ named S x.to_dir to_name =
    c.led_to-replaced.ensures ∙ (λ i. lookup (is_at (name_key_cmp (x.to_dir, c.deref.ensures i))) (is.names i)) in
    let n = c.move_node.ensures in
    let m = c.move_name.ensures in
    tree-onto-none S x.tree.now.room lawful x.dir (name_in x.path.now) x.number x.to_dir to_name can c.move_name.new.self
    (sym target ∙ c.in_default.is)
    (moved-tree S x.tree.now.room lawful x.dir (name_in x.path.now) x.number x.to_dir to_name can x.tree.now c.move_node.new.tree c.move_name.new.self
    c.led_to-replaced.result c.is_some.result c.last_of.result.now is target c.is_some.ensures (c.last_of.ensures ∙ ap name_in c.text.ensures)
    n.rest.inodes n.rest.names n.file n.directory m.inodes m.links m.names)

pub drop_replaced-requires : goal.drop_replaced-requires
drop_replaced-requires c stands other =
    let x = c.args in
    let r = c.requires in
    let S = r.0 in
    let is = r.1 in
    let name = name_in x.path.now in
    let to_name = string_bytes x.to_name in
    let target : c.led_to-replaced.result ≡ named S x.to_dir to_name =
    c.led_to-replaced.ensures ∙ (λ i. lookup (is_at (name_key_cmp (x.to_dir, c.deref.ensures i))) (is.names i)) in
    let led_to = sym target ∙ c.in-Some.is in
    let replaced = led-inode S r.2 x.to_dir to_name c.in-Some.target led_to in
    let n = c.move_node.ensures in
    let m = c.move_name.ensures in
    let moved = moved-tree S x.tree.now.room r.2 x.dir name x.number x.to_dir to_name r.3 x.tree.now c.move_node.new.tree c.move_name.new.self
    c.led_to-replaced.result c.is_some.result c.last_of.result.now is target c.is_some.ensures (c.last_of.ensures ∙ ap name_in c.text.ensures)
    n.rest.inodes n.rest.names n.file n.directory m.inodes m.links m.names in
    ap (lookup (is_at (name_key_cmp (c.in-Some.target, other)))) moved.names
    ∙ no-names S x.tree.now.room r.2 x.dir name x.number x.to_dir to_name r.3 c.in-Some.target replaced.0 led_to replaced.1 other

pub returns-in-Some : goal.returns-in-Some
returns-in-Some c S is lawful can =
    let x = c.args in
    let name = name_in x.path.now in
    let to_name = string_bytes x.to_name in
    let target : c.led_to-replaced.result ≡ named S x.to_dir to_name =
    c.led_to-replaced.ensures ∙ (λ i. lookup (is_at (name_key_cmp (x.to_dir, c.deref.ensures i))) (is.names i)) in
    let led_to = sym target ∙ c.in-Some.is in
    let replaced = led-inode S lawful x.to_dir to_name c.in-Some.target led_to in
    let n = c.move_node.ensures in
    let m = c.move_name.ensures in
    let d = c.drop_replaced.ensures in
    let moved = moved-tree S x.tree.now.room lawful x.dir name x.number x.to_dir to_name can x.tree.now c.move_node.new.tree c.move_name.new.self
    c.led_to-replaced.result c.is_some.result c.last_of.result.now is target c.is_some.ensures (c.last_of.ensures ∙ ap name_in c.text.ensures)
    n.rest.inodes n.rest.names n.file n.directory m.inodes m.links m.names in
    tree-onto S x.tree.now.room lawful x.dir name x.number x.to_dir to_name can c.in-Some.target replaced.0 led_to replaced.1
    c.move_name.new.self c.drop_replaced.new.tree moved d.names d.directory d.last d.more
