use Rattle.std.proofs.Common.{◌≡◌, None, ap, nat_eq, sym, ◌∙◌}
use Rattle.std.specs.BTreeMap.{insert_entry}
use Rattle.std.specs.Map.{lookup}
use Rattle.std.specs.Option.{option_map}
use Rattle.std.specs.Ordering.{nat_cmp}
use Rattle.qstore_tree.specs.Nodes.{inode_of}
use Rattle.qstore_tree.proofs.Numbered.{IsPut, seen-insert}
use Rattle.qstore_tree.proofs.TreeChanges.{inode_seen, named-new, none_seen, put-updates}
use Rattle.qstore_tree.proofs.tree.Tree.put_node.Goals as goal

-- the table with the node in it
put_is : (c : goal.Joined-this) → IsPut c.self.inside.nodes.entries c.insert.new.self.entries c.args.number c.args.node
put_is c = put-updates c.self.inside.nodes c.insert.new.self c.args.number c.args.node c.in-Ok.ensures.updates

-- the number is free before it is put
free : (c : goal.Joined-this) → lookup (nat_eq c.args.number) c.self.inside.nodes.entries ≡ None
free c =
    let seen : option_map inode_of (lookup (nat_eq c.args.number) c.self.inside.nodes.entries) ≡ None =
    sym (inode_seen c.self.inside.nodes.entries _ c.args.self.now c.self.view_is c.args.number) ∙ c.requires.absent in
    none_seen inode_of (lookup (nat_eq c.args.number) c.self.inside.nodes.entries) seen

pub returns-clause-inodes : goal.returns-clause-inodes
returns-clause-inodes c =
    seen-insert inode_of c.self.inside.nodes.entries c.insert.new.self.entries c.args.number c.args.node (put_is c)
    ∙ ap (λ t. insert_entry nat_cmp t.inodes c.args.number (inode_of c.args.node)) c.self.view_is

pub returns-clause-names : goal.returns-clause-names
returns-clause-names c =
    named-new c.self.inside.nodes.entries c.insert.new.self.entries c.args.number c.args.node (free c) (put_is c) c.requires.empty
    ∙ ap (λ t. t.names) c.self.view_is

pub returns-clause-links : goal.returns-clause-links
returns-clause-links c =
    seen-insert (λ n. n.links) c.self.inside.nodes.entries c.insert.new.self.entries c.args.number c.args.node (put_is c)
    ∙ ap (λ t. insert_entry nat_cmp t.links c.args.number c.args.node.links) c.self.view_is
