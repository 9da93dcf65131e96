use Rattle.std.proofs.Common.{string_bytes, ◌<◌, ap, subst, sym, ◌∙◌, arith}
use Rattle.std.specs.Option.{option_map, unwrap_or}
use Rattle.qstore_tree.specs.Nodes.{name_room_in}
use Rattle.qstore_tree.proofs.AllNames.{name_at}
use Rattle.qstore_tree.proofs.Changed.{IsChanged, inodes-kept, links-kept, names-put}
use Rattle.qstore_tree.proofs.TreeChanges.{name_room_seen, name_seen}
use Rattle.qstore_tree.proofs.tree.Tree.put_name.Goals as goal

pub put_name-requires-clause-room : goal.put_name-requires-clause-room
put_name-requires-clause-room c =
    let seen = name_room_seen c.self.inside.nodes.entries _ c.args.self.now c.self.view_is c.args.dir
    ∙ ap (λ o. unwrap_or (option_map (λ n. name_room_in n.content) o) 0) (sym c.in-Some.ensures.value) in
    subst (λ n. 0 < n) seen c.requires.room

pub put_name-requires-clause-absent : goal.put_name-requires-clause-absent
put_name-requires-clause-absent c =
    ap (name_at (string_bytes c.args.name)) c.in-Some.ensures.value
    ∙ sym (name_seen c.self.inside.nodes.entries _ c.args.self.now c.self.view_is c.args.dir (string_bytes c.args.name)) ∙ c.requires.unnamed

pub unreachable-requires : goal.unreachable-requires
unreachable-requires c =
    let seen = name_room_seen c.self.inside.nodes.entries _ c.args.self.now c.self.view_is c.args.dir
    ∙ ap (λ o. unwrap_or (option_map (λ n. name_room_in n.content) o) 0) (sym c.in-None.ensures.value) in
    let no : 0 < 0 = subst (λ n. 0 < n) seen c.requires.room in
    omega (arith, no)

-- the table after the call
changed : (c : goal.After-self-in-Some-1)
    → IsChanged c.args.self.now c.self.inside.nodes (c.get_mut.follows.lender c.put_name.new.self) c.args.dir c.in-Some.node.now c.put_name.new.self
changed c = record { seen = c.self.view_is; found = c.in-Some.ensures.value; writes = c.get_mut.follows.holds c.put_name.new.self }

pub returns-clause-inodes : goal.returns-clause-inodes
returns-clause-inodes c =
    inodes-kept (changed c) c.put_name.ensures.inode

pub returns-clause-names : goal.returns-clause-names
returns-clause-names c =
    names-put (changed c) (string_bytes c.args.name) c.args.number c.put_name.ensures.names

pub returns-clause-links : goal.returns-clause-links
returns-clause-links c =
    links-kept (changed c) c.put_name.ensures.links

pub returns-clause-inode_room : goal.returns-clause-inode_room
returns-clause-inode_room c = (c.get_mut.follows.holds c.put_name.new.self).6 ∙ ap (λ t. t.room.inodes) c.self.view_is
