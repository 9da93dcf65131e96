use Rattle.std.proofs.Common.{◌<◌, ap, subst, sym, ◌∙◌}
use Rattle.std.specs.Option.{option_map}
use Rattle.std.proofs.lemmas.Result.{on_ok_weaker}
use Rattle.qplain.specs.State.{is_dir}
use Rattle.qstore_tree.specs.Nodes.{inode_of, name_room_in}
use Rattle.qstore_tree.proofs.Changed.{IsChanged, inode_room-kept, name_room-here, put}
use Rattle.qstore_tree.proofs.TreeChanges.{inode_seen, same_tree}
use Rattle.qstore_tree.proofs.tree.Tree.make_name_room.Goals as goal

pub make_room-requires : goal.make_room-requires
make_room-requires c =
    ap (λ o. is_dir (option_map inode_of o)) c.in-Some.ensures.value
    ∙ sym (ap is_dir (inode_seen c.self.inside.nodes.entries _ c.args.self.now c.self.view_is c.args.dir)) ∙ c.requires

pub unreachable-requires : goal.unreachable-requires
unreachable-requires c =
    let dir = sym (ap is_dir (inode_seen c.self.inside.nodes.entries _ c.args.self.now c.self.view_is c.args.dir)) ∙ c.requires in
    let no = ap (λ o. is_dir (option_map inode_of o)) c.in-None.ensures.value ∙ dir in
    cc

-- the table after the call
changed : (c : goal.After-self-in-Some-1)
    → IsChanged c.args.self.now c.self.inside.nodes (c.get_mut.follows.lender c.make_room.new.self) c.args.dir c.in-Some.node.now c.make_room.new.self
changed c = record { seen = c.self.view_is; found = c.in-Some.ensures.value; writes = c.get_mut.follows.holds c.make_room.new.self }

pub returns-clause-same : goal.returns-clause-same
returns-clause-same c =
    same_tree c.self.inside.nodes.entries (c.get_mut.follows.lender c.make_room.new.self).entries c.args.dir
    c.in-Some.node.now c.make_room.new.self (sym c.in-Some.ensures.value) (put (changed c)) _ _ c.args.self.now c.self.view_is
    c.make_room.ensures.same

pub returns-clause-room : goal.returns-clause-room
returns-clause-room c =
    on_ok_weaker c.make_room.result (λ (room : 0 < name_room_in c.make_room.new.self.content).
    subst (λ n. 0 < n) (sym (name_room-here (changed c))) room) c.make_room.ensures.room

pub returns-clause-inode_room : goal.returns-clause-inode_room
returns-clause-inode_room c = inode_room-kept (changed c)
