use Rattle.std.proofs.Common.{◌≡◌, ◌<◌, ◌≤◌, ap, arith, refl, subst, sym, ◌∙◌}
use Rattle.std.specs.HashMap.{spare}
use Rattle.std.specs.Option.{option_map, unwrap_or}
use Rattle.std.proofs.lemmas.Result.{on_ok_weaker}
use Rattle.qstore_tree.specs.Nodes.{name_room_in}
use Rattle.qstore_tree.specs.Tree.{name_room, tree_of}
use Rattle.qstore_tree.proofs.TreeChanges.{name_room_seen, same_tree-reordered}
use Rattle.qstore_tree.proofs.tree.Tree.make_room.Goals as goal

pub returns-clause-same : goal.returns-clause-same
returns-clause-same c =
    same_tree-reordered c.self.inside.nodes.entries c.reserve.new.self.entries _ _ c.args.self.now c.make_name_room.new.self
    c.self.view_is c.make_name_room.ensures.same c.reserve.ensures.entries.2

pub returns-clause-room : goal.returns-clause-room
returns-clause-room c =
    let after = c.reserve.new.self in
    let here : name_room (tree_of after.entries (spare after)).room c.args.dir ≡ name_room c.make_name_room.new.self.room c.args.dir =
    name_room_seen after.entries (spare after) (tree_of after.entries (spare after)) refl c.args.dir
    ∙ ap (λ o. unwrap_or (option_map (λ n. name_room_in n.content) o) 0) (c.reserve.ensures.entries.2 c.args.dir)
    ∙ sym (name_room_seen c.self.inside.nodes.entries _ c.make_name_room.new.self c.self.view_is c.args.dir) in
    on_ok_weaker c.reserve.result (λ (more : 1 ≤ spare after). record {
      inode = omega (arith, more);
      name = subst (λ n. 0 < n) (sym here) c.in_ok-make_name_room.ensures.room;
    }) c.reserve.ensures.ok
