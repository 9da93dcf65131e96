use Rattle.std.proofs.Common.{◌≡◌, Some, None, Option, ap, subst, sym, refl, ◌∙◌}
use Rattle.std.specs.HashMap.{spare}
use Rattle.std.specs.Option.{option_map, unwrap_or}
use Rattle.std.specs.Option.{IfSome, is_some}
use Rattle.std.proofs.lemmas.Result.{IfOk-weaker}
use Rattle.qblocks.specs.File.{Adds}
use Rattle.qblocks.specs.WriteRoom.{IsReadyToPut, RoomyFile}
use Rattle.qplain.specs.State.{Inode}
use Rattle.qstore_tree.specs.Nodes.{inode_of, roomy_file_in}
use Rattle.qstore_tree.specs.Tree.{file_room, tree_of}
use Rattle.qstore_tree.proofs.TreeChanges.{adds_there, file_seen, inode_seen, put-writes, put_here, same_tree}
use Rattle.qstore_tree.proofs.Numbered.{IsPut}
use Rattle.qstore_tree.proofs.tree.Tree.ready_write.Goals as goal

pub ready_write-requires-clause-missing : goal.ready_write-requires-clause-missing
ready_write-requires-clause-missing c =
    let seen = inode_seen c.self.inside.nodes.entries _ c.args.self.now c.self.view_is c.args.number in
    let is : Some (inode_of c.in-Some.node.now) ≡ Some c.requires.file.0 = ap (option_map inode_of) c.in-Some.ensures.value ∙ sym seen ∙ c.requires.file.1 in
    let same : c.requires.file.0 ≡ inode_of c.in-Some.node.now = cc in
    adds_there c.in-Some.node.now.content c.args.off c.args.len c.args.missing (ap (λ i. i.dir) (sym same) ∙ c.requires.file.2)
    (subst (λ (i : Inode). Adds i.file c.args.off c.args.len c.args.missing) same c.requires.file.3)

pub unreachable-requires : goal.unreachable-requires
unreachable-requires c =
    let seen = inode_seen c.self.inside.nodes.entries _ c.args.self.now c.self.view_is c.args.number in
    let is : None ≡ Some c.requires.file.0 = ap (option_map inode_of) c.in-None.ensures.value ∙ sym seen ∙ c.requires.file.1 in
    cc

-- the table after the call
put_is : (c : goal.After-self-in-Some-1)
    → IsPut c.self.inside.nodes.entries (c.get_mut.follows.lender c.ready_write.new.self).entries
    c.args.number c.ready_write.new.self
put_is c = put-writes c.self.inside.nodes (c.get_mut.follows.lender c.ready_write.new.self) c.args.number
    c.ready_write.new.self c.in-Some.node.now c.in-Some.ensures.value
    (c.get_mut.follows.holds c.ready_write.new.self)

-- the file after the call
file_after : (c : goal.After-self-in-Some-1)
    → let after = c.get_mut.follows.lender c.ready_write.new.self in file_room
    (tree_of after.entries (spare after)).room c.args.number ≡ roomy_file_in c.ready_write.new.self.content
file_after c =
    let after = c.get_mut.follows.lender c.ready_write.new.self in
    file_seen after.entries (spare after) (tree_of after.entries (spare after)) refl c.args.number
    ∙ ap (λ o. unwrap_or (option_map (λ n. roomy_file_in n.content) o) None)
    (put_here c.self.inside.nodes.entries after.entries c.args.number c.ready_write.new.self (put_is c))

pub returns-clause-same : goal.returns-clause-same
returns-clause-same c =
    same_tree c.self.inside.nodes.entries (c.get_mut.follows.lender c.ready_write.new.self).entries
    c.args.number c.in-Some.node.now c.ready_write.new.self (sym c.in-Some.ensures.value) (put_is c) _ _
    c.args.self.now c.self.view_is c.ready_write.ensures.same

pub returns-clause-there : goal.returns-clause-there
returns-clause-there c = ap is_some (file_after c) ∙ c.ready_write.ensures.there

pub returns-clause-room : goal.returns-clause-room
returns-clause-room c =
    IfOk-weaker c.ready_write.result _ _
    (λ spare. subst (λ (o : Option RoomyFile). IfSome o (λ f. IsReadyToPut f c.args.off c.args.len spare))
    (sym (file_after c))) c.ready_write.ensures.room
