use Rattle.std.proofs.Common.{◌≡◌, length, None, Option, ap, subst, sym, ◌∙◌}
use Rattle.std.specs.Map.{set_value}
use Rattle.std.specs.Ordering.{nat_cmp}
use Rattle.std.specs.BTreeMap.{is_at}
use Rattle.std.specs.Option.{option_map, unwrap_or}
use Rattle.std.specs.Option.{is_some}
use Rattle.qblocks.specs.File.{MoreBlocks, after_write}
use Rattle.qblocks.specs.Input.{input_bytes}
use Rattle.qblocks.specs.WriteRoom.{IsThereToPut, RoomyFile}
use Rattle.qplain.specs.State.{Inode}
use Rattle.qstore_tree.specs.Nodes.{inode_of, roomy_file_in}
use Rattle.qstore_tree.specs.Tree.{file_room}
use Rattle.qstore_tree.proofs.Changed.{IsChanged, inode-changed, inodes-set, links-kept, names-kept}
use Rattle.qstore_tree.proofs.TreeChanges.{file_seen}
use Rattle.qstore_tree.proofs.tree.Tree.put.Goals as goal

-- the file before the call
file_before : (c : goal.In-Some) → file_room c.args.self.now.room c.args.number ≡ roomy_file_in c.in-Some.node.now.content
file_before c =
    file_seen c.self.inside.nodes.entries _ c.args.self.now c.self.view_is c.args.number
    ∙ ap (λ o. unwrap_or (option_map (λ n. roomy_file_in n.content) o) None) (sym c.in-Some.ensures.value)

pub put-requires-clause-file : goal.put-requires-clause-file
put-requires-clause-file c =
    subst (λ (o : Option RoomyFile). IsThereToPut o c.args.off (length (input_bytes c.args.input)) c.args.spare) (file_before c)
    c.requires.file

pub unreachable-requires : goal.unreachable-requires
unreachable-requires c =
    let none = file_seen c.self.inside.nodes.entries _ c.args.self.now c.self.view_is c.args.number
    ∙ ap (λ o. unwrap_or (option_map (λ n. roomy_file_in n.content) o) None) (sym c.in-None.ensures.value) in
    let no = sym (ap is_some none) ∙ c.requires.file.there in
    cc

-- the table after the call
changed : (c : goal.After-self-in-Some-1)
    → IsChanged c.args.self.now c.self.inside.nodes (c.get_mut.follows.lender c.put.new.self) c.args.number c.in-Some.node.now c.put.new.self
changed c = record { seen = c.self.view_is; found = c.in-Some.ensures.value; writes = c.get_mut.follows.holds c.put.new.self }

pub returns-clause-inodes : goal.returns-clause-inodes
returns-clause-inodes c = λ inode is.
    let written : Inode → Inode = λ i. record i { file = after_write i.file c.args.off (input_bytes c.args.input) } in
    inodes-set (changed c) ∙ ap (set_value (is_at (nat_cmp c.args.number)) c.args.self.now.inodes) (c.put.ensures.inode ∙ ap written
    (inode-changed (changed c) inode is))

pub returns-clause-count : goal.returns-clause-count
returns-clause-count c = λ inode is.
    let MoreFor : Inode → Type 0 = λ i. MoreBlocks i.file (after_write i.file c.args.off (input_bytes c.args.input)) c.put.result in
    let More : Inode → Type 0 = λ i. MoreBlocks (inode_of c.in-Some.node.now).file i.file c.put.result in
    subst MoreFor
    (inode-changed (changed c) inode is) (subst More c.put.ensures.inode c.put.ensures.count)

pub returns-clause-names : goal.returns-clause-names
returns-clause-names c =
    names-kept (changed c) c.put.ensures.names

pub returns-clause-links : goal.returns-clause-links
returns-clause-links c =
    links-kept (changed c) c.put.ensures.links
