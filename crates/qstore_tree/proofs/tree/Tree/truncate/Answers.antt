use Rattle.std.proofs.Common.{◌≡◌, Some, None, ap, subst, sym, ◌∙◌}
use Rattle.std.specs.BTreeMap.{is_at}
use Rattle.std.specs.Map.{set_value}
use Rattle.std.specs.Option.{option_map}
use Rattle.std.specs.Ordering.{nat_cmp}
use Rattle.qblocks.specs.File.{MoreBlocks, after_truncate}
use Rattle.qplain.specs.State.{Inode}
use Rattle.qstore_tree.specs.Nodes.{inode_of}
use Rattle.qstore_tree.proofs.Changed.{IsChanged, inode-changed, inodes-set, links-kept, names-kept}
use Rattle.qstore_tree.proofs.TreeChanges.{inode_is, inode_seen}
use Rattle.qstore_tree.proofs.tree.Tree.truncate.Goals as goal

pub truncate-requires-clause-file : goal.truncate-requires-clause-file
truncate-requires-clause-file c =
    ap (λ i. i.dir) (inode_is c.self.inside.nodes.entries _ c.args.self.now c.self.view_is c.args.number c.in-Some.node.now
    c.requires.file.0 c.in-Some.ensures.value c.requires.file.1) ∙ c.requires.file.2

pub unreachable-requires : goal.unreachable-requires
unreachable-requires c =
    let none : None ≡ Some c.requires.file.0 =
    ap (option_map inode_of) c.in-None.ensures.value
    ∙ sym (inode_seen c.self.inside.nodes.entries _ c.args.self.now c.self.view_is c.args.number) ∙ c.requires.file.1 in
    cc

-- the table after the call
changed : (c : goal.After-self-in-Some-1)
    → IsChanged c.args.self.now c.self.inside.nodes (c.get_mut.follows.lender c.truncate.new.self) c.args.number c.in-Some.node.now c.truncate.new.self
changed c = record { seen = c.self.view_is; found = c.in-Some.ensures.value; writes = c.get_mut.follows.holds c.truncate.new.self }

pub returns-clause-inodes : goal.returns-clause-inodes
returns-clause-inodes c = λ inode is.
    let cut : Inode → Inode = λ i. record i { file = after_truncate i.file c.args.size } in
    inodes-set (changed c) ∙ ap (set_value (is_at (nat_cmp c.args.number)) c.args.self.now.inodes) (c.truncate.ensures.inode ∙ ap cut
    (inode-changed (changed c) inode is))

pub returns-clause-count : goal.returns-clause-count
returns-clause-count c = λ inode is.
    let FreesOf : Inode → Type 0 = λ i. MoreBlocks (after_truncate i.file c.args.size) i.file c.truncate.result in
    let Frees : Inode → Type 0 = λ i. MoreBlocks i.file (inode_of c.in-Some.node.now).file c.truncate.result in
    subst FreesOf
    (inode-changed (changed c) inode is) (subst Frees c.truncate.ensures.inode c.truncate.ensures.count)

pub returns-clause-names : goal.returns-clause-names
returns-clause-names c =
    names-kept (changed c) c.truncate.ensures.names

pub returns-clause-links : goal.returns-clause-links
returns-clause-links c =
    links-kept (changed c) c.truncate.ensures.links
