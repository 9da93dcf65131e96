use Rattle.std.proofs.Common.{◌≡◌, ℕ, List, None, ap, nat_eq, sym, ◌∙◌}
use Rattle.std.specs.BTreeMap.{is_at}
use Rattle.std.specs.Map.{lookup, remove_entry}
use Rattle.std.specs.Ordering.{nat_cmp}
use Rattle.qplain.specs.State.{is_dir}
use Rattle.qstore_tree.specs.Nodes.{inode_of}
use Rattle.qstore_tree.proofs.AllNames.{name_at}
use Rattle.qstore_tree.proofs.Numbered.{IsTaken, seen-taken}
use Rattle.qstore_tree.proofs.TreeChanges.{inode_seen, name_seen, named-left, no_name_in}
use Rattle.qstore_tree.proofs.tree.Tree.take_node.Goals as goal

-- the table without the node
taken_is : (c : goal.Joined-remove) → IsTaken c.self.inside.nodes.entries c.remove.new.self.entries c.args.number
taken_is c = record { at = c.remove.ensures.updates.0 }

-- no name stood in it
empty : (c : goal.Joined-remove) (name : List ℕ) → name_at name (lookup (nat_eq c.args.number) c.self.inside.nodes.entries) ≡ None
empty c = no_name_in (lookup (nat_eq c.args.number) c.self.inside.nodes.entries) (λ dir name.
    sym (name_seen c.self.inside.nodes.entries _ c.args.self.now c.self.view_is c.args.number name)
    ∙ c.requires (ap is_dir (inode_seen c.self.inside.nodes.entries _ c.args.self.now c.self.view_is c.args.number) ∙ dir) name)

pub returns-clause-inodes : goal.returns-clause-inodes
returns-clause-inodes c =
    seen-taken inode_of c.self.inside.nodes.entries c.remove.new.self.entries c.args.number (taken_is c)
    ∙ ap (λ t. remove_entry (is_at (nat_cmp c.args.number)) t.inodes) c.self.view_is

pub returns-clause-names : goal.returns-clause-names
returns-clause-names c =
    named-left c.self.inside.nodes.entries c.remove.new.self.entries c.args.number (taken_is c) (empty c) ∙ ap (λ t. t.names) c.self.view_is

pub returns-clause-links : goal.returns-clause-links
returns-clause-links c =
    seen-taken (λ n. n.links) c.self.inside.nodes.entries c.remove.new.self.entries c.args.number (taken_is c)
    ∙ ap (λ t. remove_entry (is_at (nat_cmp c.args.number)) t.links) c.self.view_is
