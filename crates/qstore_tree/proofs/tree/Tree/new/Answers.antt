use Rattle.std.proofs.Common.{ℕ, [], ◌∷◌, ap, nat_eq, ◌∙◌}
use Rattle.std.specs.Ordering.{nat_cmp}
use Rattle.std.specs.BTreeMap.{insert_entry}
use Rattle.std.specs.Map.{lookup}
use Rattle.qplain.specs.State.{Inode}
use Rattle.qplain.specs.declared.bounds.TheConstants.{ROOT}
use Rattle.qstore_tree.specs.InOrder.{read_by}
use Rattle.qstore_tree.specs.Nodes.{inode_of}
use Rattle.qstore_tree.specs.Tree.{all_names}
use Rattle.qstore_tree.proofs.TreeChanges.{in_order-none, named-new, put-updates}
use Rattle.qstore_tree.proofs.Numbered.{IsPut, seen-insert}
use Rattle.qstore_tree.proofs.tree.Tree.new.Goals as goal

-- the table with the root in it
put_is : (c : goal.Joined-branch-2) → IsPut c.new-nodes.result.entries c.insert.new.self.entries ROOT c.new_directory.result
put_is c = put-updates c.new-nodes.result c.insert.new.self ROOT c.new_directory.result c.in_ok-insert.ensures.updates

pub returns-clause-inodes : goal.returns-clause-inodes
returns-clause-inodes c =
    seen-insert inode_of c.new-nodes.result.entries c.insert.new.self.entries ROOT c.new_directory.result (put_is c)
    ∙ ap (λ es. insert_entry nat_cmp (read_by inode_of es) ROOT (inode_of c.new_directory.result)) (in_order-none c.new-nodes.ensures.empty)
    ∙ ap (λ (i : Inode). (ROOT, i) ∷ []) c.new_directory.ensures.inode

pub returns-clause-names : goal.returns-clause-names
returns-clause-names c =
    named-new c.new-nodes.result.entries c.insert.new.self.entries ROOT c.new_directory.result
    (ap (lookup (nat_eq ROOT)) c.new-nodes.ensures.empty) (put_is c) c.new_directory.ensures.names
    ∙ ap all_names (in_order-none c.new-nodes.ensures.empty)

pub returns-clause-links : goal.returns-clause-links
returns-clause-links c =
    seen-insert (λ n. n.links) c.new-nodes.result.entries c.insert.new.self.entries ROOT c.new_directory.result (put_is c)
    ∙ ap (λ es. insert_entry nat_cmp (read_by (λ n. n.links) es) ROOT c.new_directory.result.links) (in_order-none c.new-nodes.ensures.empty)
    ∙ ap (λ (n : ℕ). (ROOT, n) ∷ []) c.new_directory.ensures.links
