use Rattle.std.proofs.Common.{◌≡◌, ◌+◌, None, Some, ap, arith, refl, sym, ◌∙◌}
use Rattle.std.specs.BTreeMap.{is_at}
use Rattle.std.specs.Map.{set_value}
use Rattle.std.specs.Option.{option_map}
use Rattle.std.specs.Ordering.{nat_cmp}
use Rattle.qstore_tree.specs.declared.node.Node.{Node}
use Rattle.qstore_tree.proofs.Changed.{IsChanged, inodes-kept, links-set, names-kept, room-kept}
use Rattle.qstore_tree.proofs.TreeChanges.{links_are, links_seen}
use Rattle.qstore_tree.proofs.tree.Tree.add_link.Goals as goal

pub overflow_add-node : goal.overflow_add-node
overflow_add-node c =
    let counted = links_are c.self.inside.nodes.entries _ c.args.self.now c.self.view_is c.args.number
    c.in-Some.node.now c.requires.0 c.in-Some.ensures.value c.requires.1 in
    omega (arith, counted, c.requires.2)

pub unreachable-requires : goal.unreachable-requires
unreachable-requires c =
    let there = links_seen c.self.inside.nodes.entries _ c.args.self.now c.self.view_is c.args.number in
    let no : None ≡ Some c.requires.0 = ap (option_map (λ (n : Node). n.links)) c.in-None.ensures.value ∙ sym there ∙ c.requires.1 in
    cc

-- the node after the call
abbrev pub counted : (c : goal.After-self-in-Some-1) → Node
counted c = record c.in-Some.node.now { links = c.in-Some.node.now.links + 1 }

-- the table after the call
changed : (c : goal.After-self-in-Some-1)
    → IsChanged c.args.self.now c.self.inside.nodes (c.get_mut.follows.lender (counted c)) c.args.number c.in-Some.node.now (counted c)
changed c = record { seen = c.self.view_is; found = c.in-Some.ensures.value; writes = c.get_mut.follows.holds (counted c) }

pub returns-clause-inodes : goal.returns-clause-inodes
returns-clause-inodes c = inodes-kept (changed c) refl

pub returns-clause-names : goal.returns-clause-names
returns-clause-names c = names-kept (changed c) refl

pub returns-clause-links : goal.returns-clause-links
returns-clause-links c = λ links is.
    links-set (changed c) ∙ ap (λ n. set_value (is_at (nat_cmp c.args.number)) c.args.self.now.links (n + 1))
    (links_are c.self.inside.nodes.entries _ c.args.self.now c.self.view_is c.args.number c.in-Some.node.now links c.in-Some.ensures.value is)

pub returns-clause-room : goal.returns-clause-room
returns-clause-room c = room-kept (changed c) refl refl
