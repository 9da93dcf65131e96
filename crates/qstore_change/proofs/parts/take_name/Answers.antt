use Rattle.std.proofs.Common.{ap, subst, sym, ◌∙◌}
use Rattle.std.specs.BTreeMap.{is_at}
use Rattle.std.specs.Map.{remove_entry}
use Rattle.qplain.specs.State.{name_key_cmp}
use Rattle.qstore_tree.specs.TreeOf.{AreLinks}
use Rattle.qstore_walk.specs.Paths.{name_in}
use Rattle.qstore_change.proofs.Making.{InOrder, tree-unlinked}
use Rattle.qstore_change.proofs.parts.take_name.Goals as goal

pub returns : goal.returns
returns c S is lawful can =
    let x = c.args in
    let last = c.last_of.ensures ∙ ap name_in c.text.ensures in
    tree-unlinked S c.take_name.new.self c.drop_link.new.tree x.dir x.number (name_in x.path.now) lawful can
    (c.take_name.ensures.inodes ∙ is.inodes)
    (c.take_name.ensures.names ∙ (λ i. remove_entry (is_at (name_key_cmp (x.dir, last i))) (is.names i)))
    (subst (AreLinks S) (sym c.take_name.ensures.links) is.links)
    (subst InOrder (sym c.take_name.ensures.links) is.in_order)
    c.drop_link.ensures.names c.drop_link.ensures.last c.drop_link.ensures.more
