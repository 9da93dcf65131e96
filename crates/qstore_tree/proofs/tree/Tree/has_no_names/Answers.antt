use Rattle.std.proofs.Common.{ap, ◌∙◌}
use Rattle.qstore_tree.specs.Nodes.{names_in}
use Rattle.qstore_tree.proofs.NoNames.{bare-length, has_none, has_none-seen}
use Rattle.qstore_tree.proofs.tree.Tree.has_no_names.Goals as goal

pub returns-in-Some : goal.returns-in-Some
returns-in-Some c =
    c.has_no_names.ensures ∙ bare-length (names_in c.in-Some.node.now.content) ∙ ap has_none c.in-Some.ensures.value
    ∙ has_none-seen c.self.inside.nodes.entries _ c.args.self.now c.self.view_is c.args.number

pub returns-in-None : goal.returns-in-None
returns-in-None c =
    ap has_none c.in-None.ensures.value ∙ has_none-seen c.self.inside.nodes.entries _ c.args.self.now c.self.view_is c.args.number
