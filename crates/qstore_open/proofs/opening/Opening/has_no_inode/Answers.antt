use Rattle.std.proofs.Common.{ap, ◌∙◌}
use Rattle.std.specs.Ordering.{nat_cmp}
use Rattle.qtext_image.specs.NextFaults.{are_none}
use Rattle.qstore_open.proofs.Lasts.{none-result, none-told}
use Rattle.qstore_open.proofs.opening.Opening.has_no_inode.Goals as goal

pub returns : goal.returns
returns c = none-result _ c.is_none.result c.is_none.ensures
    ∙ none-told nat_cmp c.self.inside.tree.inodes c.self.inside.last c.self.invariant.numbers.is ∙ ap (λ t. are_none t.state.inodes) c.self.view_is
