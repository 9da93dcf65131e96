use Rattle.std.proofs.Common.{ap, ◌∙◌}
use Rattle.std.specs.Option.{option_map}
use Rattle.qplain.specs.State.{name_key_cmp}
use Rattle.qtext_image.specs.NextFaults.{are_none}
use Rattle.qstore_open.specs.Kept.{key_of}
use Rattle.qstore_open.proofs.Lasts.{none-mapped, none-result, none-told}
use Rattle.qstore_open.proofs.opening.Opening.has_no_name.Goals as goal

pub returns : goal.returns
returns c = none-result _ c.is_none.result c.is_none.ensures ∙ none-mapped key_of c.self.inside.last_name
    ∙ none-told name_key_cmp c.self.inside.tree.names (option_map key_of c.self.inside.last_name) c.self.invariant.keys.is
    ∙ ap (λ t. are_none t.state.names) c.self.view_is
