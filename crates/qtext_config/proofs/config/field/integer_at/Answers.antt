use Rattle.qtext_config.specs.ConfigFields.{integer_at}
use Rattle.qtext_config.proofs.config.field.integer_at.Goals as goal

pub returns : goal.returns
unfolding integer_at
returns c = rw c.value_at.ensures at c.integer_of.ensures
