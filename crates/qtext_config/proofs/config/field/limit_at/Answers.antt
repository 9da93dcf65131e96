use Rattle.qtext_config.specs.ConfigFields.{limit_at}
use Rattle.qtext_config.proofs.config.field.limit_at.Goals as goal

pub returns : goal.returns
unfolding limit_at
returns c = rw c.value_at.ensures at c.limit_of.ensures
