use Rattle.qtext_config.specs.ConfigFields.{text_at}
use Rattle.qtext_config.proofs.config.field.text_at.Goals as goal

pub returns : goal.returns
unfolding text_at
returns c = rw c.value_at.ensures at c.text_of.ensures
