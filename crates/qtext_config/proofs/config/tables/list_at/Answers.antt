use Rattle.qtext_config.specs.ConfigFields.{list_at}
use Rattle.qtext_config.proofs.config.tables.list_at.Goals as goal

pub returns : goal.returns
unfolding list_at
returns c = rw c.value_at.ensures at c.list_of.ensures
