use Rattle.qplain_laws.proofs.Tallying.{changes_are_small, changes_are_told, steps_are_small}
use Rattle.qplain_laws.proofs.journals.changes_are_small.Goals as goal

pub returns-clause-told : goal.returns-clause-told
returns-clause-told c = changes_are_told

pub returns-clause-steps : goal.returns-clause-steps
returns-clause-steps c = steps_are_small

pub returns-clause-journals : goal.returns-clause-journals
returns-clause-journals c = changes_are_small
