use Rattle.qplain_laws.proofs.Balance.{users_and_groups_stand, uses_add_up}
use Rattle.qplain_laws.proofs.laws.uses_add_up.Goals as goal

pub returns-clause-uses : goal.returns-clause-uses
returns-clause-uses c = uses_add_up

pub returns-clause-kinds : goal.returns-clause-kinds
returns-clause-kinds c = users_and_groups_stand
