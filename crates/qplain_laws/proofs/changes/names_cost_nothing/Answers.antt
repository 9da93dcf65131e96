use Rattle.qplain_laws.proofs.Costless.{names_cost_nothing, totals_are_moved}
use Rattle.qplain_laws.proofs.changes.names_cost_nothing.Goals as goal

pub returns-clause-inodes : goal.returns-clause-inodes
returns-clause-inodes c = names_cost_nothing

pub returns-clause-told : goal.returns-clause-told
returns-clause-told c = totals_are_moved
