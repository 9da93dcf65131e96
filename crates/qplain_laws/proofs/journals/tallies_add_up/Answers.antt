use Rattle.qplain_laws.proofs.Tallying.{journals_balance, tallies_are_small, tallies_balance}
use Rattle.qplain_laws.proofs.journals.tallies_add_up.Goals as goal

pub returns-clause-small : goal.returns-clause-small
returns-clause-small c = tallies_are_small

pub returns-clause-from_any : goal.returns-clause-from_any
returns-clause-from_any c = journals_balance

pub returns-clause-balance : goal.returns-clause-balance
returns-clause-balance c = tallies_balance
