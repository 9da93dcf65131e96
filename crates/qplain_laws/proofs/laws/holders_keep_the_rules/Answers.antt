use Rattle.qplain_laws.proofs.Kept.{ends_are_the_rules, new_limits_are_the_rules}
use Rattle.qplain_laws.proofs.laws.holders_keep_the_rules.Goals as goal

pub returns-clause-ends : goal.returns-clause-ends
returns-clause-ends c = ends_are_the_rules

pub returns-clause-limits : goal.returns-clause-limits
returns-clause-limits c = new_limits_are_the_rules
