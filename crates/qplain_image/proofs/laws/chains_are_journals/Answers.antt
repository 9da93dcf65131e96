use Rattle.qplain_image.proofs.Chaining.{chains_are_legal, chains_leave_the_last, parts_are_chains}
use Rattle.qplain_image.proofs.laws.chains_are_journals.Goals as goal

pub returns-clause-joined : goal.returns-clause-joined
returns-clause-joined c = chains_are_legal

pub returns-clause-left : goal.returns-clause-left
returns-clause-left c = chains_leave_the_last

pub returns-clause-cut : goal.returns-clause-cut
returns-clause-cut c = parts_are_chains
