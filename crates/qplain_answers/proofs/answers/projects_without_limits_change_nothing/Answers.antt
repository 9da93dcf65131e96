use Rattle.qplain_answers.proofs.Alike.{projects_change_nothing}
use Rattle.qplain_answers.proofs.AlikeJournals.{journals_are_alike, starts_are_alike}
use Rattle.qplain_answers.proofs.answers.projects_without_limits_change_nothing.Goals as goal

pub returns-clause-steps : goal.returns-clause-steps
returns-clause-steps c = projects_change_nothing

pub returns-clause-starts : goal.returns-clause-starts
returns-clause-starts c = starts_are_alike

pub returns-clause-journals : goal.returns-clause-journals
returns-clause-journals c = journals_are_alike
