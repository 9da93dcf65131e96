use Rattle.qplain_laws.proofs.Beginning.{journals_stay_states, start_is_state_of, steps_stay_states}
use Rattle.qplain_laws.proofs.beginnings.beginnings_stay.Goals as goal

pub returns-clause-start : goal.returns-clause-start
returns-clause-start c = start_is_state_of

pub returns-clause-steps : goal.returns-clause-steps
returns-clause-steps c = steps_stay_states

pub returns-clause-journals : goal.returns-clause-journals
returns-clause-journals c = journals_stay_states
