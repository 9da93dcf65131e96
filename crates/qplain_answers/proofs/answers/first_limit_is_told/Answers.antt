use Rattle.qplain_answers.proofs.LimitOrder.{first_limit_is_told}
use Rattle.qplain_answers.proofs.answers.first_limit_is_told.Goals as goal

pub returns : goal.returns
returns c = first_limit_is_told
