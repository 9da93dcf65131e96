use Rattle.qplain_answers.proofs.MadeNumbers.{made_numbers_are_free}
use Rattle.qplain_answers.proofs.answers.made_numbers_are_free.Goals as goal

pub returns : goal.returns
returns c = made_numbers_are_free
