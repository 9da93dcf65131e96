use Rattle.qplain_answers.proofs.ReadLengths.{reads_are_as_long_as_asked}
use Rattle.qplain_answers.proofs.answers.reads_are_as_long_as_asked.Goals as goal

pub returns : goal.returns
returns c = reads_are_as_long_as_asked
