use Rattle.qplain_laws.proofs.Numbering.{numbers_go_on}
use Rattle.qplain_laws.proofs.laws.numbers_go_on.Goals as goal

pub returns : goal.returns
returns c = numbers_go_on
