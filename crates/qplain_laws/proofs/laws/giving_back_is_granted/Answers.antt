use Rattle.qplain_laws.proofs.FreeNames.{giving_back_is_granted}
use Rattle.qplain_laws.proofs.laws.giving_back_is_granted.Goals as goal

pub returns : goal.returns
returns c = giving_back_is_granted
