use Rattle.qplain_laws.proofs.LinksFirst.{links_come_first}
use Rattle.qplain_laws.proofs.laws.links_come_first.Goals as goal

pub returns : goal.returns
returns c = links_come_first
