use Rattle.qplain_laws.proofs.RefusalOrder.{refusals_come_in_order}
use Rattle.qplain_laws.proofs.laws.refusals_come_in_order.Goals as goal

pub returns : goal.returns
returns c = refusals_come_in_order
