use Rattle.std.proofs.Common.{sym, subst}
use Rattle.qtext_image.specs.NextFaults.{next_fault}
use Rattle.qtext_image_read.specs.declared.row.ImageRow.{ImageRow}
use Rattle.qtext_image_read.specs.ImageRows.{row_of_image_row}
use Rattle.qstore_open.specs.Faults.{Takes}
use Rattle.qstore_open.proofs.opening.Opening.take.Goals as goal

pub returns-in-Name-clause-fault : goal.returns-in-Name-clause-fault
returns-in-Name-clause-fault c = subst (λ (row : ImageRow). Takes c.take_name.result (next_fault c.args.self.now.state (row_of_image_row row)))
    (sym c.in-Name.is) c.take_name.ensures.fault
