use Rattle.qblocks.specs.WriteRoom.{no_room}
use Rattle.qblocks.proofs.View.{file_of-empty}
use Rattle.qblocks.proofs.Fields.{FieldsFit-empty}
use Rattle.qblocks.proofs.file.BlockFile.new.Goals as goal

pub invariant_of-result : goal.invariant_of-result
invariant_of-result c = FieldsFit-empty c.new.result c.new.ensures.empty

pub returns : goal.returns
returns c = λ i. record { file = file_of-empty c.new.result i; room = no_room }
