use Rattle.std.proofs.Common.{subst}
use Rattle.std.specs.List.Sorted.{IsStrictlyIncreasing}
use Rattle.qblocks.specs.WriteRoom.{RoomyFile}
use Rattle.qblocks.proofs.View.{increasing}
use Rattle.qblocks.proofs.file.BlockFile.allocated.Goals as goal

pub returns-clause-distinct : goal.returns-clause-distinct
returns-clause-distinct c =
    let Increasing : RoomyFile → Type 0 = λ f. IsStrictlyIncreasing f.file.allocated in
    subst Increasing c.self.view_is (increasing c.self.inside.rows c.self.inside.size)
