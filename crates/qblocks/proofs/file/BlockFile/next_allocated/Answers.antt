use Rattle.std.proofs.Common.{subst, ap, ◌∙◌}
use Rattle.std.specs.List.Sorted.{IsStrictlyIncreasing}
use Rattle.qblocks.specs.File.{next_from}
use Rattle.qblocks.specs.WriteRoom.{RoomyFile}
use Rattle.qblocks.proofs.FirstFrom.{next_allocated_is}
use Rattle.qblocks.proofs.Past.{row_small}
use Rattle.qblocks.proofs.View.{increasing}
use Rattle.qblocks.proofs.file.BlockFile.next_allocated.Goals as goal

pub next_block-requires : goal.next_block-requires
next_block-requires c = row_small c.self.inside.rows c.self.inside.size c.self.inside.count _ c.self.invariant

pub returns-clause-next : goal.returns-clause-next
returns-clause-next c =
    next_allocated_is c.self.inside.rows c.self.inside.size c.args.from c.next_block.result c.self.invariant.below
    c.next_block.ensures
    ∙ ap (λ f. next_from c.args.from f.file.allocated) c.self.view_is

pub returns-clause-in_order : goal.returns-clause-in_order
returns-clause-in_order c =
    let Increasing : RoomyFile → Type 0 = λ f. IsStrictlyIncreasing f.file.allocated in
    subst Increasing c.self.view_is (increasing c.self.inside.rows c.self.inside.size)
