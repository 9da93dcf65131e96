use Rattle.std.proofs.Common.{ap, arith, length}
use Rattle.qblocks.specs.File.{after_truncate}
use Rattle.qblocks.proofs.Past.{freed_counted, freed_small, row_small}
use Rattle.qblocks.proofs.file.BlockFile.freed_by.Goals as goal

pub freed_by-requires-clause-bound : goal.freed_by-requires-clause-bound
freed_by-requires-clause-bound c = row_small c.self.inside.rows c.self.inside.size c.self.inside.count _ c.self.invariant

pub returns-clause-freed : goal.returns-clause-freed
returns-clause-freed c =
    let before = ap (λ f. length f.file.allocated) c.self.view_is in
    let after = ap (λ f. length (after_truncate f.file c.args.size).allocated) c.self.view_is in
    let freed = freed_counted c.self.inside.rows c.self.inside.size c.args.size c.freed_by.result c.self.invariant.bounded
    (omega arith) c.self.invariant.below c.freed_by.ensures in
    omega (arith, before, after, freed)

pub returns-clause-bound : goal.returns-clause-bound
returns-clause-bound c =
    freed_small c.self.inside.rows c.self.inside.size c.args.size c.freed_by.result c.self.invariant.bounded (omega arith)
    c.self.invariant.below c.freed_by.ensures
