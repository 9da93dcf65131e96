use Rattle.std.proofs.Common.{ap, arith, length, ◌∙◌}
use Rattle.qblocks.specs.File.{with_touched}
use Rattle.qblocks.proofs.file.BlockFile.ready_for.Goals as goal

pub returns-clause-ok : goal.returns-clause-ok
returns-clause-ok c =
    let same = c.in_ok-make_room.ensures.same ∙ c.forget_room.ensures.same in
    let before = ap (λ file. length file.allocated) same in
    let after = ap (λ file. length (with_touched file.allocated c.args.off c.args.len)) same in
    record {
      room = c.in_ok-make_room.ensures.ok;
      blocks = omega (arith, before, after, c.in_ok-spare.ensures, c.requires.missing);
    }
