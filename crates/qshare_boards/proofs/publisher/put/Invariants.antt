use Rattle.std.specs.Prelude.{◌≡◌, drop, []}
use Rattle.qshare_boards.proofs.publisher.put.Given as goal

abbrev pub invariant-loop : goal.invariant-loop
invariant-loop g l = (l.writer.desk ≡ l.fn.writer.desk) × (drop l.writer.behind l.writer.log.items ≡ []) × (l.batch ≡ l.fn.batch)
