use Rattle.std.proofs.Common.{◌≡◌, Ok, map, length, ◌++◌}
use Rattle.std.specs.Vec.Iter.{into_iter_items}
use Rattle.qtext_files.specs.Scripts.{script_of}
use Rattle.qtool_runs.proofs.script_reader.finish_all.Given as goal

abbrev pub invariant-loop-reader : goal.invariant-loop-reader
invariant-loop-reader g l =
    (l.number ≡ length l.yielded)
    × (l.yielded ++ into_iter_items l.reader-iterator ≡ l.fn.readers.items)
    × (map Ok l.scripts.items ≡ map script_of l.yielded)
