use Rattle.std.proofs.Common.{◌≡◌, ◌+◌, ◌≤◌, List, ◌++◌, map}
use Rattle.std.specs.Vec.{vec_capacity, vec_len}
use Rattle.std.specs.Vec.Iter.{into_iter_items, into_iter_len}
use Rattle.qplain.specs.declared.line.Line.{Line}
use Rattle.qrun.specs.Crews.{new_client}
use Rattle.qrun.specs.Told.{AreShort}
use Rattle.qrun.proofs.crew.clients_of.Given as goal

abbrev pub invariant-loop-script : goal.invariant-loop-script
invariant-loop-script l =
    ((done : List (List Line)) × (done ++ into_iter_items l.script-iterator ≡ l.fn.scripts.items) × (l.clients.items ≡ map new_client done)
    × AreShort done)
    × (vec_len l.clients + into_iter_len l.script-iterator ≤ vec_capacity l.clients)
