use Rattle.std.proofs.Common.{◌≡◌, ◌+◌, ◌≤◌, List, ◌++◌, length, map}
use Rattle.std.specs.Vec.{vec_capacity, vec_len}
use Rattle.std.specs.Vec.Iter.{into_iter_items, into_iter_len}
use Rattle.qshare.specs.Seats.{Seated, seats_of}
use Rattle.qrun.specs.Crews.{AreNumbered}
use Rattle.qrun.proofs.crew.workers_of.Given as goal

abbrev pub invariant-loop-client : goal.invariant-loop-client
invariant-loop-client g l =
    ((before : List Seated) × (before ++ into_iter_items l.free ≡ seats_of (length l.fn.crew)) × (length before ≡ vec_len l.workers))
    × (map (λ a. a.client) l.workers.items ++ into_iter_items l.client-iterator ≡ l.fn.crew)
    × (vec_len l.workers + into_iter_len l.client-iterator ≤ vec_capacity l.workers)
    × AreNumbered l.workers.items
