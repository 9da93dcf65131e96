use Rattle.std.proofs.Common.{◌≡◌, ◌+◌, ◌≤◌, List, ◌++◌, map}
use Rattle.std.specs.Vec.{vec_capacity, vec_len}
use Rattle.std.specs.Vec.Iter.{into_iter_items, into_iter_len}
use Rattle.qrun_worker.specs.Work.{Worked}
use Rattle.qrun.specs.Told.{answered_of}
use Rattle.qrun.proofs.parting.part_works.Given as goal

abbrev pub invariant-loop-work : goal.invariant-loop-work
invariant-loop-work g l =
    ((done : List (Worked _)) × (done ++ into_iter_items l.work-iterator ≡ l.fn.works.items)
    × (l.shares.items ≡ map (λ (w : Worked _). w.share) done) × (l.all.items ≡ map answered_of done)
    × (l.rest.items ≡ map (λ (w : Worked _). w.left) done))
    × (vec_len l.shares + into_iter_len l.work-iterator ≤ vec_capacity l.shares)
    × (vec_len l.all + into_iter_len l.work-iterator ≤ vec_capacity l.all)
    × (vec_len l.rest + into_iter_len l.work-iterator ≤ vec_capacity l.rest)
