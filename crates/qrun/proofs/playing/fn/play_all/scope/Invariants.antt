use Rattle.std.proofs.Common.{◌≡◌, ℕ, ◌+◌, ◌<◌, ◌≤◌, List, ◌++◌, length, slice_index_or}
use Rattle.std.specs.Vec.{vec_capacity, vec_len}
use Rattle.std.specs.Vec.Iter.{into_iter_items, into_iter_len}
use Rattle.qrun.proofs.playing.fn.play_all.scope.Given as goal

abbrev pub invariant-loop-worker : goal.invariant-loop-worker
invariant-loop-worker g l =
    ((done : List _) × (done ++ into_iter_items l.worker-iterator ≡ into_iter_items l.initial.worker-iterator)
    × (length done ≡ vec_len l.running))
    × (vec_len l.running + into_iter_len l.worker-iterator ≤ vec_capacity l.running)
    × ((k : ℕ) (h : _) (a : _) → k < vec_len l.running
    → ((slice_index_or l.running.items k h).promise.worker ≡ (slice_index_or (into_iter_items l.initial.worker-iterator) k a).worker)
    × ((slice_index_or l.running.items k h).promise.client.value ≡ (slice_index_or (into_iter_items l.initial.worker-iterator) k a).client))
    × (l.observer ≡ l.initial.observer)
