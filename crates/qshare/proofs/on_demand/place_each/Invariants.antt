use Rattle.std.proofs.Common.{◌≡◌, ◌≤◌, length}
use Rattle.std.specs.Vec.{vec_capacity, vec_len}
use Rattle.qshare.proofs.Placing.{StandTo}
use Rattle.qshare.proofs.on_demand.place_each.Given as goal

abbrev pub invariant-loop-place : goal.invariant-loop-place
invariant-loop-place l =
    StandTo l.rows l.place l.placed.items × (vec_len l.placed ≡ l.place) × (length l.rows ≤ vec_capacity l.placed)
