use Rattle.std.proofs.Common.{◌+◌, Ok, ap, ◌∙◌}
use Rattle.qrun_replay.proofs.Replaying.{one_more-told, other-taken, own-taken}
use Rattle.qrun_replay.proofs.replays.answered_of.Goals as goal
use Rattle.qrun_replay.proofs.replays.answered_of.Goals.{then-entry-worker+in_ok-add, else-entry-worker}

pub loop-entry-preserved : goal.loop-entry-preserved
loop-entry-preserved c = elim c.if-entry-worker.branch [
  | then-entry-worker+in_ok-add w ↦
      let own = own-taken c.args.entries.now c.loop-entry.entry-index c.entry-item.result c.entry-item.result c.args.worker
      c.loop-entry-test.true c.entry-item.is w.if-entry-worker.true in
      record {
        place = ap (λ n. n + 1) c.loop-entry.invariant.place;
        stands = one_more-told (λ x. Ok x.0) c.loop-entry.places.stands _ _ _ _ _
            (ap (λ p. p.stands) w.places-is ∙ w.in_ok-add.ensures.stands) c.loop-entry.invariant.stands
            (ap (λ n. Ok (n + 1)) c.loop-entry.invariant.place) own;
        room = ap (λ p. p.room) w.places-is ∙ w.in_ok-add.ensures.room ∙ c.loop-entry.invariant.room;
      }
  | else-entry-worker w ↦
      let own = other-taken c.args.entries.now c.loop-entry.entry-index c.entry-item.result c.entry-item.result c.args.worker
      c.loop-entry-test.true c.entry-item.is w.if-entry-worker.false in
      record {
        place = ap (λ n. n + 1) c.loop-entry.invariant.place;
        stands = rw own (ap (λ p. p.stands) w.places-is ∙ c.loop-entry.invariant.stands);
        room = ap (λ p. p.room) w.places-is ∙ c.loop-entry.invariant.room;
      }
]
