use Rattle.std.proofs.Common.{subst}
use Rattle.qrun_worker.specs.Work.{HasGone, IsPlayed}
use Rattle.qrun_worker.proofs.Going.{all_played}
use Rattle.qrun_worker.proofs.worker.play.Goals.{then-batch-eq1, else-batch-eq1}
use Rattle.qrun_worker.proofs.worker.play.Goals as goal

pub returns : goal.returns
returns g c =
    let stands = g.C.Client.stands in
    let talk = g.C.Client.talk in
    let begun = c.worker.inside in
    let client = c.if-batch-eq1.client in
    let seat = c.if-batch-eq1.seat in
    let gone : HasGone begun.seat.seen seat.seen begun.seat seat (stands begun.client) (stands client) (talk begun.client) (talk client) =
    elim c.if-batch-eq1.branch [
      | then-batch-eq1 w ↦ rw (w.client-is, w.seat-is) w.play_lines.ensures.gone
      | else-batch-eq1 w ↦ rw (w.client-is, w.seat-is) w.play_batches.ensures.gone
    ] in
    subst (λ p. IsPlayed p.worker (talk p.client) (record {
      share = c.finish.result;
      places = c.into_parts-places.result.0;
      left = c.into_parts-places.result.1;
    })) c.worker.view_is
    (all_played begun.seat seat (stands begun.client) (stands client) (talk begun.client) (talk client) _ gone c.worker.invariant.2
    c.worker.invariant.3.1 c.into_parts-places.ensures.talk c.finish.ensures c.into_parts-places.ensures.places)
