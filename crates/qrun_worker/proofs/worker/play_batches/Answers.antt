use Rattle.std.proofs.Common.{[], append-nil, subst}
use Rattle.qrun_worker.specs.Work.{HasGone}
use Rattle.qrun_worker.proofs.Going.{further, none_further, not_gone}
use Rattle.qrun_worker.proofs.worker.play_batches.Goals as goal

pub loop-init : goal.loop-init
loop-init g c =
    let client = c.args.client.now in
    (not_gone c.args.seat.now.seen c.args.seat.now (g.C.Client.stands client) (g.C.Client.talk client), c.requires.answered)

pub loop-preserved : goal.loop-preserved
loop-preserved g c =
    let stands = g.C.Client.stands in
    let talk = g.C.Client.talk in
    let begun = c.args.client.now in
    let before = c.loop.client in
    let asked = c.next-in-loop.new.self in
    let after = c.play_held-number.new.client in
    let old = c.loop.seat in
    let new = c.play_held-number.new.seat in
    let first = c.args.seat.now in
    let played = c.play_held-number.ensures in
    let next : HasGone old.seen old.seen old old (stands before) (stands before) (talk before) (talk asked) =
    none_further old.seen old.seen old (stands before) (talk before) (talk asked) ([], append-nil old.seen) c.if-not-next.ensures.talk in
    let one : HasGone old.seen new.seen old new (stands before) (stands after) (talk before) (talk after) =
    further old.seen old.seen new.seen old old new (stands before) (stands before) (stands after) (talk before) (talk asked) (talk after) next
    (subst (λ s. HasGone old.seen new.seen old new s (stands after) (talk asked) (talk after)) c.if-not-next.ensures.stands played.gone) in (
      further first.seen old.seen new.seen first old new (stands begun) (stands before) (stands after) (talk begun) (talk before) (talk after)
          c.loop.invariant.0 one,
      played.answered,
    )
