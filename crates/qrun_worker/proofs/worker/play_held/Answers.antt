use Rattle.std.proofs.Common.{subst, sym, arith, ◌∙◌, append-nil, []}
use Rattle.qrun_worker.specs.Work.{HasGone}
use Rattle.qrun_worker.proofs.Going.{further, none_further}
use Rattle.qrun_worker.proofs.worker.play_held.Goals as goal

pub loop-init : goal.loop-init
loop-init g c =
    let stands = g.C.Client.stands in
    let talk = g.C.Client.talk in
    let client = c.args.client.now in
    let seat = c.args.seat.now in
    let one = c.play_one.new in
    let may = c.requires.many.1 in
    let seen : HasGone seat.seen c.args.held.journal seat seat (stands client) (stands client) (talk client) (talk client) =
    none_further seat.seen c.args.held.journal seat (stands client) (talk client) (talk client) may.begins (λ lines answers left comes. comes) in (
      further seat.seen c.args.held.journal one.held.journal seat seat one.seat (stands client) (stands client) (stands one.client) (talk client)
          (talk client) (talk one.client) seen c.play_one.ensures.gone,
      c.play_one.ensures.answered,
      omega (arith, may.room, c.play_one.ensures.held.1),
      c.play_one.ensures.gone.worker ∙ may.by ∙ sym c.play_one.ensures.held.0,
      omega arith,
    )

pub overflow_add-made : goal.overflow_add-made
overflow_add-made g c = omega (arith, c.loop.invariant.4, c.loop-test.true, c.ranges.many.fits)

pub loop-preserved : goal.loop-preserved
loop-preserved g c =
    let stands = g.C.Client.stands in
    let talk = g.C.Client.talk in
    let begun = c.args.client.now in
    let before = c.loop.client in
    let asked = c.next_at_hand.new.self in
    let one = c.play_one-in-loop.new in
    let first = c.args.seat.now in
    let old = c.loop.seat in
    let so_far = c.loop.invariant in
    let played = c.play_one-in-loop.ensures in
    let journal = c.loop.held.journal in
    let later = one.held.journal in
    let next : HasGone journal journal old old (stands before) (stands before) (talk before) (talk asked) =
    none_further journal journal old (stands before) (talk before) (talk asked) ([], append-nil journal) c.if-not-next_at_hand.ensures.talk in
    let more : HasGone journal later old one.seat (stands before) (stands one.client) (talk before) (talk one.client) =
    further journal journal later old old one.seat (stands before) (stands before) (stands one.client) (talk before) (talk asked)
    (talk one.client) next (subst (λ s. HasGone journal later old one.seat s (stands one.client) (talk asked) (talk one.client))
    c.if-not-next_at_hand.ensures.stands played.gone) in (
      further first.seen journal later first old one.seat (stands begun) (stands before) (stands one.client) (talk begun) (talk before)
          (talk one.client) so_far.0 more,
      played.answered,
      omega (arith, so_far.2, played.held.1),
      played.gone.worker ∙ so_far.3 ∙ sym played.held.0,
      omega (arith, so_far.4),
    )
