use Rattle.std.proofs.Common.{subst}
use Rattle.qrun_worker.specs.Work.{HasGone}
use Rattle.qrun_worker.proofs.Going.{called_further, called_low, further, not_gone}
use Rattle.qrun_worker.proofs.worker.play_lines.Goals as goal

pub loop-init : goal.loop-init
loop-init g c =
    let client = c.args.client.now in
    (not_gone c.args.seat.now.seen c.args.seat.now (g.C.Client.stands client) (g.C.Client.talk client), c.requires.answered)

pub tell-requires-clause-answer : goal.tell-requires-clause-answer
tell-requires-clause-answer g c =
    called_low g.C.Form.ReceiptForm.form g.S.StoreId.id.clocked c.line-line.result.now c.loop.seat c.call-answer.new.seat
    c.call-answer.result c.call-answer.ensures.called

pub loop-preserved : goal.loop-preserved
loop-preserved g c =
    let stands = g.C.Client.stands in
    let talk = g.C.Client.talk in
    let begun = c.args.client.now in
    let before = c.loop.client in
    let asked = c.next-in-loop.new.self in
    let after = c.tell.new.self in
    let old = c.loop.seat in
    let new = c.call-answer.new.seat in
    let called = c.call-answer.ensures in
    let one : HasGone old.seen new.seen old new (stands asked) (stands after) (talk before) (talk after) =
    called_further g.C.Form.ReceiptForm.form g.S.StoreId.id.clocked c.line-line.result.now g.C.Client.clocked
    c.requires.clock g.S.StoreId.id.begun (stands asked) (stands after) (talk before) (talk asked)
    (talk after) (g.C.Client.owed asked) c.line-line.ensures c.if-not-next.ensures.talk old new c.call-answer.result c.tell.ensures.told
    called.seen called.called called.kept called.full in (
      further c.args.seat.now.seen old.seen new.seen c.args.seat.now old new (stands begun) (stands before) (stands after) (talk begun)
          (talk before) (talk after) c.loop.invariant.0
          (subst (λ s. HasGone old.seen new.seen old new s (stands after) (talk before) (talk after)) c.if-not-next.ensures.stands one),
      c.tell.ensures.answered,
    )
