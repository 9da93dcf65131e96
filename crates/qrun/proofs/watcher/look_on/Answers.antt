use Rattle.std.proofs.Common.{arith, subst, sym, ap, ◌∙◌}
use Rattle.std.proofs.lemmas.List.{nil_from_length}
use Rattle.qaudit_checks.specs.LawfulBoards.{AreLawful, boards_in}
use Rattle.qshare_history.proofs.Prefixes.{prefix_trans}
use Rattle.qrun.proofs.Watched.{look_more, no_boards}
use Rattle.qrun.proofs.watcher.look_on.Goals as goal

pub loop-look-init : goal.loop-look-init
loop-look-init g c =
    let S = g.S.StoreId.id.begun in
    let seat = c.watcher.inside.seat in
    let room = c.watcher.inside.room in (
      c.watcher.invariant.1,
      c.watcher.invariant.2,
      ap (λ w. w.seat.worker) c.watcher.view_is,
      c.watcher.invariant.0,
      subst (λ looks. AreLawful S seat.seen (boards_in looks)) (sym (nil_from_length room.items (sym room.ok.0 ∙ c.watcher.invariant.1)))
          (no_boards S seat.seen),
    )

pub loop-look-preserved : goal.loop-look-preserved
loop-look-preserved g c =
    let so_far = c.loop-look.invariant in
    let waited = c.wait.ensures in
    let looked = c.board.ensures in
    let pushed = c.push_reserved.ensures in
    let begins = prefix_trans c.loop-look.seat.seen c.wait.new.seat.seen c.board.new.self.seen waited.begins looked.look.seen.begins in (
      omega (arith, pushed.len, so_far.0),
      omega (arith, pushed.capacity, so_far.1),
      looked.look.seen.worker ∙ waited.worker ∙ so_far.2,
      looked.look.tally ∙ waited.tally ∙ so_far.3,
      look_more g.S.StoreId.id.begun c.loop-look.seat.seen c.board.new.self.seen c.loop-look.looks.items
          c.push_reserved.new.self.items c.board.result so_far.4
          begins looked.board pushed.items,
    )

pub returns : goal.returns
returns g c =
    let so_far = c.loop-look.invariant in
    let S = g.S.StoreId.id.begun in
    let looks = c.loop-look.looks in
    let boards = ap (λ w. w.boards) c.watcher.view_is in
    record {
      worker_is = ap (λ s. s.worker) c.finish.ensures ∙ so_far.2;
      idle = ap (λ s. s.tally.calls) c.finish.ensures ∙ ap (λ t. t.calls) so_far.3;
      each = omega (arith, looks.ok.0, so_far.0, so_far.1, c.loop-look-test.false, c.loop-look.auto.look-end, boards);
      lawful = subst (λ s. AreLawful S s (boards_in looks.items)) (sym (ap (λ s. s.seen) c.finish.ensures)) so_far.4;
    }
