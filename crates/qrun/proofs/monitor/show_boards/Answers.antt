use Rattle.std.proofs.Common.{◌≡◌, [], None, length, ap, append-nil, rules, sym, subst, ◌∙◌}
use Rattle.qaudit_checks.specs.LawfulBoards.{AreLawful, boards_in}
use Rattle.qrun.specs.Monitors.{IsShown}
use Rattle.qrun.proofs.Observing.{IsShowing, shown_all, shows_next, shows_nothing, shows_on}
use Rattle.qrun.proofs.Watched.{no_boards}
use Rattle.qrun.proofs.monitor.show_boards.Goals as goal

pub loop-init : goal.loop-init
loop-init g c =
    let S = g.S.StoreId.id.begun in
    let sees = g.M.Monitor.sees in
    let seen = c.showing.inside.seat.seen in
    let monitor = c.showing.inside.monitor in
    let same : monitor ≡ c.args.showing.monitor = ap (λ o. o.monitor) c.showing.view_is in
    (search rules, search rules, subst (λ m. IsShowing S seen None (sees m) (sees monitor)) same (shows_nothing S seen (sees monitor)))

pub loop-preserved : goal.loop-preserved
loop-preserved g c =
    let S = g.S.StoreId.id.begun in
    let inv = c.loop.invariant in
    let asked = c.ask-published.ensures in
    let shown = c.show_next-seen.ensures in
    let seen = c.show_next-seen.new.seat.seen in
    let before = shows_on S _ _ _ _ _ _ asked.seat.begins inv.2 asked.sees in
    let after = shows_next S _ seen _ _ _ _ _ shown.seat.begins before shown.shows in (
      shown.seat.worker ∙ asked.seat.worker ∙ inv.0,
      shown.seat.tally ∙ asked.seat.tally ∙ inv.1,
      shows_on S seen seen _ _ _ _ ([], append-nil seen) after c.wait.ensures,
    )

pub returns-then-last-clause-watch : goal.returns-then-last-clause-watch
returns-then-last-clause-watch g c =
    let S = g.S.StoreId.id.begun in
    let inv = c.loop.invariant in
    let asked = c.ask-published.ensures in
    let shown = c.show_next-seen.ensures in
    record {
      worker_is = ap (λ s. s.worker) c.finish.ensures ∙ shown.seat.worker ∙ asked.seat.worker ∙ inv.0;
      idle = ap (λ s. s.tally.calls) c.finish.ensures ∙ ap (λ t. t.calls) (shown.seat.tally ∙ asked.seat.tally ∙ inv.1);
      each = ap length c.new.ensures.items;
      lawful = subst (λ looks. AreLawful S c.finish.result.seen (boards_in looks)) (sym c.new.ensures.items)
          (no_boards S c.finish.result.seen);
    }

pub returns-then-last-clause-shown : goal.returns-then-last-clause-shown
returns-then-last-clause-shown g c =
    let S = g.S.StoreId.id.begun in
    let inv = c.loop.invariant in
    let asked = c.ask-published.ensures in
    let shown = c.show_next-seen.ensures in
    let seen = c.show_next-seen.new.seat.seen in
    let before = shows_on S _ _ _ _ _ _ asked.seat.begins inv.2 asked.sees in
    let after = shows_next S _ seen _ _ _ _ _ shown.seat.begins before shown.shows in
    let all = shown_all S seen _ _ _ _ after c.end_of-left.ensures in
    subst (λ h. IsShown S h (g.M.Monitor.sees c.args.showing.monitor) c.end_of-left.result) (sym (ap (λ s. s.seen) c.finish.ensures)) all
