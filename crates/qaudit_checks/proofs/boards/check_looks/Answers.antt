use Rattle.std.proofs.Common.{◌≡◌, ◌+◌, ◌++◌, ◌∷◌, [], length, take, sym, ap, subst, ◌∙◌, arith}
use Rattle.std.proofs.lemmas.List.{length_push}
use Rattle.qaudit_checks.specs.LawfulBoards.{boards_in}
use Rattle.qaudit_checks.specs.SeenBoards.{AreSeenBoards, IsJudged}
use Rattle.qaudit_checks.proofs.SeenBoards.{fails-shown, none-more, shown-more, verdict-fails}
use Rattle.qaudit_checks.proofs.boards.check_looks.Goals.{in-Ok+in_ok-may_stand+else-not-branch, in_default}
use Rattle.qaudit_checks.proofs.boards.check_looks.Goals as goal

pub returns-then-not-branch : goal.returns-then-not-branch
returns-then-not-branch c =
    let S = c.args.store.state in
    let entries = c.args.entries.now in
    let looks = c.args.looks.now in
    let at = c.loop-look.look-index in
    let seen = boards_in (take at looks) in
    let index = c.loop-look.index + 1 in
    let judged = c.in_ok-may_stand.ensures S seen c.loop-look.invariant.seen in
    verdict-fails S entries (boards_in looks) index
    (fails-shown looks at _ c.look-item.result c.loop-look-test.true c.look-item.is S entries c.in-Ok.board index c.in-Ok.is
    (ap (λ n. n + 1) c.loop-look.invariant.index) c.loop-look.invariant.seen.lawful
    (subst (IsJudged S entries seen c.in-Ok.board c.may_stand.new.self) c.if-not-branch.true judged))

pub loop-look-preserved : goal.loop-look-preserved
loop-look-preserved c =
    let S = c.args.store.state in
    let entries = c.args.entries.now in
    let looks = c.args.looks.now in
    let at = c.loop-look.look-index in
    let seen = boards_in (take at looks) in
    elim c.match-look.branch [
      | in-Ok+in_ok-may_stand+else-not-branch w ↦
          let more : boards_in (take (at + 1) looks) ≡ seen ++ w.in-Ok.board ∷ [] =
          shown-more looks at _ c.look-item.result c.loop-look-test.true c.look-item.is w.in-Ok.board w.in-Ok.is in
          let judged = w.in_ok-may_stand.ensures S seen c.loop-look.invariant.seen in
          let one_more : AreSeenBoards S entries (seen ++ w.in-Ok.board ∷ []) w.may_stand.new.self =
          subst (IsJudged S entries seen w.in-Ok.board w.may_stand.new.self) w.if-not-branch.false judged in
          let few = c.loop-look.invariant.few in
          record {
            few = omega (arith, few, w.index-is);
            index = w.index-is ∙ ap (λ n. n + 1) c.loop-look.invariant.index ∙ sym (length_push seen w.in-Ok.board) ∙ ap length (sym more);
            seen = rw (more, w.checker-is) one_more;
          }
      | in_default w ↦
          let same : boards_in (take (at + 1) looks) ≡ seen =
          none-more looks at _ c.look-item.result c.loop-look-test.true c.look-item.is w.in_default.field-0 w.in_default.is in
          let few = c.loop-look.invariant.few in
          record {
            few = omega (arith, few, w.index-is);
            index = w.index-is ∙ c.loop-look.invariant.index ∙ ap length (sym same);
            seen = rw (same, w.checker-is) c.loop-look.invariant.seen;
          }
    ]
