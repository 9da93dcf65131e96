use Rattle.std.proofs.Common.{List, ◌++◌, ℕ}
use Rattle.qtext.proofs.Fronts.{appends_then, front_of_first, front_of_second, refused_first, writes_then}
use Rattle.qtext_metrics.specs.Families.{total_value}
use Rattle.qtext_metrics.specs.Metrics.{family_head, total_text}
use Rattle.qtext_metrics.proofs.metrics.put_family.Goals as goal

pub returns-in_err-put_head : goal.returns-in_err-put_head
returns-in_err-put_head g c =
    let head : List ℕ = family_head c.args.family in
    let total : List ℕ = total_text c.args.family (total_value c.args.setup.now c.args.board.now c.args.family) in
    refused_first _ _ _ (head ++ total) _ c.from_residual.ensures.0 (front_of_first _ _ head total c.in_err-put_head.ensures)

pub returns-in_err-put_total : goal.returns-in_err-put_total
returns-in_err-put_total g c =
    let head : List ℕ = family_head c.args.family in
    let total : List ℕ = total_text c.args.family (total_value c.args.setup.now c.args.board.now c.args.family) in
    refused_first _ _ _ (head ++ total) _ c.from_residual-in_err-put_total.ensures.0
    (front_of_second _ _ _ head total c.in_ok-put_head.ensures (rw c.total.ensures at c.in_err-put_total.ensures))

pub returns : goal.returns
returns g c =
    let head : List ℕ = family_head c.args.family in
    let total : List ℕ = total_text c.args.family (total_value c.args.setup.now c.args.board.now c.args.family) in
    writes_then _ _ _ _ (head ++ total) _
    (appends_then _ _ _ head total c.in_ok-put_head.ensures (rw c.total.ensures at c.in_ok-put_total.ensures))
    (rw c.as_slice.ensures at c.put_rows.ensures)
