use Rattle.std.proofs.Common.{◌≡◌, ◌-◌, ◌+◌, ap, arith, ◌∙◌, cond, is_some, ℕ, not, None}
use Rattle.std.proofs.lemmas.List.{get_or_default}
use Rattle.qblocks.specs.Row.{row_filled}
use Rattle.qblocks.proofs.Spans.{gaps_none, gaps-next}
use Rattle.qblocks.proofs.row.missing.Goals as goal
use Rattle.qblocks.proofs.row.missing.Goals.{then-is_none, else-is_none}

pub loop-j-init : goal.loop-j-init
loop-j-init c =
    let none = gaps_none (row_filled c.args.row.now) c.args.first (c.args.first - c.args.first) (omega arith) in
    record { missing = omega (arith, none); bound = omega arith }

pub loop-j-preserved : goal.loop-j-preserved
loop-j-preserved c =
    let j = c.loop-j.j in
    let next = gaps-next (row_filled c.args.row.now) c.args.first (j - c.args.first) (j + 1 - c.args.first) j (omega arith) (omega arith) in
    let filled : row_filled c.args.row.now j ≡ not c.is_none.result =
    ap is_some (get_or_default c.args.row.now j None c.index-row-j.result (omega arith))
    ∙ c.is_none.ensures in
    elim c.if-is_none.branch [
      | then-is_none w ↦
          let one = ap {B = ℕ} (λ t. cond t 0 1) (filled ∙ ap not w.if-is_none.true) in
          record { missing = omega (arith, next, one); bound = omega arith }
      | else-is_none w ↦
          let none = ap {B = ℕ} (λ t. cond t 0 1) (filled ∙ ap not w.if-is_none.false) in
          record { missing = omega (arith, next, none); bound = omega arith }
    ]
