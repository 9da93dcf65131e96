use Rattle.std.proofs.Common.{◌≡◌, ◌+◌, ap, arith, ◌∙◌, cond, is_some, ℕ, true, false, None, sym}
use Rattle.std.proofs.lemmas.List.{get_or_default}
use Rattle.qblocks.specs.Row.{row_filled}
use Rattle.qblocks.proofs.Spans.{gap_at, gaps_none, gaps-next}
use Rattle.qblocks.proofs.row.is_vacant.Goals as goal

pub loop-j-init : goal.loop-j-init
loop-j-init c = record { vacant = gaps_none (row_filled c.args.row.now) 0 0 (omega arith) }

pub loop-j-preserved : goal.loop-j-preserved
loop-j-preserved c =
    let p = row_filled c.args.row.now in
    let j = c.loop-j.j in
    let all = c.loop-j.invariant.vacant in
    let filled : p j ≡ c.is_some.result = ap is_some (get_or_default c.args.row.now j None c.index-row-j.result (omega arith)) ∙ sym c.is_some.ensures in
    let one = ap {B = ℕ} (λ t. cond t 0 1) (filled ∙ c.if-is_some.false) in
    let next = gaps-next p 0 j (j + 1) j (omega arith) (omega arith) in
    record { vacant = omega (arith, next, one, all) }

pub returns-then-is_some-clause-used : goal.returns-then-is_some-clause-used
returns-then-is_some-clause-used c told all =
    let p = row_filled c.args.row.now in
    let j = c.loop-j.j in
    let filled : p j ≡ c.is_some.result = ap is_some (get_or_default c.args.row.now j None c.index-row-j.result (omega arith)) ∙ sym c.is_some.ensures in
    let here : p j ≡ true = filled ∙ c.if-is_some.true in
    let none : p j ≡ false = gap_at p 0 16 j all (omega arith) (omega arith) in
    cc
