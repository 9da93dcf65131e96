use Rattle.std.proofs.Common.{◌≡◌, ◌+◌, ◌-◌, ◌*◌, ◌/◌, min, max, ap, arith, ⊎_elim, ℕ, ◌∙◌}
use Rattle.std.proofs.lemmas.Bool.{cases_lt}
use Rattle.qblocks.specs.declared.block.TheConstants.{BLOCK_SIZE}
use Rattle.qblocks.specs.declared.row.TheConstants.{ROW_BLOCKS, ROW_SIZE}
use Rattle.qblocks.specs.Row.{gaps, row_filled}
use Rattle.qblocks.specs.Rows.{filled, row_of}
use Rattle.qblocks.proofs.Spans.{gaps_none, gaps-split, span_some, span_end_some, span_end_none}
use Rattle.qblocks.proofs.Table.{gaps-row}
use Rattle.qblocks.proofs.rows.missing.Goals as goal

pub loop-r-init : goal.loop-r-init
loop-r-init c =
    let first = c.args.off / BLOCK_SIZE in
    let so_far = min c.span_end-stop.result (max first (c.args.off / ROW_SIZE * ROW_BLOCKS)) - first in
    let none = gaps_none (filled c.args.rows.now) first so_far (omega arith) in
    record { missing = omega (arith, none); bound = omega arith }

pub loop-r-preserved : goal.loop-r-preserved
loop-r-preserved c =
    let r = c.loop-r.r in
    let start = c.args.off / BLOCK_SIZE in
    let stop = c.span_end-stop.result in
    let first = c.max-first.result in
    let end = c.min-end.result in
    let some = span_some ROW_SIZE c.args.off c.args.len r (omega arith) (omega arith) in
    let last = span_end_some BLOCK_SIZE c.args.off c.args.len some in
    let last_row = span_end_some ROW_SIZE c.args.off c.args.len some in
    let m = c.args.rows.now in
    let f = filled m in
    let split = gaps-split f start (first - start) (end - first) in
    let before : min stop (max start (r * ROW_BLOCKS)) - start ≡ first - start = omega arith in
    let both : min stop (max start ((r + 1) * ROW_BLOCKS)) - start ≡ first - start + (end - first) = omega arith in
    let row = gaps-row m r (first - r * ROW_BLOCKS) (end - first) (omega arith) in
    let at : r * ROW_BLOCKS + (first - r * ROW_BLOCKS) ≡ first = omega arith in
    let here : start + (first - start) ≡ first = omega arith in
    let count : end - r * ROW_BLOCKS - (first - r * ROW_BLOCKS) ≡ end - first = omega arith in
    record {
      missing = omega (
        arith,
        split,
        row,
        ap (gaps f start) before,
        ap (gaps f start) both,
        ap (λ (x : ℕ). gaps f x (end - first)) at,
        ap (λ (x : ℕ). gaps f x (end - first)) here,
        ap (gaps (row_filled (row_of m r)) (first - r * ROW_BLOCKS)) count,
      );
      bound = omega arith;
    }

pub returns-clause-missing : goal.returns-clause-missing
returns-clause-missing c =
    let start = c.args.off / BLOCK_SIZE in
    let stop = c.span_end-stop.result in
    let all : min stop (max start (c.loop-r.r * ROW_BLOCKS)) - start ≡ stop - start =
    ⊎_elim
    (λ none. omega (arith, span_end_none BLOCK_SIZE c.args.off c.args.len (omega arith)))
    (λ some. omega (arith, span_end_some BLOCK_SIZE c.args.off c.args.len (omega arith), span_end_some ROW_SIZE c.args.off c.args.len (omega arith)))
    (cases_lt c.args.len 1) in
    c.loop-r.invariant.missing ∙ ap (gaps (filled c.args.rows.now) start) all
    ∙ ap (λ (e : ℕ). gaps (filled c.args.rows.now) start (e - start)) c.span_end-stop.ensures.end
