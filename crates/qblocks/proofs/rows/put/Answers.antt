use Rattle.std.proofs.Common.{◌+◌, ◌*◌, ◌%◌, ◌/◌, arith, length, drop, List, subst, ap, ◌∙◌, ℕ, refl, length-take-le, length-drop}
use Rattle.std.proofs.lemmas.List.{take_all}
use Rattle.qblocks.specs.declared.row.TheConstants.{ROW_SIZE}
use Rattle.qblocks.specs.Input.{input_bytes}
use Rattle.qblocks.specs.Row.{Puts, gaps_in, row_filled}
use Rattle.qblocks.specs.Rows.{filled, byte_at, row_of}
use Rattle.qblocks.proofs.Puts.{Puts-none, Puts-next, Puts-rest}
use Rattle.qblocks.proofs.Table.{Puts-row, gaps_in-row}
use Rattle.qblocks.proofs.rows.put.Goals as goal

pub loop-done-init : goal.loop-done-init
loop-done-init c = record {
  puts = Puts-none (byte_at c.args.rows.now) (filled c.args.rows.now) c.args.spare.now c.args.off 0 (input_bytes c.args.input) (omega arith);
  rows = λ q. refl;
  within = omega arith;
  aligned = λ some _. absurd (omega arith);
}

pub put_in_row-requires-clause-spare : goal.put_in_row-requires-clause-spare
put_in_row-requires-clause-spare c =
    let done = c.loop-done.done in
    let here = c.args.off + done in
    let m = c.min-len.result in
    let input = input_bytes c.args.input in
    let long = ap {B = ℕ} length c.part.ensures ∙ length-take-le m (drop done input) (omega (arith, length-drop done input)) in
    let aligned = c.loop-done.invariant.aligned in
    let rest = Puts-rest _ _ _ _ _ _ c.args.off done m (here / ROW_SIZE * ROW_SIZE + here % ROW_SIZE) input
    c.loop-done.invariant.puts c.requires.spare (omega arith) (omega arith) (omega arith)
    (λ some. let even = aligned some (omega arith) in omega arith) in
    let row = ap (gaps_in (row_filled (row_of c.loop-done.rows (here / ROW_SIZE))) (here % ROW_SIZE)) long in
    omega (arith, rest, row, gaps_in-row c.loop-done.rows (here / ROW_SIZE) (here % ROW_SIZE) m (omega arith) (omega arith))

pub loop-done-preserved : goal.loop-done-preserved
loop-done-preserved c =
    let done = c.loop-done.done in
    let here = c.args.off + done in
    let m = c.min-len.result in
    let input = input_bytes c.args.input in
    let part = input_bytes c.part.result in
    let long = ap {B = ℕ} length c.part.ensures ∙ length-take-le m (drop done input) (omega (arith, length-drop done input)) in
    let aligned = c.loop-done.invariant.aligned in
    let e = c.put_in_row.ensures in
    let step = Puts-row c.loop-done.rows c.put_in_row.new.rows (here / ROW_SIZE) (here % ROW_SIZE)
    part (omega arith) (omega arith) e.only.others c.loop-done.spare
    c.put_in_row.new.spare e.puts in
    record {
      puts = Puts-next _ _ _ _ _ _ _ _ _ c.args.off done m _ _ input part c.loop-done.invariant.puts step c.part.ensures
          (omega arith) (omega arith) (omega arith) (omega arith)
          (λ some. let even = aligned some (omega arith) in omega arith);
      rows = λ q. e.only.rows q ∙ c.loop-done.invariant.rows q;
      within = omega arith;
      aligned = λ _ less. omega arith;
    }

pub returns-clause-puts : goal.returns-clause-puts
returns-clause-puts c =
    let Put : List ℕ → Type 0 =
    Puts (byte_at c.args.rows.now) (byte_at c.loop-done.rows) (filled c.args.rows.now)
    (filled c.loop-done.rows) c.args.spare.now c.loop-done.spare c.args.off in
    subst Put (take_all c.loop-done.done (input_bytes c.args.input) (omega arith)) c.loop-done.invariant.puts
