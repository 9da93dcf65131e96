use Rattle.std.proofs.Common.{◌+◌, ◌*◌, ◌%◌, ◌/◌, arith, ap, ◌∙◌, length, drop, List, subst, ℕ, length-take-le, length-drop}
use Rattle.std.proofs.lemmas.List.{take_all}
use Rattle.qblocks.specs.declared.block.TheConstants.{BLOCK_SIZE}
use Rattle.qblocks.specs.Input.{input_bytes}
use Rattle.qblocks.specs.Row.{Puts, row_filled, row_byte}
use Rattle.qblocks.proofs.Puts.{Puts-none, Puts-next, Puts-rest, Puts-block, gaps_in-block}
use Rattle.qblocks.proofs.row.put.Goals as goal

pub loop-done-init : goal.loop-done-init
loop-done-init c = record {
  puts = Puts-none (row_byte c.args.row.now) (row_filled c.args.row.now) c.args.spare.now c.args.at 0 (input_bytes c.args.input) (omega arith);
  within = omega arith;
  aligned = λ some _. absurd (omega arith);
}

pub put_block-requires-clause-spare : goal.put_block-requires-clause-spare
put_block-requires-clause-spare c =
    let here = c.args.at + c.loop-done.done in
    let len = c.min-len.result in
    let aligned = c.loop-done.invariant.aligned in
    let rest = Puts-rest _ _ _ _ _ _ c.args.at c.loop-done.done len
    (here / BLOCK_SIZE * BLOCK_SIZE + here % BLOCK_SIZE) (input_bytes c.args.input) c.loop-done.invariant.puts
    c.requires.spare (omega arith) (omega arith) (omega arith) (λ some. aligned some (omega arith)) in
    omega (arith, rest, gaps_in-block (row_filled c.loop-done.row) (here / BLOCK_SIZE) (here % BLOCK_SIZE) len (omega arith) (omega arith))

pub loop-done-preserved : goal.loop-done-preserved
loop-done-preserved c =
    let done = c.loop-done.done in
    let here = c.args.at + done in
    let len = c.min-len.result in
    let input = input_bytes c.args.input in
    let part = input_bytes c.part.result in
    let long = ap {B = ℕ} length c.part.ensures ∙ length-take-le len (drop done input) (omega (arith, length-drop done input)) in
    let aligned = c.loop-done.invariant.aligned in
    let e = c.put_block.ensures in
    let step = Puts-block c.loop-done.row c.put_block.new.row (here / BLOCK_SIZE) (here % BLOCK_SIZE)
    part (omega arith) (omega arith) c.loop-done.spare c.put_block.new.spare
    e.filled e.writes e.others e.spare in
    record {
      puts = Puts-next _ _ _ _ _ _ _ _ _ c.args.at done len _ _ input part c.loop-done.invariant.puts step c.part.ensures
          (omega arith) (omega arith) (omega arith) (omega arith) (λ some. aligned some (omega arith));
      within = omega arith;
      aligned = λ _ less. omega arith;
    }

pub returns : goal.returns
returns c =
    let Put : List ℕ → Type 0 =
    Puts (row_byte c.args.row.now) (row_byte c.loop-done.row) (row_filled c.args.row.now)
    (row_filled c.loop-done.row) c.args.spare.now c.loop-done.spare c.args.at in
    subst Put (take_all c.loop-done.done (input_bytes c.args.input) (omega arith)) c.loop-done.invariant.puts
