use Rattle.std.proofs.Common.{◌≡◌, ◌+◌, ◌-◌, ◌/◌, ◌%◌, ap, ◌∙◌, sym, arith, ℕ}
use Rattle.qblocks.specs.declared.block.TheConstants.{BLOCK_SIZE}
use Rattle.qblocks.specs.Row.{row_byte, byte_of, slot_at}
use Rattle.qblocks.proofs.Reading.{reads-next, length-read}
use Rattle.qblocks.proofs.row.read.Goals as goal

pub read_block-requires-clause-room : goal.read_block-requires-clause-room
read_block-requires-clause-room c =
    omega (arith, length-read (row_byte c.args.row.now) _ _ c.args.from _ c.loop-at.invariant.reads)

pub loop-at-preserved : goal.loop-at-preserved
loop-at-preserved c =
    let at = c.loop-at.at in
    let row = c.args.row.now in
    let reads = c.loop-at.invariant.reads in
    record {
      reads = reads-next (row_byte row) (byte_of (slot_at row (at / BLOCK_SIZE))) _ _ _ c.args.from _
          (at % BLOCK_SIZE) c.min-len.result _ reads c.in_ok-read_block.ensures (λ i l.
          let o = c.args.from + (at - c.args.from) + i in
          let block : (c.args.from + (at - c.args.from) + i) / BLOCK_SIZE ≡ at / BLOCK_SIZE = omega arith in
          let byte : (c.args.from + (at - c.args.from) + i) % BLOCK_SIZE ≡ at % BLOCK_SIZE + i = omega arith in
          sym (ap (λ (x : ℕ). byte_of (slot_at row x) (o % BLOCK_SIZE)) block ∙ ap (byte_of (slot_at row (at / BLOCK_SIZE))) byte)) (omega arith);
      order = omega arith;
      within = omega arith;
    }
