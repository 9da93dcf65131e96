use Rattle.std.proofs.Common.{◌≡◌, ◌+◌, ◌-◌, ◌*◌, ◌/◌, ◌%◌, ap, ◌∙◌, sym, arith}
use Rattle.qblocks.specs.declared.row.TheConstants.{ROW_SIZE}
use Rattle.qblocks.specs.Row.{row_byte}
use Rattle.qblocks.specs.Rows.{byte_at, row_of}
use Rattle.qblocks.proofs.Reading.{reads-next, length-read}
use Rattle.qblocks.proofs.Table.{byte_at-row}
use Rattle.qblocks.proofs.rows.read.Goals as goal

pub read_row-requires-clause-room : goal.read_row-requires-clause-room
read_row-requires-clause-room c =
    omega (arith, length-read (byte_at c.args.rows.now) _ _ c.args.off _ c.loop-at.invariant.reads)

pub loop-at-preserved : goal.loop-at-preserved
loop-at-preserved c =
    let at = c.loop-at.at in
    let m = c.args.rows.now in
    record {
      reads = reads-next (byte_at m) (row_byte (row_of m (at / ROW_SIZE))) _ _ _ c.args.off _ (at % ROW_SIZE)
          c.min-len.result _ c.loop-at.invariant.reads c.in_ok-read_row.ensures (λ i l.
          let whole : at / ROW_SIZE * ROW_SIZE + (at % ROW_SIZE + i) ≡ c.args.off + (at - c.args.off) + i = omega arith in
          sym (byte_at-row m (at / ROW_SIZE) (at % ROW_SIZE + i) (omega arith)) ∙ ap (byte_at m) whole) (omega arith);
      order = omega arith;
      within = omega arith;
    }
