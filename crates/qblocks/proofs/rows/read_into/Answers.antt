use Rattle.std.proofs.Common.{◌≡◌, ◌+◌, ◌-◌, ◌*◌, ◌/◌, ◌%◌, ◌<◌, length, take, drop, ap, ◌∙◌, sym, arith, ℕ, length-take, length-drop}
use Rattle.std.proofs.lemmas.List.FromFn.{length-map-range_with_len}
use borrow.Rule.Slice.PartMut.{same_len_mid}
use Rattle.qblocks.specs.declared.row.TheConstants.{ROW_SIZE}
use Rattle.qblocks.specs.Row.{row_byte}
use Rattle.qblocks.specs.Rows.{byte_at, row_of}
use Rattle.qblocks.proofs.Reading.{fills-next}
use Rattle.qblocks.proofs.Table.{byte_at-row}
use Rattle.qblocks.proofs.rows.read_into.Goals as goal

pub loop-done-preserved : goal.loop-done-preserved
loop-done-preserved c =
    let m = c.args.rows.now in
    let done = c.loop-done.done in
    let out = c.loop-done.out in
    let len = c.min-len.result in
    let k = done + len - done in
    let at = c.args.off + done in
    let g : ℕ → ℕ = row_byte (row_of m (at / ROW_SIZE)) in
    let part = take k (drop done out) in
    let long : length part ≡ len = omega (arith, length-take k (drop done out), length-drop done out) in
    let more = c.read_row_into.ensures in
    let piece = ap length more ∙ length-map-range_with_len g (at % ROW_SIZE) (length part) in
    let whole = same_len_mid done k out c.read_row_into.new.out piece in
    record {
      reads = fills-next (byte_at m) g out c.read_row_into.new.out (drop k (drop done out)) c.args.off done
          (at % ROW_SIZE) (length part) (done + len) c.loop-done.invariant.reads c.loop-done.invariant.within more (λ i l.
          let low : i < len = omega (arith, long) in
          let here : at / ROW_SIZE * ROW_SIZE + (at % ROW_SIZE + i) ≡ c.args.off + done + i = omega arith in
          sym (byte_at-row m (at / ROW_SIZE) (at % ROW_SIZE + i) (omega arith)) ∙ ap (byte_at m) here) (omega (arith, long));
      within = omega (arith, whole);
    }
