use Rattle.std.proofs.Common.{◌≡◌, ◌+◌, ◌-◌, ◌/◌, ◌%◌, ◌<◌, length, take, drop, ap, ◌∙◌, sym, arith, ℕ, length-take, length-drop}
use Rattle.std.proofs.lemmas.List.FromFn.{length-map-range_with_len}
use borrow.Rule.Slice.PartMut.{same_len_mid}
use Rattle.qblocks.specs.declared.block.TheConstants.{BLOCK_SIZE}
use Rattle.qblocks.specs.Row.{row_byte, byte_of, slot_at}
use Rattle.qblocks.proofs.Reading.{fills-next}
use Rattle.qblocks.proofs.row.read_into.Goals as goal

pub loop-done-preserved : goal.loop-done-preserved
loop-done-preserved c =
    let row = c.args.row.now in
    let done = c.loop-done.done in
    let out = c.loop-done.out in
    let len = c.min-len.result in
    let k = done + len - done in
    let at = c.args.from + done in
    let g : ℕ → ℕ = byte_of (slot_at row (at / BLOCK_SIZE)) in
    let part = take k (drop done out) in
    let long : length part ≡ len = omega (arith, length-take k (drop done out), length-drop done out) in
    let more = c.read_block_into.ensures in
    let piece = ap length more ∙ length-map-range_with_len g (at % BLOCK_SIZE) (length part) in
    let whole = same_len_mid done k out c.read_block_into.new.out piece in
    record {
      reads = fills-next (row_byte row) g out c.read_block_into.new.out (drop k (drop done out)) c.args.from done
          (at % BLOCK_SIZE) (length part) (done + len) c.loop-done.invariant.reads c.loop-done.invariant.within more (λ i l.
          let low : i < len = omega (arith, long) in
          let block : (c.args.from + done + i) / BLOCK_SIZE ≡ at / BLOCK_SIZE = omega arith in
          let byte : (c.args.from + done + i) % BLOCK_SIZE ≡ at % BLOCK_SIZE + i = omega arith in
          sym (ap (λ (x : ℕ). byte_of (slot_at row x) ((at + i) % BLOCK_SIZE)) block ∙ ap g byte)) (omega (arith, long));
      within = omega (arith, whole);
    }
