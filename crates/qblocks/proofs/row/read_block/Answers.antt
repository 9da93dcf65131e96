use Rattle.std.proofs.Common.{◌≡◌, ◌++◌, ◌+◌, ap, ◌∙◌, sym, arith, None, Some}
use Rattle.std.proofs.lemmas.List.{get_or_default}
use Rattle.qblocks.specs.Row.{slot_at, byte_of}
use Rattle.qblocks.proofs.Reading.{reads-resized, reads_same}
use Rattle.qblocks.proofs.row.read_block.Goals as goal

pub returns-in_ok-read-in-Some : goal.returns-in_ok-read-in-Some
returns-in_ok-read-in-Some c =
    let row = c.args.row.now in
    let j = c.args.j in
    let here : slot_at row j ≡ Some c.in-Some.block = get_or_default row j None c.index-row-j.result (omega arith) ∙ c.in-Some.is in
    c.in_ok-read-in-Some.ensures
    ∙ ap (λ xs. c.args.out.now.items ++ xs) (reads_same (byte_of (Some c.in-Some.block)) (byte_of (slot_at row j)) c.args.at c.args.at c.args.len
    (λ i _. ap (λ slot. byte_of slot (c.args.at + i)) (sym here)))

pub returns-in_ok-resize-in-None : goal.returns-in_ok-resize-in-None
returns-in_ok-resize-in-None c =
    let row = c.args.row.now in
    let j = c.args.j in
    let here : slot_at row j ≡ None = get_or_default row j None c.index-row-j.result (omega arith) ∙ c.in-None.is in
    reads-resized (byte_of (slot_at row j)) c.args.out.now.items c.resize.new.self.items c.args.at c.args.len
    c.args.out.now.len (c.len.result + c.args.len) c.in_ok-resize-in-None.ensures.items (omega arith)
    (omega arith) (λ o. ap (λ slot. byte_of slot o) here)
