use Rattle.std.proofs.Common.{◌≡◌, length, ap, ◌∙◌, arith, None}
use Rattle.std.proofs.lemmas.List.{get_or_default}
use Rattle.qblocks.specs.Row.{slot_at, byte_of}
use Rattle.qblocks.proofs.Reading.{reads-zeros}
use Rattle.qblocks.proofs.row.read_block_into.Goals as goal

pub returns-in-None : goal.returns-in-None
returns-in-None c =
    let row = c.args.row.now in
    let j = c.args.j in
    let here : slot_at row j ≡ None = get_or_default row j None c.index-row-j.result (omega arith) ∙ c.in-None.is in
    c.fill.ensures.after (λ y e. e)
    ∙ reads-zeros (byte_of (slot_at row j)) c.args.at (length c.args.out.now) (λ o. ap (λ slot. byte_of slot o) here)
