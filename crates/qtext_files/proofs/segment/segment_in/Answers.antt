use Rattle.std.proofs.Common.{inl, sym, ◌≡◌, length, arith, tests}
use Rattle.std.proofs.lemmas.Result.{err_from_is_err_and}
use Rattle.qtext_files.proofs.Segments.{no_first_line, placed_fault, segment_read, segment_told}
use Rattle.qtext_files.proofs.SegmentsFound.{segment_found}
use Rattle.qtext_files.proofs.segment.segment_in.Goals as goal

pub returns-then-is_empty : goal.returns-then-is_empty
returns-then-is_empty c =
    let empty = c.if-is_empty.ensures in
    let none : length c.args.text.now ≡ 0 = grind (arith, tests, empty) in
    inl (sym (no_first_line c.args.text.now none))

pub returns-in-Err-Fault : goal.returns-in-Err-Fault
returns-in-Err-Fault c =
    rw c.in-Err-Fault.field-0-is
    (inl (sym (placed_fault c.args.text.now _ _ _ (c.in-Ok.ensures.first 1)
    (rw c.in-Err-Fault.field-0-is at c.in-Err-Fault.ensures.placed))))

pub returns-in_err-entries : goal.returns-in_err-entries
returns-in_err-entries c =
    let fault = err_from_is_err_and c.from_residual.result c.from_residual.ensures.1 in
    rw (fault.1, fault.2)
    (segment_told c.args.text.now _ _ _ _ (c.in-Ok.ensures.first 1) c.in-Ok-placed_of.ensures.placed c.in_err-entries.ensures.entries)

pub returns : goal.returns
returns c = rw c.new.ensures
    (inl (sym (segment_read c.args.text.now _ _ _ _ (c.in-Ok.ensures.first 1) c.in-Ok-placed_of.ensures.placed c.in_ok-entries.ensures.entries)))

pub new-requires : goal.new-requires
new-requires c =
    let read = segment_read c.args.text.now _ _ _ _ (c.in-Ok.ensures.first 1) c.in-Ok-placed_of.ensures.placed c.in_ok-entries.ensures.entries in
    (segment_found c.args.text.now _ read).journal
