use Rattle.std.proofs.Common.{◌≡◌, ◌+◌, ◌∙◌, inr, length, map, vec_len, sym, arith, rules}
use Rattle.std.proofs.lemmas.List.{length-map}
use Rattle.qtext_files.proofs.RawLines.{no_line_of}
use Rattle.qtext_expand.proofs.Writing.{ends_at, goes_on, is_done}
use Rattle.qtext_expand.proofs.expansion.expansion_of.Goals as goal

pub returns-in-Err-Fault : goal.returns-in-Err-Fault
returns-in-Err-Fault c = rw c.in-Err-Fault.field-0-is
    (inr (ends_at _ _ _ _ _ _ _ _ _ _
    (rw c.deref.ensures.value at (rw c.in-Err-Fault.field-0-is at c.in-Err-Fault.ensures.gives))
    (c.in-Ok.ensures.first (c.loop-rest.number + 1)) c.loop-rest.invariant.writes))

pub loop-rest-preserved : goal.loop-rest-preserved
loop-rest-preserved c =
    let made : vec_len c.in-Ok-line_after.expanded.lines ≡ length c.in-Ok-line_after.expanded.lines.items = c.in-Ok-line_after.expanded.lines.ok.0 in
    let many : c.len-before.result ≡ length (map (λ l. l.items) c.in-Ok-line_after.expanded.lines.items) =
    c.len-before.ensures ∙ made ∙ sym (length-map c.in-Ok-line_after.expanded.lines.items (λ l. l.items)) in
    record {
      few = omega (arith, c.in-Ok-line_after.ensures.few, made, c.len-before.ensures);
      count = omega (arith, c.in-Ok.ensures.shorter, c.loop-rest.invariant.count);
      writes = rw (c.in-Ok-put_ended.ensures, c.deref-in-Ok-line_after.ensures.value, many)
          (goes_on _ _ _ _ _ _ _ _ _ _ (rw c.deref.ensures.value at c.in-Ok-line_after.ensures.gives)
          (c.in-Ok.ensures.first (c.loop-rest.number + 1)) c.loop-rest.invariant.writes);
    }

pub returns : goal.returns
returns c = is_done _ _ _ _ _ _ _ (no_line_of (c.loop-rest.number + 1) c.loop-rest.rest.now (search rules)) c.loop-rest.invariant.writes
