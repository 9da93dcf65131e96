use Rattle.std.proofs.Common.{◌≡◌, List, Ok, Err, length, ap, sym, subst, ◌∙◌, arith, tests}
use Rattle.qtext.specs.Words.{parts}
use Rattle.qtext_files.specs.RawLines.{RawLine, raw_lines_from}
use Rattle.qtext_files.proofs.RawLines.{no_line_of}
use Rattle.qstore_open.specs.ReadTo.{IsReadTo, TakesLine, TakesLines}
use Rattle.qstore_open.proofs.Reading.{no-line, takes-last, takes-row, takes-wrong}
use Rattle.qstore_open.proofs.lines.take_lines.Goals as goal

pub returns-in-Ok-End : goal.returns-in-Ok-End
returns-in-Ok-End c = λ limit small begun.
    takes-last limit small (raw_lines_from 2 (parts 10 c.args.text.now)) c.loop-rest.line _ _ c.loop-rest.opening (subst (λ
    (ls : List RawLine). IsReadTo limit (raw_lines_from 2 (parts 10 c.args.text.now)) c.loop-rest.line ls c.loop-rest.opening)
    (c.in_ok-next.ensures.first c.loop-rest.line) (c.loop-rest.invariant.read limit small begun))
    c.take_line.new.opening c.test_behind.result (subst (λ r. TakesLine
    (record { number = c.loop-rest.line; bytes = c.in_ok-next.next.bytes.now; whole = c.in_ok-next.next.whole }) c.loop-rest.opening
    c.take_line.new.opening r)
    (c.in-Ok-End.is ∙ ap (λ t. Ok t) c.in-Ok-End.field-0-is) (c.take_line.ensures c.loop-rest.line)) (c.test_behind.ensures limit)

pub returns-in-Err : goal.returns-in-Err
returns-in-Err c = λ limit small begun.
    subst (λ f. TakesLines limit (raw_lines_from 2 (parts 10 c.args.text.now)) c.take_line.new.opening (Err f)) (sym c.in_line.ensures)
    (takes-wrong limit small (raw_lines_from 2 (parts 10 c.args.text.now)) c.loop-rest.line _ _ c.loop-rest.opening (subst (λ
    (ls : List RawLine). IsReadTo limit (raw_lines_from 2 (parts 10 c.args.text.now)) c.loop-rest.line ls c.loop-rest.opening)
    (c.in_ok-next.ensures.first c.loop-rest.line) (c.loop-rest.invariant.read limit small begun))
    c.take_line.new.opening c.in-Err.fault (subst (λ r. TakesLine
    (record { number = c.loop-rest.line; bytes = c.in_ok-next.next.bytes.now; whole = c.in_ok-next.next.whole }) c.loop-rest.opening
    c.take_line.new.opening r)
    c.in-Err.is (c.take_line.ensures c.loop-rest.line)))

pub loop-rest-preserved : goal.loop-rest-preserved
loop-rest-preserved c = record {
  count = omega (arith, c.loop-rest.invariant.count, c.in_ok-next.ensures.shorter);
  read = λ limit small begun.
      takes-row limit small (raw_lines_from 2 (parts 10 c.args.text.now)) c.loop-rest.line _ _ c.loop-rest.opening (subst (λ
      (ls : List RawLine). IsReadTo limit (raw_lines_from 2 (parts 10 c.args.text.now)) c.loop-rest.line ls c.loop-rest.opening)
      (c.in_ok-next.ensures.first c.loop-rest.line) (c.loop-rest.invariant.read limit small begun))
      c.take_line.new.opening (subst (λ r. TakesLine
      (record { number = c.loop-rest.line; bytes = c.in_ok-next.next.bytes.now; whole = c.in_ok-next.next.whole }) c.loop-rest.opening
      c.take_line.new.opening r)
      (c.in-Ok-Row.is ∙ ap (λ t. Ok t) c.in-Ok-Row.field-0-is) (c.take_line.ensures c.loop-rest.line));
}

pub returns : goal.returns
returns c = λ limit small begun.
    let over : length c.loop-rest.rest.now ≡ 0 = grind (arith, tests, c.loop-rest-test.ensures) in
    subst (λ f. TakesLines limit (raw_lines_from 2 (parts 10 c.args.text.now)) c.loop-rest.opening (Err f)) (sym c.in_text.ensures)
    (no-line limit c.loop-rest.line (raw_lines_from 2 (parts 10 c.args.text.now)) c.loop-rest.opening
    (subst (λ (ls : List RawLine). IsReadTo limit (raw_lines_from 2 (parts 10 c.args.text.now)) c.loop-rest.line ls c.loop-rest.opening)
    (no_line_of c.loop-rest.line c.loop-rest.rest.now over) (c.loop-rest.invariant.read limit small begun)))
