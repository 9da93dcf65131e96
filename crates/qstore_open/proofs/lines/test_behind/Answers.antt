use Rattle.std.proofs.Common.{◌≡◌, ◌+◌, ◌<◌, Err, length, sym, subst, arith, tests}
use Rattle.qtext.specs.Words.{parts}
use Rattle.qtext_files.specs.RawLines.{raw_lines_from}
use Rattle.qtext_files.proofs.RawLines.{no_line_of, some_line}
use Rattle.qstore_open.specs.ReadTo.{IsBehind}
use Rattle.qstore_open.proofs.Reading.{line-behind-all}
use Rattle.qstore_open.proofs.lines.test_behind.Goals as goal

pub returns-then-is_empty : goal.returns-then-is_empty
returns-then-is_empty c = λ limit rows.
    let over : length c.args.after.now ≡ 0 = grind (arith, tests, c.if-is_empty.ensures) in
    no_line_of (c.args.line + 1) c.args.after.now over

pub returns : goal.returns
returns c = λ limit rows.
    let some : 0 < length c.args.after.now = grind (arith, tests, c.if-is_empty.ensures) in
    subst (λ f. IsBehind limit rows (raw_lines_from (c.args.line + 1) (parts 10 c.args.after.now)) (Err f)) (sym c.in_text.ensures)
    (line-behind-all limit (c.args.line + 1) rows (parts 10 c.args.after.now) (some_line (c.args.line + 1) c.args.after.now some))
