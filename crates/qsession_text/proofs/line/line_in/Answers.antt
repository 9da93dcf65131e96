use Rattle.std.proofs.Common.{rules}
use Rattle.qsession_text.proofs.OnlyLines.{one_read, only_of_more, only_of_none}
use Rattle.qsession_text.proofs.line.line_in.Goals as goal

pub returns-then-is_empty : goal.returns-then-is_empty
returns-then-is_empty c = only_of_none c.args.text.now (search rules)

pub returns-then-not-is_empty : goal.returns-then-not-is_empty
returns-then-not-is_empty c =
    let line = c.in_ok-line.line in
    only_of_more c.args.text.now line.bytes.now line.after.now line.whole (c.in_ok-line.ensures.first 1) (search rules)

pub returns : goal.returns
returns c =
    let line = c.in_ok-line.line in
    one_read c.args.text.now line.bytes.now line.after.now line.whole c.read_line.result (c.in_ok-line.ensures.first 1) (search rules)
    c.read_line.ensures.exact
