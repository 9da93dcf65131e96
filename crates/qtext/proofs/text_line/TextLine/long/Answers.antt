use Rattle.std.proofs.Common.{◌≤◌, ◌<◌, ◌/◌, ◌%◌, append_assoc, arith, decimal}
use Rattle.itoa.proofs.Decimal.{decimal_pair, pair}
use Rattle.qtext.proofs.text_line.TextLine.long.Goals as goal

pub returns-then-n-lt10000-clause-text : goal.returns-then-n-lt10000-clause-text
returns-then-n-lt10000-clause-text c =
    let many : 100 ≤ c.args.n = c.if-n-lt100.false in
    let few : c.args.n < 10000 = c.if-n-lt10000.true in
    rw (decimal_pair c.args.n many (omega (arith, few)), c.pair.ensures.text, c.small-then-n-lt10000.ensures.text)
    (append_assoc c.args.self.now (decimal (c.args.n / 100)) (pair (c.args.n % 100)))
