use Rattle.std.proofs.Common.{not, eqb, arith}
use Rattle.std.proofs.lemmas.List.Sums.{prefix_len-le-length}
use Rattle.qtext_client.proofs.FirstLines.{through_len}
use Rattle.qtext_client.proofs.bounded_line.len_through.Goals as goal

pub returns-then-at-shown-clause-line : goal.returns-then-at-shown-clause-line
returns-then-at-shown-clause-line c =
    omega (arith, through_len c.args.shown.now, c.first_place-at.ensures, c.if-at-shown.true)

pub returns-else-at-shown-clause-line : goal.returns-else-at-shown-clause-line
returns-else-at-shown-clause-line c =
    omega (arith, through_len c.args.shown.now, prefix_len-le-length (λ b. not (eqb b 10)) c.args.shown.now, c.first_place-at.ensures, c.if-at-shown.false)
