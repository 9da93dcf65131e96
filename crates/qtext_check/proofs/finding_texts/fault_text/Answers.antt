use Rattle.std.proofs.Common.{◌≡◌, ◌+◌, arith}
use Rattle.qtext_check.proofs.finding_texts.fault_text.Goals as goal

pub returns-clause-line : goal.returns-clause-line
returns-clause-line c = record {
  column = _;
  rest = _;
  parts = rw c.in_ok-text.ensures at c.in_ok-extend_from_slice.ensures.items;
}

pub returns-clause-column : goal.returns-clause-column
returns-clause-column c = λ fits.
    let exact : c.saturating_add.result ≡ c.args.before + 1 = grind (arith, c.saturating_add.ensures, fits) in
    record {
      rest = _;
      parts = rw (c.in_ok-text.ensures, exact) at c.in_ok-extend_from_slice.ensures.items;
    }
