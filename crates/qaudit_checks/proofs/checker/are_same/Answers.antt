use Rattle.std.proofs.Common.{arith, tests}
use Rattle.std.proofs.lemmas.Slice.Eq.{slice_eq-Decides}
use Rattle.qaudit_checks.proofs.checker.are_same.Goals as goal

pub returns : goal.returns
returns c = slice_eq-Decides (λ a b. (λ e. grind (arith, tests, e), λ e. grind (arith, tests, e))) c.args.one.now c.args.other.now _ c.eq.ensures
