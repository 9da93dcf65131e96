use Rattle.std.proofs.Common.{drop}
use Rattle.std.specs.List.{flat_map}
use Rattle.qtext.specs.Written.{Partly}
use Rattle.qaudit.specs.Audits.{difference_text}
use Rattle.qaudit.proofs.audit_text.put_differences.Given as goal

abbrev pub invariant-loop-difference : goal.invariant-loop-difference
invariant-loop-difference g l =
    Partly (g.W.Write.contents l.fn.out) (g.W.Write.contents l.out) (flat_map difference_text l.differences)
    (flat_map difference_text (drop l.difference-index l.differences))
