use Rattle.std.proofs.Common.{drop}
use Rattle.std.specs.List.{flat_map}
use Rattle.qtext_rows.specs.Rest.{difference_object}
use Rattle.qtext.specs.Written.{Partly}
use Rattle.qtext_rows.proofs.rest_objects.put_differences.Given as goal

abbrev pub invariant-loop-difference : goal.invariant-loop-difference
invariant-loop-difference g l = Partly (g.W.Write.contents l.fn.out) (g.W.Write.contents l.out)
    (flat_map difference_object l.differences) (flat_map difference_object (drop l.difference-index l.differences))
