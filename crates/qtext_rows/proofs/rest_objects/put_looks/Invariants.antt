use Rattle.std.proofs.Common.{drop}
use Rattle.std.specs.List.{flat_map}
use Rattle.qtext_rows.specs.Rest.{look_object}
use Rattle.qtext.specs.Written.{Partly}
use Rattle.qtext_rows.proofs.rest_objects.put_looks.Given as goal

abbrev pub invariant-loop-look : goal.invariant-loop-look
invariant-loop-look g l = Partly (g.W.Write.contents l.fn.out) (g.W.Write.contents l.out)
    (flat_map look_object l.looks) (flat_map look_object (drop l.look-index l.looks))
