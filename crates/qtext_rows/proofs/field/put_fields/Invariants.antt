use Rattle.std.proofs.Common.{drop}
use Rattle.std.specs.List.{flat_map}
use Rattle.qtext_rows.specs.Csv.{next_field}
use Rattle.qtext.specs.Written.{Partly}
use Rattle.qtext_rows.proofs.field.put_fields.Given as goal

abbrev pub invariant-loop-field : goal.invariant-loop-field
invariant-loop-field g l = Partly (g.W.Write.contents l.fn.out) (g.W.Write.contents l.out)
    (flat_map (λ f. next_field f.now) l.fields) (flat_map (λ f. next_field f.now) (drop l.field-index l.fields))
