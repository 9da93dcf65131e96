use Rattle.std.proofs.Common.{drop}
use Rattle.std.specs.List.{flat_map}
use Rattle.qtext.specs.Written.{Partly}
use Rattle.qstore_tree.specs.Listed.{name_entry}
use Rattle.qtext_image_write.specs.Lines.{name_text}
use Rattle.qtext_image_write.proofs.name_text.put_rows.Given as goal

-- what was written and what is still to come
abbrev pub invariant-loop-name : goal.invariant-loop-name
invariant-loop-name g l =
    Partly (g.W.Write.contents l.fn.out) (g.W.Write.contents l.out) (flat_map (λ n. name_text (name_entry n)) l.names)
    (flat_map (λ n. name_text (name_entry n)) (drop l.name-index l.names))
