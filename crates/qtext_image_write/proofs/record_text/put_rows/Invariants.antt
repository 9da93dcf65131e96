use Rattle.std.proofs.Common.{◌<◌, ◌^◌, drop}
use Rattle.std.specs.List.{AllByRecursion, flat_map}
use Rattle.qtext.specs.Written.{Partly}
use Rattle.qtext_image_write.specs.Lines.{record_text}
use Rattle.qtext_image_write.proofs.record_text.put_rows.Given as goal

-- what was written and what is still to come
abbrev pub invariant-loop-row : goal.invariant-loop-row
invariant-loop-row g l = record {
  written : Partly (g.W.Write.contents l.fn.out) (g.W.Write.contents l.out) (flat_map record_text l.rows)
      (flat_map record_text (drop l.row-index l.rows));
  held : AllByRecursion (λ r. r.id < 2 ^ 32) (drop l.row-index l.rows) → AllByRecursion (λ r. r.id < 2 ^ 32) l.rows;
}
