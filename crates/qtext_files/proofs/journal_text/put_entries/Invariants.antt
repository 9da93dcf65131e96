use Rattle.std.proofs.Common.{drop}
use Rattle.std.specs.List.{AllByRecursion, flat_map}
use Rattle.qtext.specs.Written.{Partly}
use Rattle.qtext_files.specs.Spelling.{entry_text}
use Rattle.qtext_files.proofs.JournalsWritten.{IsSpelled}
use Rattle.qtext_files.proofs.journal_text.put_entries.Given as goal

-- what was written and what is still to come
abbrev pub invariant-loop-entry : goal.invariant-loop-entry
invariant-loop-entry g l = record {
  written : Partly (g.W.Write.contents l.fn.out) (g.W.Write.contents l.out)
      (flat_map entry_text l.entries) (flat_map entry_text (drop l.entry-index l.entries));
  held : AllByRecursion IsSpelled (drop l.entry-index l.entries) → AllByRecursion IsSpelled l.entries;
}
