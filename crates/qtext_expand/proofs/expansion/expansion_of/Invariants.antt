use Rattle.std.proofs.Common.{◌≡◌, ◌≤◌, ◌+◌, length}
use Rattle.qtext.specs.Words.{parts}
use Rattle.qtext_files.specs.RawLines.{raw_lines_from}
use Rattle.qtext_expand.specs.Expansions.{expansion, expansion_from}
use Rattle.qtext_expand.proofs.Writing.{with_text}
use Rattle.qtext_expand.proofs.expansion.expansion_of.Given as goal

-- what was written so far, and what is left
abbrev pub invariant-loop-rest : goal.invariant-loop-rest
invariant-loop-rest l = record {
  few : l.before ≤ 65536;
  count : l.number + length l.rest ≤ length l.text;
  writes : with_text l.out.items
      (expansion_from l.setup l.before l.when l.who.items (raw_lines_from (l.number + 1) (parts 10 l.rest)))
      ≡ expansion l.setup l.text;
}

abbrev pub decreases-loop-rest : goal.decreases-loop-rest
decreases-loop-rest l = length l.rest
