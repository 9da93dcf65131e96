use Rattle.std.proofs.Common.{◌≡◌, ◌≤◌, ◌+◌, length, vec_len}
use Rattle.qtext.specs.Reading.{each_of}
use Rattle.qtext.specs.Words.{parts}
use Rattle.qtext_files.specs.RawLines.{RawLine, in_line, raw_lines_from}
use Rattle.qtext.proofs.Loops.{with_front}
use Rattle.qtext_files.proofs.lines.read_lines.Given as goal

-- what was read so far, and what is still read
abbrev pub invariant-loop-rest : goal.invariant-loop-rest
invariant-loop-rest g l = record {
  few : l.number ≤ g.R.ReadLine.most l.fn.reader;
  count : vec_len l.items + l.fn.before ≡ l.number;
  same : (line : RawLine) → g.R.ReadLine.says l.reader line ≡ g.R.ReadLine.says l.fn.reader line;
  most : g.R.ReadLine.most l.reader ≡ g.R.ReadLine.most l.fn.reader;
  reads : with_front l.items.items
      (each_of (λ line. in_line line.number (g.R.ReadLine.says l.fn.reader line)) (raw_lines_from (l.number + 1) (parts 10 l.rest)))
      ≡ each_of (λ line. in_line line.number (g.R.ReadLine.says l.fn.reader line)) (raw_lines_from (l.fn.before + 1) (parts 10 l.fn.text));
}

abbrev pub decreases-loop-rest : goal.decreases-loop-rest
decreases-loop-rest g l = length l.rest
