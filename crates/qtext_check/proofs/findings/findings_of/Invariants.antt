use Rattle.std.proofs.Common.{◌≡◌, ◌≤◌, ◌+◌, ◌++◌, length, map}
use Rattle.std.specs.List.{flat_map}
use Rattle.std.specs.Option.{option_map}
use Rattle.qtext.specs.Words.{parts}
use Rattle.qtext_files.specs.RawLines.{raw_lines_from}
use Rattle.qtext_check.specs.Faults.{faults_in, faults_of, checked_line, checked_lines, listed, looked_at}
use Rattle.qtext_check.specs.Found.{AreAtFault}
use Rattle.qtext_check.proofs.findings.findings_of.Given as goal

-- the faults so far, and those of the lines that are left
abbrev pub invariant-loop-rest : goal.invariant-loop-rest
invariant-loop-rest l = record {
  count : l.number + length l.rest ≤ length l.text;
  faults : map (λ f. f.fault) l.findings.items
      ++ faults_in (option_map (λ s. s.now) l.setup) (looked_at (raw_lines_from (l.number + 1) (parts 10 l.rest)))
      ≡ faults_of (option_map (λ s. s.now) l.setup) l.text;
  lines : map (λ f. f.bytes.now) l.findings.items
      ++ flat_map (λ r. listed (checked_line (option_map (λ s. s.now) l.setup) r)) (looked_at (raw_lines_from (l.number + 1) (parts 10 l.rest)))
      ≡ checked_lines (option_map (λ s. s.now) l.setup) l.text;
  words : AreAtFault l.findings.items;
}

abbrev pub decreases-loop-rest : goal.decreases-loop-rest
decreases-loop-rest l = length l.rest
