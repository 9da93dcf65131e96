use Rattle.std.proofs.Common.{◌<◌, vec_len}
use Rattle.qtext_client.proofs.Paying.{HasPassed}
use Rattle.qtext_client.proofs.bounded_line.pass.Given as goal

-- what was read of the line has taken its turns, but for a part of a KiB
abbrev pub invariant-loop : goal.invariant-loop
invariant-loop g l = record {
  few : l.left < 1024;
  passed : HasPassed (vec_len l.fn.line) (g.R.Read.remaining l.fn.reader) (g.R.Read.remaining l.reader) l.fn.turns l.turns l.left;
}
