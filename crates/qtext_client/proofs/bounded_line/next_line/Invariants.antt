use Rattle.std.proofs.Common.{◌≡◌, ◌≢◌, ◌≤◌, All, vec_len}
use Rattle.std.specs.Io.KnownBytes.{Consumes}
use Rattle.qtext_client.specs.declared.bounded_line.TheConstants.{MAX_LINE}
use Rattle.qtext_client.proofs.bounded_line.next_line.Given as goal

-- the line has no line end yet, and is what the reader has lost; no turn was taken
abbrev pub invariant-loop : goal.invariant-loop
invariant-loop g l = record {
  short : vec_len l.line ≤ MAX_LINE;
  open_yet : All (λ x. x ≢ 10) l.line.items;
  lost : Consumes (g.R.Read.remaining l.fn.reader) (g.R.Read.remaining l.reader) l.line.items;
  same : l.turns ≡ l.fn.turns;
}
