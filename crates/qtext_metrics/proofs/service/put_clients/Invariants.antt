use Rattle.std.proofs.Common.{◌+◌, drop}
use Rattle.qtext.specs.Written.{Partly}
use Rattle.qtext_metrics.specs.Services.{client_rows}
use Rattle.qtext_metrics.proofs.service.put_clients.Given as goal

abbrev pub invariant-loop-index : goal.invariant-loop-index
invariant-loop-index g l =
    Partly (g.W.Write.contents l.fn.out) (g.W.Write.contents l.out)
    (client_rows 1 l.calls) (client_rows (l.index + 1) (drop l.index l.calls))
