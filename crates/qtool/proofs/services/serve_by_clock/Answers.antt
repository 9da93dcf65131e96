use Rattle.std.proofs.Common.{true}
use Rattle.qtool.proofs.Keeping.{keeps_terms}
use Rattle.qtool.proofs.services.serve_by_clock.Goals as goal

pub returns-in-Ok-clause-kept : goal.returns-in-Ok-clause-kept
returns-in-Ok-clause-kept g c =
    keeps_terms true _ _ _ _ _ _ c.in-Ok.ensures.outcome.0 c.in-Ok.ensures.clients c.in_ok-clients.ensures.new _ c.in_ok-clients.ensures.terms
