use Rattle.std.proofs.Common.{subst}
use Rattle.qtext_client.specs.Wires.{HasEnded}
use Rattle.qtext_client.proofs.Talked.{taken_apart}
use Rattle.qtext_client.proofs.stream_client.StreamClientClient.into_parts.Goals as goal

pub returns-clause-talk : goal.returns-clause-talk
returns-clause-talk g c =
    let closed = c.close-2.ensures in
    taken_apart g.M.Moments.clocked c.args.self closed.new _ _ c.requires.answered (subst (λ p. HasEnded p.wire closed.new) c.self.view_is closed.ended)
    closed.deaf closed.end_is closed.took_is
