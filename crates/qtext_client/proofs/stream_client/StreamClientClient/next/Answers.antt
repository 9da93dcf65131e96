use Rattle.std.proofs.Common.{◌⊎◌, ◌∙◌, ap, inr, subst}
use Rattle.qrun_client.specs.declared.client.ClientEnd.TheVariants.{Input}
use Rattle.qtext_client.specs.Wires.{HasEnded, Stays}
use Rattle.qtext_client.proofs.Talked.{begun, let_go}
use Rattle.qtext_client.proofs.stream_client.StreamClientClient.next.Goals as goal

pub loop-init : goal.loop-init
loop-init g c =
    let new = c.begin.new.self in
    record {
      owed = ap (λ p. p.owed) c.self.view_is ∙ c.requires.answered;
      stands = ap (λ p. p.stands) c.self.view_is;
      talk = begun g.M.Moments.clocked g.S.Streams.took _ _ new c.requires.answered (λ i. record (c.self.view_is i) { wire = new })
          (subst (λ p. Stays p.wire new ⊎ HasEnded p.wire new) c.self.view_is c.begin.ensures);
    }

pub returns-clause-talk : goal.returns-clause-talk
returns-clause-talk g c =
    let new = c.end.new.self in
    λ lines answers left comes. c.loop.invariant.talk lines answers left
    (begun g.M.Moments.clocked g.S.Streams.took _ _ new c.loop.invariant.owed (λ i. record (c.self-2.view_is i) { wire = new })
    (inr (subst (λ p. HasEnded p.wire new) c.self-2.view_is (let_go Input _ new (λ is. absurd cc) c.end.ensures))) lines answers left comes)
