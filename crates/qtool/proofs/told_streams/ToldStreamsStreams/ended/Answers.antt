use Rattle.std.proofs.Common.{IfSome, subst, sym}
use Rattle.qtext_client.specs.Wires.{HeldBy}
use Rattle.qtool.proofs.told_streams.ToldStreamsStreams.ended.Goals as goal

pub returns : goal.returns
returns g c =
    subst (λ s. IfSome (g.S.Streams.took s) (HeldBy g.S.Out.Write.contents c.args.output)) (sym c.tell.ensures) c.ended.ensures
