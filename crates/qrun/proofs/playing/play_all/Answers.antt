use Rattle.std.proofs.iter.Serving.{serving}
use Rattle.qrun.specs.Crews.{AreNumbered}
use Rattle.qrun.proofs.playing.play_all.Goals as goal

pub scoped-requires : goal.scoped-requires
scoped-requires g c =
    let numbered : AreNumbered c.args.workers.items = c.requires in
    grind (serving, numbered)
