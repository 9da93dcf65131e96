use Rattle.std.proofs.Common.{sym}
use Rattle.qstore.proofs.Settling.{tree-kept}
use Rattle.qstore.proofs.store.Store.tree.Goals as goal

pub returns : goal.returns
returns c = tree-kept c.args.self.now c.self.inside (sym c.self.view_is) c.self.invariant
