use Rattle.std.proofs.Common.{ap}
use Rattle.qstore_tree.proofs.Bytes.{names_of-get}
use Rattle.qstore_tree.proofs.names.Names.get.Goals as goal

pub returns : goal.returns
returns c =
    let e = names_of-get c.self.inside.table.entries c.args.name.now in
    let v = ap (λ n. n.entries) c.self.view_is in
    cc
