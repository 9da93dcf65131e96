use Rattle.std.proofs.Common.{ap, ◌∙◌}
use Rattle.qstore_tree.proofs.Bytes.{names_of-same}
use Rattle.qstore_tree.proofs.names.Names.make_room.Goals as goal

pub returns-clause-same : goal.returns-clause-same
returns-clause-same c = names_of-same c.self.inside.table c.reserve.new.self c.reserve.ensures.entries.2 ∙ ap (λ n. n.entries) c.self.view_is
