use Rattle.std.proofs.Common.{string_bytes, ap, ◌∙◌}
use Rattle.std.specs.Ordering.{nat_cmp}
use Rattle.std.specs.Cmp.Lexicographic.{slice_cmp}
use Rattle.std.specs.BTreeMap.{insert_entry}
use Rattle.qstore_tree.proofs.Bytes.{names_of-insert}
use Rattle.qstore_tree.proofs.names.Names.put.Goals as goal

pub returns : goal.returns
returns c =
    names_of-insert c.self.inside.table c.insert.new.self c.args.name c.args.number c.in-Ok.ensures.updates
    ∙ ap (λ n. insert_entry (slice_cmp nat_cmp) n.entries (string_bytes c.args.name) c.args.number) c.self.view_is
