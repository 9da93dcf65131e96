use Rattle.std.proofs.Common.{None, ap, arith, cond, ◌∙◌}
use Rattle.std.specs.BTreeMap.{is_at}
use Rattle.std.specs.Cmp.Lexicographic.{slice_cmp}
use Rattle.std.specs.Map.{lookup}
use Rattle.std.specs.Ordering.{nat_cmp}
use Rattle.qstore_tree.proofs.Bytes.{bytes_tie, names_of-changed}
use Rattle.qstore_tree.proofs.names.Names.take.Goals as goal

pub returns-clause-names : goal.returns-clause-names
returns-clause-names c = λ name.
    names_of-changed c.self.inside.table c.remove.new.self c.args.name.now None c.remove.ensures.updates name
    ∙ ap (λ n. cond (bytes_tie c.args.name.now name) None (lookup (is_at (slice_cmp nat_cmp name)) n.entries)) c.self.view_is

pub returns-clause-room : goal.returns-clause-room
returns-clause-room c =
    let had = ap (λ n. n.room) c.self.view_is in
    omega (arith, had, c.remove.ensures.spare)
