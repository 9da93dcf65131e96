use Rattle.std.proofs.Common.{◌==◌, length, ap, sym, ◌∙◌}
use Rattle.qstore_tree.specs.Names.{names_of}
use Rattle.qstore_tree.proofs.NoNames.{bare-length, bare-names_of, zero_test}
use Rattle.qstore_tree.proofs.names.Names.is_empty.Goals as goal

pub returns : goal.returns
returns c =
    let es = c.self.inside.table.entries in
    zero_test c.is_empty.result (length es) c.is_empty.ensures.0 c.is_empty.ensures.1
    ∙ bare-length es ∙ sym (bare-names_of es) ∙ sym (bare-length (names_of es)) ∙ ap (λ n. length n.entries == 0) c.self.view_is
