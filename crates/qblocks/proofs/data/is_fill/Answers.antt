use Rattle.std.proofs.Common.{◌==◌, ◌&&◌, ◌∙◌, sym, ap, rules, tests}
use Rattle.std.specs.List.{list_all}
use Rattle.std.proofs.lemmas.Bool.{eq-eqb}
use Rattle.std.proofs.lemmas.Iterator.{YieldsList-from_slice}
use Rattle.std.proofs.lemmas.Iterator.Search.{all_from_yields_List}
use Rattle.qblocks.proofs.data.is_fill.Goals as goal

pub returns-then-bytes-count : goal.returns-then-bytes-count
returns-then-bytes-count c =
    all_from_yields_List (λ other. other == c.args.byte) _ _ _ c.all.ensures.ran
    (YieldsList-from_slice c.args.bytes.now (search rules)) (λ x b q k. search (rules, tests))
    ∙ ap (λ t. t && list_all (λ other. other == c.args.byte) c.args.bytes.now) (sym (eq-eqb _ _ c.if-bytes-count.true))
