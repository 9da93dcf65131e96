use Rattle.std.proofs.Common.{not, ap, ◌∙◌, rules, tests}
use Rattle.std.specs.Str.{bytes_eq}
use Rattle.std.proofs.lemmas.Iterator.{YieldsList-from_slice}
use Rattle.std.proofs.lemmas.Iterator.Search.{any_from_yields_List}
use Rattle.qtext_config.proofs.ConfigKeyLaws.{list_any-map}
use Rattle.qtext_config.proofs.config.keys.is_unknown.Goals as goal

pub returns : goal.returns
returns c =
    ap not (any_from_yields_List (λ k. bytes_eq c.args.key.now k.now) _ _ _ c.any.ensures.ran
    (YieldsList-from_slice c.args.known.now (search rules)) (λ x b q k. search (rules, tests))
    ∙ list_any-map (bytes_eq c.args.key.now) (λ k. k.now) c.args.known.now)
