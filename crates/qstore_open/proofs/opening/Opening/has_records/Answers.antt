use Rattle.std.proofs.Common.{◌==◌, not, length, ap, sym, ◌∙◌}
use Rattle.qtext_image.specs.NextFaults.{are_none}
use Rattle.qtext_image.specs.Setups.{principals_of}
use Rattle.qstore_open.proofs.ByKind.{none-of-kind}
use Rattle.qstore_open.proofs.opening.Opening.has_records.Goals as goal

pub returns : goal.returns
returns c = ap not (c.is_empty.ensures ∙ ap (λ ts. length ts == 0) c.of.ensures ∙ sym (none-of-kind c.args.kind c.self.inside.records)
    ∙ ap (λ t. are_none (principals_of c.args.kind t.state.holders)) c.self.view_is)
