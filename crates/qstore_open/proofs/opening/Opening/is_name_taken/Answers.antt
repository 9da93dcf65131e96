use Rattle.std.proofs.Common.{ap, sym, ◌∙◌}
use Rattle.qtext_image.specs.NextFaults.{is_name_taken}
use Rattle.qstore_open.specs.Told.{part_in}
use Rattle.qstore_open.proofs.ByKind.{taken-told}
use Rattle.qstore_open.proofs.opening.Opening.is_name_taken.Goals as goal

pub returns : goal.returns
returns c =
    c.has_name.ensures ∙ sym (taken-told c.args.record.now.kind c.args.record.now.name.now c.self.inside.records)
    ∙ ap (λ t. is_name_taken t.state (part_in c.args.record.now).holder) c.self.view_is
