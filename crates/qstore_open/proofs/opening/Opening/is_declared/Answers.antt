use Rattle.std.proofs.Common.{ap, sym, ◌∙◌}
use Rattle.qplain.specs.Known.{is_declared}
use Rattle.qstore_open.proofs.ByKind.{declared_told}
use Rattle.qstore_open.proofs.opening.Opening.is_declared.Goals as goal

pub returns : goal.returns
returns c = c.has.ensures ∙ sym (declared_told c.args.kind c.args.id c.self.inside.records) ∙ ap (λ t. is_declared t.state c.args.kind c.args.id) c.self.view_is
