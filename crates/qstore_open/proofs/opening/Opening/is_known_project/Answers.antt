use Rattle.std.proofs.Common.{not, ap, sym, ◌∙◌}
use Rattle.qrules.specs.declared.kind.Kind.TheVariants.{Project}
use Rattle.qplain_laws.specs.Laws.{is_known_owner}
use Rattle.qstore_open.proofs.ByKind.{some-of-kind, not-not}
use Rattle.qstore_open.proofs.opening.Opening.is_known_project.Goals as goal

pub returns-in-None : goal.returns-in-None
returns-in-None c = ap not c.has_records.ensures ∙ not-not _ ∙ some-of-kind Project c.args.self.now.state.holders
    ∙ ap (is_known_owner c.args.self.now.state Project) (sym c.in-None.is)
