use Rattle.std.proofs.Common.{sym, ◌∙◌, rules}
use Rattle.qtext_check.proofs.Refusals.{refused_path}
use Rattle.qtext_check.proofs.refusing.written_refusal.Goals as goal

pub returns : goal.returns
returns c = c.paths_fault.ensures ∙ sym (refused_path c.args.setup.now c.args.line.now (search rules) (search rules))
