use Rattle.qtext_expand.proofs.Laws.{same_of_answer, script_of_answer}
use Rattle.qtext_expand.proofs.expansion.expand.Goals as goal

pub returns-clause-plain : goal.returns-clause-plain
returns-clause-plain c = script_of_answer c.args.setup.now c.args.text.now c.expansion_of.result c.expansion_of.ensures

pub returns-clause-same : goal.returns-clause-same
returns-clause-same c = λ lines said. same_of_answer c.args.setup.now c.args.text.now lines c.expansion_of.result c.expansion_of.ensures said
