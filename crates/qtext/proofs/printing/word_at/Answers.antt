use Rattle.qtext.proofs.CutLines.{stops_at}
use Rattle.qtext.proofs.printing.word_at.Goals as goal

pub returns-clause-stops : goal.returns-clause-stops
returns-clause-stops c = λ lt.
    stops_at c.args.text.now c.args.start c.printing_end-end.result c.requires c.printing_end-end.ensures.end lt
