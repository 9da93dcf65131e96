use Rattle.qtext.proofs.CutLines.{no_text_line}
use Rattle.qtext.proofs.cut.no_text.Goals as goal

pub returns-clause-no_text : goal.returns-clause-no_text
returns-clause-no_text c =
    no_text_line c.args.text.now c.args.at _ _ c.requires.within c.requires.before c.requires.byte c.requires.inside
    c.first_part.ensures.parts
