use Rattle.qsession.proofs.Listed.{AreListed}
use Rattle.qsession.proofs.names.list_names.Given as goal

-- the names so far stand in the list, and their bytes in the text
abbrev pub invariant-loop-i : goal.invariant-loop-i
invariant-loop-i l = AreListed l.names l.i l.at l.list l.text
