use Rattle.qplain_laws.proofs.Undeclared.{kinds_stay, undeclared_own_nothing, undeclared_refuse_nothing}
use Rattle.qplain_laws.proofs.laws.undeclared_kinds_do_nothing.Goals as goal

pub returns-clause-own : goal.returns-clause-own
returns-clause-own c = undeclared_own_nothing

pub returns-clause-refuse : goal.returns-clause-refuse
returns-clause-refuse c = undeclared_refuse_nothing

pub returns-clause-stay : goal.returns-clause-stay
returns-clause-stay c = kinds_stay
