use Rattle.std.proofs.Common.{arith, ⊎_elim, None}
use Rattle.std.proofs.lemmas.Bool.{cases_lt}
use Rattle.std.proofs.lemmas.List.{get_or_past}
use Rattle.qblocks.proofs.row.free_from.Goals as goal

pub returns-clause-freed : goal.returns-clause-freed
returns-clause-freed c = λ q l.
    ⊎_elim (c.loop-j.invariant.freed q l) (λ past. get_or_past c.loop-j.row q None (omega arith)) (cases_lt q c.loop-j.j)
