use Rattle.std.proofs.Common.{◌≤◌, ◌^◌, ℕ, IfNone, Option, flat_map, length, subst, sym}
use Rattle.qsession.specs.Names.{bytes_of}
use Rattle.qsession.proofs.Listed.{too_many}
use Rattle.qsession.proofs.names.text_len.Goals as goal

pub returns-in_err-len-clause-none : goal.returns-in_err-len-clause-none
returns-in_err-len-clause-none c =
    subst (λ (o : Option ℕ). IfNone o (2 ^ 64 ≤ length (flat_map bytes_of c.args.names.now))) (sym c.from_residual.ensures)
    (too_many c.args.names.now c.loop-name.name-index c.loop-name.len _ c.loop-name-test.true c.loop-name.invariant c.in_err-len.ensures)
