use Rattle.std.proofs.Common.{take_all}
use Rattle.qstore_accounts.proofs.ById.{by_id-new}
use Rattle.qstore_accounts.proofs.ledger.Ledger.new.Goals as goal

-- the kept holders are those of all principals, whose ids rise
pub invariant_of-result : goal.invariant_of-result
invariant_of-result c = rw (c.loop-principal.invariant, take_all _ _ c.loop-principal-test.false) (by_id-new _ _ c.requires.by_id)
