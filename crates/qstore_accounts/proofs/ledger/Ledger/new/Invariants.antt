use Rattle.std.proofs.Common.{◌≡◌, map, take}
use Rattle.qstore_accounts.specs.Ledgers.{new_holder}
use Rattle.qstore_accounts.proofs.ledger.Ledger.new.Given as goal

-- the kept holders so far are those of the principals so far
abbrev pub invariant-loop-principal : goal.invariant-loop-principal
invariant-loop-principal l = l.holders.items ≡ map (new_holder l.graces) (take l.principal-index l.principals)
