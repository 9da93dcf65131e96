use Rattle.qstore_accounts.specs.Books.{Books}
use Rattle.qstore_accounts.specs.Callers.{AreKnown}
use Rattle.qstore_accounts.proofs.known_callers.KnownCallers.new.Given as goal

-- whoever is kept is known, for nobody is
abbrev pub invariant-loop : goal.invariant-loop
invariant-loop l = (b : Books) → AreKnown b l.places.items
