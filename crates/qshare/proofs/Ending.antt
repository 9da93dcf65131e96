-- What the shares of a store that has ended have counted, beside its totals.
use Rattle.std.proofs.Common.{◌≡◌, sym, subst}
use Rattle.qplain.specs.declared.tallies.Tallies.{Tallies}
use Rattle.qplain.specs.Journal.{tally_of}
use Rattle.qplain_laws.specs.Journals.{IsBalancedFrom}
use Rattle.qplain_laws.proofs.Tallying.{journals_balance}
use Rattle.qstore_journaled.specs.Journaled.{IsPlayed, Journaled}

-- a tally that is the journal's balances with what was there and the totals of a store that is what the journal leaves
pub end_balances : (j : Journaled) (t : Tallies) → IsPlayed j → t ≡ tally_of j.journal → IsBalancedFrom j.begun j.stored.state t
end_balances j t played is =
    subst (λ S. IsBalancedFrom j.begun S t) (sym played.state)
    (subst (IsBalancedFrom j.begun _) (sym is) (journals_balance j.begun j.journal played.legal))
