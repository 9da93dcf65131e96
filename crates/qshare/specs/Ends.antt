-- What the end of a shared store gives, and what it gives back where a share is missing.
use Rattle.std.specs.Prelude.{◌≡◌, Bool, true, List, All}
use mathlib.Core.List.{IsPrefix}
use Rattle.qplain.specs.Journal.{tally_of}
use Rattle.qplain_laws.specs.Journals.{IsBalancedFrom}
use Rattle.qshare_history.specs.Moments.{NeverFalls}
use Rattle.qshare_history.specs.Shares.{HandedIn, tally_of_shares}
use Rattle.qstore_journaled.specs.Journaled.{IsPlayed, Journaled}

-- a store that is what its journal leaves; what the shares have counted is the journal's tally and balances with what
-- was there at the beginning and what is left, and each has seen a prefix of the journal, whose moments never fall
-- where a clock rules the store
pub record IsEndOf (clocked : Bool) (shares : List HandedIn) (j : Journaled) : Type 0 where
  pub played : IsPlayed j
  pub tally : tally_of_shares shares ≡ tally_of j.journal
  pub balanced : IsBalancedFrom j.begun j.stored.state (tally_of_shares shares)
  pub seen : All (λ s. IsPrefix s.seen j.journal) shares
  pub moments : clocked ≡ true → NeverFalls j.journal
