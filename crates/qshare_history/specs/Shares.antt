-- What contracts see of shares, and what they come to together.
use Rattle.std.specs.Prelude.{◌≡◌, ℕ, ◌==◌, ◌<◌, ◌≤◌, true, false, List, sum_by}
use Rattle.std.specs.List.{list_any}
use Rattle.qplain.specs.declared.entry.Entry.{Entry}
use Rattle.qplain.specs.declared.tallies.Tallies.{Tallies}

-- a worker's number, the prefix of the history that it has seen, and what it has counted
pub record HandedIn : Type 0 where
  pub worker : ℕ
  pub seen : List Entry
  pub tally : Tallies

-- what these shares have counted together
abbrev pub tally_of_shares : List HandedIn → Tallies
tally_of_shares shares = record {
  blocks_charged = sum_by (λ s. s.tally.blocks_charged) shares;
  blocks_released = sum_by (λ s. s.tally.blocks_released) shares;
  inodes_charged = sum_by (λ s. s.tally.inodes_charged) shares;
  inodes_released = sum_by (λ s. s.tally.inodes_released) shares;
  calls = sum_by (λ s. s.tally.calls) shares;
}

-- the shares of the first seats are there
abbrev pub AreThere : List HandedIn → ℕ → Type 0
AreThere shares seats = (k : ℕ) → 0 < k → k ≤ seats → list_any (λ s. s.worker == k) shares ≡ true

-- this is the least of the seats whose share is not there
pub record IsLeastMissing (shares : List HandedIn) (seats worker : ℕ) : Type 0 where
  pub positive : 0 < worker
  pub seat : worker ≤ seats
  pub missing : list_any (λ s. s.worker == worker) shares ≡ false
  pub before : (k : ℕ) → 0 < k → k < worker → list_any (λ s. s.worker == k) shares ≡ true
