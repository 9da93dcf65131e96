-- What contracts see of a part of a tally.
use Rattle.std.specs.Prelude.{ℕ, ◌+◌, ◌≤◌}
use Rattle.qplain.specs.declared.tallies.Tallies.{Tallies}

-- what was counted, and with how many parts of the counters
pub record Counted : Type 0 where
  pub tally : Tallies
  pub parts : ℕ

-- what two have counted together
abbrev pub sum_of : Tallies → Tallies → Tallies
sum_of t u = record {
  blocks_charged = t.blocks_charged + u.blocks_charged;
  blocks_released = t.blocks_released + u.blocks_released;
  inodes_charged = t.inodes_charged + u.inodes_charged;
  inodes_released = t.inodes_released + u.inodes_released;
  calls = t.calls + u.calls;
}

-- each of the one's numbers is at most the other's
pub record AreWithin (part all : Tallies) : Type 0 where
  pub blocks_charged : part.blocks_charged ≤ all.blocks_charged
  pub blocks_released : part.blocks_released ≤ all.blocks_released
  pub inodes_charged : part.inodes_charged ≤ all.inodes_charged
  pub inodes_released : part.inodes_released ≤ all.inodes_released
  pub calls : part.calls ≤ all.calls
