-- What holds of whole journals: of the states that they leave, of what their entries tell, and of their tallies.
use Rattle.std.specs.Prelude.{◌≡◌, ℕ, ◌+◌, ◌*◌, ◌≤◌, List, length, All}
use Rattle.qrules.specs.Sort.{Inodes, Blocks}
use Rattle.qplain.specs.declared.call.Call.{Call}
use Rattle.qplain.specs.declared.change.Change.{Change}
use Rattle.qplain.specs.declared.entry.Entry.{Entry}
use Rattle.qplain.specs.declared.setup.TheConstants.{MAX_BLOCKS, MAX_INODES}
use Rattle.qplain.specs.declared.tallies.Tallies.{Tallies}
use Rattle.qplain.specs.Caller.{Caller}
use Rattle.qplain.specs.Setups.{IsLawfulSetup, Setting}
use Rattle.qplain.specs.State.{State, start}
use Rattle.qplain.specs.Use.{total_of}
use Rattle.qplain.specs.Journal.{IsLegal, change_of, play, tally_of}
use Rattle.qplain.specs.Step.{change_between, step}
use Rattle.qplain_laws.specs.Laws.{IsLawful}

-- whatever entries are played from a new store of a lawful setup, legal or not, a lawful state is left
abbrev pub JournalsStayLawful : Type 0
JournalsStayLawful = (s : Setting) (journal : List Entry) → IsLawfulSetup s → IsLawful (play (start s) journal)

-- a reply tells exactly the rise and the fall of the totals in its step
abbrev pub ChangesAreTold : Type 0
ChangesAreTold = (S : State) (cred : Caller) (moment : ℕ) (call : Call)
    → change_of (step S cred moment call).1 ≡ change_between S (step S cred moment call).0

-- the change is of N blocks and inodes at most
pub record IsWithin (blocks inodes : ℕ) (c : Change) : Type 0 where
  pub blocks_charged : c.blocks_charged ≤ blocks
  pub blocks_released : c.blocks_released ≤ blocks
  pub inodes_charged : c.inodes_charged ≤ inodes
  pub inodes_released : c.inodes_released ≤ inodes

-- from a lawful state no step tells of more blocks or inodes than the bounds
abbrev pub StepsAreSmall : Type 0
StepsAreSmall = (S : State) (cred : Caller) (moment : ℕ) (call : Call) → IsLawful S
    → IsWithin S.size S.most_inodes (change_of (step S cred moment call).1)

-- no entry of a legal journal tells of more blocks or inodes than the setup has, nor than a setup may have
pub record HasSmallChanges (s : Setting) (journal : List Entry) : Type 0 where
  pub of_setup : All (λ e. IsWithin s.blocks s.inodes (change_of e.reply)) journal
  pub of_any : All (λ e. IsWithin MAX_BLOCKS MAX_INODES (change_of e.reply)) journal

-- so it is from a new store of a lawful setup
abbrev pub ChangesAreSmall : Type 0
ChangesAreSmall = (s : Setting) (journal : List Entry) → IsLawfulSetup s → IsLegal (start s) journal
    → HasSmallChanges s journal

-- the tally of N calls is of N blocks and inodes for each at most
pub record IsTallyOf (blocks inodes count : ℕ) (t : Tallies) : Type 0 where
  pub blocks_charged : t.blocks_charged ≤ blocks * count
  pub blocks_released : t.blocks_released ≤ blocks * count
  pub inodes_charged : t.inodes_charged ≤ inodes * count
  pub inodes_released : t.inodes_released ≤ inodes * count
  pub calls : t.calls ≡ count

-- so it is of each legal journal from a new store of a lawful setup
abbrev pub TalliesAreSmall : Type 0
TalliesAreSmall = (s : Setting) (journal : List Entry) → IsLawfulSetup s → IsLegal (start s) journal
    → IsTallyOf MAX_BLOCKS MAX_INODES (length journal) (tally_of journal)

-- what was charged and what was there is what was released and what is left
pub record IsBalancedFrom (begun left : State) (t : Tallies) : Type 0 where
  pub blocks : t.blocks_charged + total_of begun Blocks ≡ t.blocks_released + total_of left Blocks
  pub inodes : t.inodes_charged + total_of begun Inodes ≡ t.inodes_released + total_of left Inodes

-- so it is after each legal journal, from any state
abbrev pub JournalsBalance : Type 0
JournalsBalance = (S : State) (journal : List Entry) → IsLegal S journal
    → IsBalancedFrom S (play S journal) (tally_of journal)

-- what was charged is what was released and what is there; a new store has its root, which nothing was charged for
pub record IsBalanced (S : State) (t : Tallies) : Type 0 where
  pub blocks : t.blocks_charged ≡ t.blocks_released + total_of S Blocks
  pub inodes : t.inodes_charged + 1 ≡ t.inodes_released + total_of S Inodes

-- so it is after each legal journal from a new store
abbrev pub TalliesBalance : Type 0
TalliesBalance = (s : Setting) (journal : List Entry) → IsLegal (start s) journal
    → IsBalanced (play (start s) journal) (tally_of journal)
