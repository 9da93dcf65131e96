-- What a store is told from another by.
use Rattle.std.specs.Prelude.{Bool, false, ℕ, []}
use Rattle.logbook.specs.Pages.{Book}
use Rattle.qplain.specs.declared.edition.Edition.TheVariants.{One}
use Rattle.qplain.specs.Setups.{Setting}
use Rattle.qplain.specs.State.{State, start}

-- the five counters of a tally, and how many parts each has
pub record Counters : Type 0 where
  pub blocks_charged : ℕ
  pub blocks_released : ℕ
  pub inodes_charged : ℕ
  pub inodes_released : ℕ
  pub calls : ℕ
  pub parts : ℕ

-- the setting and the state that it began with, which history it has, which counters, of as many parts as it has seats,
-- and whether a clock rules the moments of that history
pub record Identity : Type 0 where
  pub setting : Setting
  pub begun : State
  pub history : Book
  pub counters : Counters
  pub clocked : Bool

-- the setting of no store
abbrev pub no_setting : Setting
no_setting = record {
  edition = One;
  blocks = 0;
  inodes = 0;
  graces = record { block = 0; inode = 0 };
  users = [];
  groups = [];
  projects = [];
}

-- the identity of no store
abbrev pub no_identity : Identity
no_identity = record {
  setting = no_setting;
  begun = start no_setting;
  history = record { number = 0; log_name = 0; cells_name = 0 };
  counters = record {
    blocks_charged = 0;
    blocks_released = 0;
    inodes_charged = 0;
    inodes_released = 0;
    calls = 0;
    parts = 0;
  };
  clocked = false;
}
