-- What a store was when it was remembered. No public clause cites this module.
use Rattle.std.specs.Prelude.{List, [], ◌∷◌}
use Rattle.qplain.specs.State.{State}
use Rattle.qstore.specs.Stored.{Stored}

-- a state in which nothing stands
abbrev pub no_state : State
no_state = record {
  size = 0;
  most_inodes = 0;
  file_limit = 0;
  graces = record { block = 0; inode = 0 };
  holders = [];
  inodes = [];
  names = [];
  next = 0;
}

-- the state of the first of these, or that in which nothing stands
abbrev pub first_state : List Stored → State
first_state [] = no_state
first_state (s ∷ rest) = s.state
