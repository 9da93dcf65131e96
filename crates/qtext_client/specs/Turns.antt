-- The turns of a client.
use Rattle.std.specs.Prelude.{◌≡◌, ◌<◌, ◌≤◌, ◌+◌, ◌*◌, ◌-◌, ◌/◌, ◌^◌, ℕ, max, min, Option, Some, None}
use Rattle.qtext_client.specs.declared.turns.Turns.{Turns}

-- the longest time that is counted, in nanoseconds
abbrev pub longest : ℕ
longest = 2 ^ 64 - 1

-- of so many turns a second, at least one, each lasts as long a part of it, and none was taken
abbrev pub new_turns : ℕ → Turns
new_turns rate = record { each = 1000000000 / max rate 1; until = 0 }

-- behind so many turns that are taken at this time all are over when each has lasted, one after the other
abbrev pub after_turns : Turns → ℕ → ℕ → Turns
after_turns turns many now = record turns {
  until = min longest (max turns.until now + min longest (turns.each * many));
}

-- so many turns were taken, whenever that was: behind those before, each of them lasts
pub record HasTaken (many : ℕ) (old new : Turns) : Type 0 where
  pub each : new.each ≡ old.each
  pub until : new.until < longest → old.until + old.each * many ≤ new.until

-- a client that has turns has taken so many; one that has none takes none
abbrev pub HaveTaken : ℕ → Option Turns → Option Turns → Type 0
HaveTaken many None new = new ≡ None
HaveTaken many (Some old) new = (turns : Turns) × (new ≡ Some turns) × HasTaken many old turns
