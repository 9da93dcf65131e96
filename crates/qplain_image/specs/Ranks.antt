-- A sign that every inode can be walked to, for who makes a state of rows.
use Rattle.std.specs.Prelude.{◌≡◌, ℕ, ◌<◌, true, All}
use Rattle.qplain.specs.State.{State, is_directory}
use Rattle.qplain_laws.specs.Laws.{AllReached, IsLawful}

-- each name that leads to a directory stands in a directory of a lower rank
abbrev pub AreRanked : State → (ℕ → ℕ) → Type 0
AreRanked S rank = All (λ e. is_directory S e.1 ≡ true → rank e.0.0 < rank e.1) S.names

-- where directories have such ranks, every inode of a lawful state can be walked to
abbrev pub RankedAreReached : Type 0
RankedAreReached = (S : State) (rank : ℕ → ℕ) → IsLawful S → AreRanked S rank → AllReached S
