-- The parent of a path's last component. No public clause cites this module.
use Rattle.std.specs.Prelude.{ℕ, ◌-◌, List, length, take, Result}
use Rattle.qplain.specs.declared.refusal.Refusal.{Refusal}
use Rattle.qplain.specs.State.{State}
use Rattle.qplain.specs.Walk.{walk}

-- what the names but the last lead to
abbrev pub parent : State → List (List ℕ) → Result ℕ Refusal
parent S names = walk S (take (length names - 1) names)
