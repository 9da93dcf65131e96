use Rattle.std.proofs.Common.{◌≡◌, ◌≤◌, length}
use Rattle.std.specs.Option.{option_map}
use Rattle.qtext.specs.Words.{parts_after}
use Rattle.qtext.proofs.Loops.{with_front}
use Rattle.qtext.proofs.Splitting.{size_of}
use Rattle.qtext_read.specs.Callers.{groups_of}
use Rattle.qtext_read.proofs.caller.groups_of.Given as goal

-- the groups so far, and what is still read
abbrev pub invariant-loop-left : goal.invariant-loop-left
invariant-loop-left l = record {
  few : length l.groups.items ≤ 16;
  reads : with_front l.groups.items (groups_of (parts_after 44 (option_map (λ t. t.now) l.left)))
      ≡ groups_of (parts_after 44 (option_map (λ t. t.now) l.text));
}

abbrev pub decreases-loop-left : goal.decreases-loop-left
decreases-loop-left l = size_of (option_map (λ t. t.now) l.left)
