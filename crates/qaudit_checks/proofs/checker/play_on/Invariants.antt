use Rattle.std.proofs.Common.{◌≡◌, take}
use Rattle.qplain.specs.Journal.{play}
use Rattle.qaudit_checks.proofs.checker.play_on.Given as goal

abbrev pub invariant-loop-entry : goal.invariant-loop-entry
invariant-loop-entry l = l.store.state ≡ play l.fn.store.state (take l.entry-index l.entries)
