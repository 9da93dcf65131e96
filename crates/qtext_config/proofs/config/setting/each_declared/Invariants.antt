use Rattle.std.proofs.Common.{◌≡◌}
use Rattle.std.specs.Vec.Iter.{into_iter_items}
use Rattle.qtext.specs.Reading.{each_of}
use Rattle.qtext_config.specs.Configs.{declared_of}
use Rattle.qtext.proofs.Loops.{with_front}
use Rattle.qtext_config.proofs.config.setting.each_declared.Given as goal

abbrev pub invariant-loop-written : goal.invariant-loop-written
invariant-loop-written l =
    with_front l.declared.items (each_of declared_of (into_iter_items l.written-iterator)) ≡ each_of declared_of l.fn.principals
