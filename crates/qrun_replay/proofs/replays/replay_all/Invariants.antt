use Rattle.std.proofs.Common.{◌≡◌, take}
use Rattle.qrun_replay.proofs.replays.replay_all.Given as goal

abbrev pub invariant-loop-entry : goal.invariant-loop-entry
invariant-loop-entry l = record {
  setting : l.store.setting ≡ l.fn.store.setting;
  begun : l.store.begun ≡ l.fn.store.begun;
  journal : l.store.journal ≡ take l.entry-index l.entries;
}
