use Rattle.std.proofs.Common.{◌≡◌, ◌<◌, ℕ, length, slice_index, take}
use Rattle.qaudit.specs.Recount.{names_to}
use Rattle.qaudit.proofs.links.names_by_number.Given as goal

abbrev pub invariant-loop-name : goal.invariant-loop-name
invariant-loop-name l = record {
  long : length l.counts.items ≡ length l.numbers;
  each : (k : ℕ) → k < length l.numbers → slice_index l.counts.items k ≡ names_to (take l.name-index l.names) (slice_index l.numbers k);
}
