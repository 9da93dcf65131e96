use Rattle.std.proofs.Common.{◌≡◌, ◌+◌, ◌++◌, List, drop, map}
use Rattle.qrules.specs.declared.kind.Kind.{Kind}
use Rattle.qplain.specs.State.{State}
use Rattle.qplain_image.specs.Parts.{HolderPart}
use Rattle.qstore_open.specs.Counting.{AreCountsOf}
use Rattle.qstore_open.specs.Ending.{records_line}
use Rattle.qstore_open.specs.Told.{part_of}
use Rattle.qstore_open.proofs.ending.right_records.Given as goal

abbrev pub invariant-loop-record : goal.invariant-loop-record
invariant-loop-record l = record {
  behind : l.line ≡ l.from + l.record-index;
  lines : (S : State) (kind : Kind) (rest : List HolderPart) → AreCountsOf S kind l.counts
      → records_line S l.from (map (part_of kind) l.records ++ rest)
      ≡ records_line S l.line (map (part_of kind) (drop l.record-index l.records) ++ rest);
}
