use Rattle.std.proofs.Common.{arith, w8}
use Rattle.std.proofs.lemmas.Simd.{length-chunk, chunk-fits}
use lib.Lanes.{chunk}
use Rattle.qlanes.specs.Bytes.{is_printing}
use Rattle.qlanes.proofs.Runs.{run_whole, run_stopped, run_few}
use Rattle.qlanes.proofs.PrintingLanes.{stops, stops_of, stops_are, agree}
use Rattle.qlanes.proofs.printing.run_at.Goals as goal

pub returns-then-stops-eq0-clause-run : goal.returns-then-stops-eq0-clause-run
returns-then-stops-eq0-clause-run c =
    let v = chunk c.args.at 16 c.args.bytes.now in
    let long = length-chunk c.args.at 16 c.args.bytes.now c.requires in
    run_whole is_printing stops agree v (stops_of v) long (chunk-fits w8 c.args.at 16 c.args.bytes.now c.type_inv.bytes)
    (stops_are v long) c.if-stops-eq0.true

pub returns-else-stops-eq0 : goal.returns-else-stops-eq0
returns-else-stops-eq0 c =
    let v = chunk c.args.at 16 c.args.bytes.now in
    let long = length-chunk c.args.at 16 c.args.bytes.now c.requires in
    let run = run_stopped is_printing stops agree v (stops_of v) long
    (chunk-fits w8 c.args.at 16 c.args.bytes.now c.type_inv.bytes) (stops_are v long) (omega arith) in
    record { run = run; few = run_few is_printing v _ long run }
