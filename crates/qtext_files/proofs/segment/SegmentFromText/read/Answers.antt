use Rattle.qtext_files.proofs.SegmentsAgain.{segment_read_again}
use Rattle.qtext_files.proofs.SegmentsFound.{segment_read_found}
use Rattle.qtext_files.proofs.segment.SegmentFromText.read.Goals as goal

pub returns : goal.returns
returns c =
    let exact = c.segment_in.ensures in
    let found = segment_read_found c.args.text.now _ exact in
    record { exact = exact; spelled = found.0; held = found.1; again = segment_read_again c.args.text.now _ exact }
