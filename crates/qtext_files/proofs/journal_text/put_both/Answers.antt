use Rattle.std.specs.Io.KnownBytes.{Appends}
use Rattle.qtext.specs.Written.{AppendsFront}
use Rattle.qtext.proofs.Fronts.{refused_first, writes_then}
use Rattle.qtext_files.proofs.SegmentsAgain.{first_written}
use Rattle.qtext_files.proofs.journal_text.put_both.Goals as goal

pub returns-in_err-put_head-clause-writes : goal.returns-in_err-put_head-clause-writes
returns-in_err-put_head-clause-writes g c = refused_first _ _ _ _ _ c.from_residual.ensures.0
    (first_written (AppendsFront (g.W.Write.contents c.args.out.now) (g.W.Write.contents c.put_head.new.out)) c.args.from _ _ _ _
    c.edition.ensures c.workers.ensures c.in_err-put_head.ensures)

pub returns-clause-writes : goal.returns-clause-writes
returns-clause-writes g c = writes_then _ _ _ _ _ _
    (first_written (Appends (g.W.Write.contents c.args.out.now) (g.W.Write.contents c.put_head.new.out)) c.args.from _ _ _ _
    c.edition.ensures c.workers.ensures c.in_ok-put_head.ensures)
    (rw c.entries-entries.ensures.entries at c.put_entries.ensures.writes)
