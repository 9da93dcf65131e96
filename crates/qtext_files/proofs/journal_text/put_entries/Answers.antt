use Rattle.qtext.proofs.Fronts.{rows_go_on, rows_refused}
use Rattle.qtext_files.specs.Spelling.{entry_text}
use Rattle.qtext_files.proofs.JournalsWritten.{one_more}
use Rattle.qtext_files.proofs.journal_text.put_entries.Goals as goal

pub loop-entry-preserved : goal.loop-entry-preserved
loop-entry-preserved g c = record {
  written = rows_go_on _ _ _ entry_text _ _ c.entry-item.result _ c.entry-item.is c.loop-entry.invariant.written
      c.in_ok-put_entry.ensures.writes c.loop-entry-test.true;
  held = one_more _ _ c.entry-item.result _ c.entry-item.is c.loop-entry-test.true c.in_ok-put_entry.ensures.held
      c.loop-entry.invariant.held;
}

pub returns-in_err-put_entry-clause-writes : goal.returns-in_err-put_entry-clause-writes
returns-in_err-put_entry-clause-writes g c =
    rows_refused _ _ _ _ entry_text _ _ c.entry-item.result _ c.entry-item.is c.from_residual.ensures.0
    c.loop-entry.invariant.written c.in_err-put_entry.ensures.writes c.loop-entry-test.true
