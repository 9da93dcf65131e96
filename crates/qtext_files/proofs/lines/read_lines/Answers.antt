use Rattle.std.proofs.Common.{◌+◌, ◌∷◌, [], ◌∙◌, ap, inr, length, sym, arith, rules}
use Rattle.std.proofs.lemmas.List.{length-append}
use Rattle.qtext_files.specs.RawLines.{in_line}
use Rattle.qtext.proofs.Loops.{goes_on, ends, is_done}
use Rattle.qtext_files.proofs.RawLines.{no_line_of, told_err, told_ok}
use Rattle.qtext_files.proofs.lines.read_lines.Goals as goal

pub returns-in-Err-Fault-clause-lines : goal.returns-in-Err-Fault-clause-lines
returns-in-Err-Fault-clause-lines g c =
    rw c.in-Err-Fault.field-0-is
    (inr (ends (λ l. in_line l.number (g.R.ReadLine.says c.args.reader.now l)) c.loop-rest.items.items _ _ _ _ _
    (told_err _ _ _ (sym (c.loop-rest.invariant.same _) ∙ (rw c.in-Err-Fault.field-0-is at c.in-Err-Fault.ensures.reads)))
    (c.in-Ok.ensures.first (c.loop-rest.number + 1)) c.loop-rest.invariant.reads))

pub loop-rest-preserved : goal.loop-rest-preserved
loop-rest-preserved g c =
    let added = c.in-Ok-read.ensures.reads in
    let longer = ap length added.2 ∙ length-append c.loop-rest.items.items (added.0 ∷ []) in
    record {
      few = rw c.loop-rest.invariant.most at c.in-Ok-read.ensures.few;
      count = omega (arith, longer, c.loop-rest.items.ok.0, c.read.new.items.ok.0, c.loop-rest.invariant.count);
      same = λ l. c.in-Ok-read.ensures.same l ∙ c.loop-rest.invariant.same l;
      most = c.in-Ok-read.ensures.same_most ∙ c.loop-rest.invariant.most;
      reads = rw added.2
          (goes_on (λ l. in_line l.number (g.R.ReadLine.says c.args.reader.now l)) c.loop-rest.items.items _ _ _ _ _
          (told_ok _ _ _ (sym (c.loop-rest.invariant.same _) ∙ added.1))
          (c.in-Ok.ensures.first (c.loop-rest.number + 1)) c.loop-rest.invariant.reads);
    }

pub returns-clause-lines : goal.returns-clause-lines
returns-clause-lines g c = rw c.new.ensures
    (is_done (λ l. in_line l.number (g.R.ReadLine.says c.args.reader.now l)) c.loop-rest.items.items _ _
    (no_line_of (c.loop-rest.number + 1) c.loop-rest.rest.now (search rules)) c.loop-rest.invariant.reads)
