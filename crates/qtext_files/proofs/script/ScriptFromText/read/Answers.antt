use Rattle.std.proofs.Common.{arith, inl, sym}
use Rattle.std.proofs.lemmas.Result.{err_from_is_err_and}
use Rattle.qtext_files.specs.RawLines.{in_line, raw_lines}
use Rattle.qtext_files.specs.Scripts.{at_line, script_line_of}
use Rattle.qtext_files.proofs.RawLines.{at_line_is, each_same}
use Rattle.qtext_files.proofs.ScriptsAgain.{script_faulted, script_read_again, script_told}
use Rattle.qtext_files.proofs.ScriptsFound.{script_found}
use Rattle.qtext_files.proofs.script.ScriptFromText.read.Goals as goal

pub returns-in_err-lines-clause-exact : goal.returns-in_err-lines-clause-exact
returns-in_err-lines-clause-exact c =
    let told = rw (each_same (λ l. in_line l.number (script_line_of l)) at_line at_line_is (raw_lines c.args.text.now)) at c.in_err-lines.ensures.lines in
    let fault = err_from_is_err_and c.from_residual.result c.from_residual.ensures.1 in
    rw (fault.1, fault.2) (script_faulted c.args.text.now _ told)

pub returns-in_err-lines-clause-again : goal.returns-in_err-lines-clause-again
returns-in_err-lines-clause-again c =
    let told = rw (each_same (λ l. in_line l.number (script_line_of l)) at_line at_line_is (raw_lines c.args.text.now)) at c.in_err-lines.ensures.lines in
    let fault = err_from_is_err_and c.from_residual.result c.from_residual.ensures.1 in
    rw (fault.1, fault.2) (script_told c.args.text.now _ told)

pub returns-clause-exact : goal.returns-clause-exact
returns-clause-exact c =
    let told = rw (each_same (λ l. in_line l.number (script_line_of l)) at_line at_line_is (raw_lines c.args.text.now)) at c.in_ok-lines.ensures.lines in
    inl (rw c.new-2.ensures (sym told))

pub returns-clause-held : goal.returns-clause-held
returns-clause-held c =
    let told = rw (each_same (λ l. in_line l.number (script_line_of l)) at_line at_line_is (raw_lines c.args.text.now)) at c.in_ok-lines.ensures.lines in
    rw c.new-2.ensures (record { few = omega (arith, c.in_ok-lines.ensures.few); each = script_found c.args.text.now _ told })

pub returns-clause-again : goal.returns-clause-again
returns-clause-again c =
    let told = rw (each_same (λ l. in_line l.number (script_line_of l)) at_line at_line_is (raw_lines c.args.text.now)) at c.in_ok-lines.ensures.lines in
    rw c.new-2.ensures (script_read_again c.args.text.now _ (inl (sym told)))
