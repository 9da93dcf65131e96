use Rattle.std.proofs.Common.{ap}
use Rattle.qtext.proofs.Fronts.{refused_first, writes_then}
use Rattle.qtext_read.specs.Spelling.{caller_text}
use Rattle.qtext_rows.specs.Calls.{caller_members}
use Rattle.qtext_rows.specs.Lines.{shown_call_member}
use Rattle.qtext_rows.proofs.line_objects.put_asked.Goals as goal

pub returns-in_err-put_caller_members : goal.returns-in_err-put_caller_members
returns-in_err-put_caller_members g c =
    refused_first _ _ _ (caller_members c.args.line.now.moment c.args.line.now.cred)
    (shown_call_member c.args.line.now.call) c.from_residual.ensures.0
    (rw (c.moment.ensures, ap caller_text c.cred.ensures) at c.in_err-put_caller_members.ensures)

pub returns : goal.returns
returns g c = writes_then _ _ _ _ (caller_members c.args.line.now.moment c.args.line.now.cred)
    (shown_call_member c.args.line.now.call)
    (rw (c.moment.ensures, ap caller_text c.cred.ensures) at c.in_ok-put_caller_members.ensures)
    (rw c.call.ensures at c.put_shown_call.ensures)
