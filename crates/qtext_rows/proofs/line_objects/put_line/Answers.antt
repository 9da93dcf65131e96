use Rattle.std.proofs.Common.{[], ◌++◌}
use Rattle.std.specs.Prelude.{if◌then◌else◌}
use Rattle.qtext_rows.specs.Replies.{answer_members}
use Rattle.qtext_rows.specs.Lines.{asked_members, line_start}
use Rattle.qtext.proofs.Fronts.{refused_first}
use Rattle.qtext_rows.proofs.line_objects.put_line.Goals as goal

pub returns-in_err-put_start : goal.returns-in_err-put_start
returns-in_err-put_start g c = refused_first _ _ _ (line_start c.args.worker c.args.place)
    ((if c.args.calls then asked_members c.args.line.now else []) ++ answer_members c.args.answer) c.from_residual.ensures.0 c.in_err-put_start.ensures
