use Rattle.std.proofs.Common.{Some, ap, subst, sym, ◌∙◌}
use Rattle.qtext_files.specs.Scripts.{script_of}
use Rattle.qsession.specs.Holdings.{holding_of}
use Rattle.qsession.specs.Steps.{holding_after}
use Rattle.qsession_text.specs.Lines.{MakesCall, only_line}
use Rattle.qsession_text.proofs.Answering.{told-reply}
use Rattle.qsession_text.proofs.line.answer_line.Goals as goal

pub returns-then-told-ne0-clause-line : goal.returns-then-told-ne0-clause-line
returns-then-told-ne0-clause-line c =
    let put = c.put_text-told in
    let at = c.in-Ok-ready in
    told-reply (holding_of c.args.kept.now) (holding_of c.ready.new.self) (script_of c.args.text.now) c.in-Ok.line at.reply c.deref.result.now
    put.new.buffer put.new.len put.result c.in-Ok.ensures at.ensures.full.1 c.ready.ensures.same at.ensures.ready.reply_is
    (c.deref.ensures.value ∙ c.in-Ok-reply_line.ensures) put.ensures

pub returns-clause-line : goal.returns-clause-line
returns-clause-line c =
    let put = c.put_text-told in
    let at = c.in-Ok-ready in
    told-reply (holding_of c.args.kept.now) (holding_of c.ready.new.self) (script_of c.args.text.now) c.in-Ok.line at.reply c.deref.result.now
    put.new.buffer put.new.len put.result c.in-Ok.ensures at.ensures.full.1 c.ready.ensures.same at.ensures.ready.reply_is
    (c.deref.ensures.value ∙ c.in-Ok-reply_line.ensures) put.ensures

pub returns-clause-made : goal.returns-clause-made
returns-clause-made c zero =
    let line = c.in-Ok.line in
    let step = c.commit.ensures line c.in-Ok-ready.reply c.in-Ok-ready.ensures.ready in
    subst (λ only. MakesCall (Some (holding_of c.args.kept.now)) (Some (holding_of c.commit.new.self)) only)
    (sym (ap only_line c.in-Ok.ensures)) (ap Some (step.held ∙ ap (λ h. holding_after h line) c.ready.ensures.same))
