use Rattle.std.proofs.Common.{◌++◌, List, ℕ, ap, codes, refl}
use Rattle.qtext.proofs.Fronts.{ends_refused, partly_done, partly_on, partly_then, writes_then}
use Rattle.qtext_write.proofs.Behind.{behind, refused_whole}
use Rattle.qtext_read.specs.Spelling.{caller_text}
use Rattle.qtext_write.specs.Answers.{answer_text}
use Rattle.qtext_outcome.specs.Calls.{line_head, shown_call}
use Rattle.qtext_outcome.proofs.CalledLines.{called_joined, head_parts}
use Rattle.qtext_outcome.proofs.called_text.put_called.Goals as goal

pub returns-in_err-put_shown_call : goal.returns-in_err-put_shown_call
returns-in_err-put_shown_call g c =
    refused_whole _ _ _ (line_head c.args.place c.args.line.now) _ _ c.from_residual.ensures.0
    (rw (
      c.call.ensures,
      c.byte-2.ensures.byte,
      c.put_caller.ensures.text,
      ap caller_text c.cred.ensures,
      c.byte.ensures.byte,
      c.field.ensures.text,
      c.moment.ensures,
      c.number.ensures.text,
      c.clear.ensures,
      ← head_parts c.args.place c.args.line.now,
    ) at c.in_err-put_shown_call.ensures.passes)

pub returns-in_err-put_all : goal.returns-in_err-put_all
returns-in_err-put_all g c =
    let head : List ℕ = line_head c.args.place c.args.line.now in
    let call : List ℕ = shown_call c.args.line.now.call in
    let answer : List ℕ = answer_text c.args.answer in
    let passes = rw (
      c.call.ensures,
      c.byte-2.ensures.byte,
      c.put_caller.ensures.text,
      ap caller_text c.cred.ensures,
      c.byte.ensures.byte,
      c.field.ensures.text,
      c.moment.ensures,
      c.number.ensures.text,
      c.clear.ensures,
      ← head_parts c.args.place c.args.line.now,
    ) at c.in_ok-put_shown_call.ensures.passes in
    rw (← called_joined head call (codes " => ") answer)
    (ends_refused _ _ _ _ _ _ _ answer c.from_residual-in_err-put_all.ensures.0
    (partly_on _ _ _ _ answer (behind _ _ head call (codes " => ") _ passes))
    (rw c.text.ensures.text at c.in_err-put_all.ensures.passes) refl)

pub returns : goal.returns
returns g c =
    let head : List ℕ = line_head c.args.place c.args.line.now in
    let call : List ℕ = shown_call c.args.line.now.call in
    let answer : List ℕ = answer_text c.args.answer in
    let passes = rw (
      c.call.ensures,
      c.byte-2.ensures.byte,
      c.put_caller.ensures.text,
      ap caller_text c.cred.ensures,
      c.byte.ensures.byte,
      c.field.ensures.text,
      c.moment.ensures,
      c.number.ensures.text,
      c.clear.ensures,
      ← head_parts c.args.place c.args.line.now,
    ) at c.in_ok-put_shown_call.ensures.passes in
    let all = rw (c.text.ensures.text, c.in_ok-put_all.ensures.none) at c.in_ok-put_all.ensures.passes in
    rw (← called_joined head call (codes " => ") answer)
    (writes_then _ _ _ _ (head ++ (call ++ codes " => ")) answer
    (partly_done _ _ _ (partly_then _ _ _ _ _ _ (behind _ _ head call (codes " => ") _ passes) all)) c.put_answer.ensures)
