use Rattle.std.proofs.Common.{arith, eqb-true, inl, inr, subst, sym}
use Rattle.std.proofs.lemmas.Bool.Decides.{nat_tests}
use Rattle.qtext_client.specs.BoundedLines.{Gets, TakesTurns}
use Rattle.qtext_client.specs.declared.bounded_line.TheConstants.{MAX_LINE}
use Rattle.qtext_client.proofs.LineParts.{at_end, line_longer, line_passed, line_read, more_lost, passed_over, whole_line}
use Rattle.qtext_client.proofs.Paying.{line_paid}
use Rattle.qtext_client.proofs.bounded_line.next_line.Goals as goal

pub loop-preserved : goal.loop-preserved
loop-preserved g c =
    let (goes_on, lost) = more_lost _ _ _ c.loop.invariant.open_yet c.loop.invariant.lost _ _ c.in-More.ensures.takes in
    record { short = c.in-More.ensures.short; open_yet = goes_on; lost = lost; same = c.loop.invariant.same }

pub returns-in-Last-clause-gets : goal.returns-in-Last-clause-gets
returns-in-Last-clause-gets g c =
    let read = line_read _ _ _ _ _ c.loop.invariant.open_yet c.loop.invariant.lost c.in-Last.ensures.takes in
    at_end _ _ read.0 (omega (arith, eqb-true _ _ (sym c.if-is_empty.ensures), c.take_part.new.line.ok))

pub returns-in-Last-2-clause-gets : goal.returns-in-Last-2-clause-gets
returns-in-Last-2-clause-gets g c =
    let read = line_read _ _ _ _ _ c.loop.invariant.open_yet c.loop.invariant.lost c.in-Last-2.ensures.takes in
    record {
      one = whole_line _ _ _ _ c.loop.invariant.open_yet c.in-Last-2.ensures.takes
          (grind (arith, nat_tests, c.if-is_empty.ensures, c.take_part.new.line.ok));
      first = read.0;
      rest = read.1;
    }

pub returns-in-TooLong-clause-gets : goal.returns-in-TooLong-clause-gets
returns-in-TooLong-clause-gets g c =
    let (goes_on, lost) = more_lost _ _ _ c.loop.invariant.open_yet c.loop.invariant.lost _ _ c.in-TooLong.ensures.takes.0 in
    let long = line_longer MAX_LINE _ _ _ c.loop.invariant.open_yet c.loop.invariant.lost c.in-TooLong.ensures.takes.1 in
    let room = c.pass.new.line.items in
    elim c.pass.ensures.over [
      | inl refused ↦ subst (Gets _ _ room) (sym refused) tt
      | inr passed ↦ subst (Gets _ _ room) (sym passed.0) (passed_over MAX_LINE _ _ long (line_passed _ _ _ _ goes_on lost passed.1.rest))
    ]

pub returns-in-TooLong-clause-turns : goal.returns-in-TooLong-clause-turns
returns-in-TooLong-clause-turns g c =
    let (goes_on, lost) = more_lost _ _ _ c.loop.invariant.open_yet c.loop.invariant.lost _ _ c.in-TooLong.ensures.takes.0 in
    let line = c.take_part.new.line in
    let old = g.R.Read.remaining c.args.reader.now in
    let turns = c.args.turns.now in
    let after = c.pass.new.turns in
    elim c.pass.ensures.over [
      | inl refused ↦ subst (λ got. TakesTurns old got turns after) (sym refused) tt
      | inr passed ↦ subst (λ got. TakesTurns old got turns after) (sym passed.0)
          (line_paid old _ line.items _ turns c.loop.turns after goes_on lost line.ok.0 c.loop.invariant.same passed.1.turns)
    ]

pub returns-in-NoMemory-clause-turns : goal.returns-in-NoMemory-clause-turns
returns-in-NoMemory-clause-turns g c =
    let (goes_on, lost) = more_lost _ _ _ c.loop.invariant.open_yet c.loop.invariant.lost _ _ c.in-NoMemory.ensures.takes.0 in
    let line = c.take_part.new.line in
    let old = g.R.Read.remaining c.args.reader.now in
    let turns = c.args.turns.now in
    let after = c.pass-in-NoMemory.new.turns in
    elim c.pass-in-NoMemory.ensures.over [
      | inl refused ↦ subst (λ got. TakesTurns old got turns after) (sym refused) tt
      | inr passed ↦ subst (λ got. TakesTurns old got turns after) (sym passed.0)
          (line_paid old _ line.items _ turns c.loop.turns after goes_on lost line.ok.0 c.loop.invariant.same passed.1.turns)
    ]

pub returns-in-NoMemory-clause-gets : goal.returns-in-NoMemory-clause-gets
returns-in-NoMemory-clause-gets g c =
    let (goes_on, lost) = more_lost _ _ _ c.loop.invariant.open_yet c.loop.invariant.lost _ _ c.in-NoMemory.ensures.takes.0 in
    let some = line_longer 0 _ _ _ c.loop.invariant.open_yet c.loop.invariant.lost c.in-NoMemory.ensures.takes.1 in
    let room = c.pass-in-NoMemory.new.line.items in
    elim c.pass-in-NoMemory.ensures.over [
      | inl refused ↦ subst (Gets _ _ room) (sym refused) tt
      | inr passed ↦ let over = passed_over 0 _ _ some (line_passed _ _ _ _ goes_on lost passed.1.rest) in
          subst (Gets _ _ room) (sym passed.0) (over.0, over.1)
    ]
