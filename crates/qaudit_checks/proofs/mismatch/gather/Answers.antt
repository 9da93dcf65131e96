use Rattle.std.proofs.Common.{◌+◌, sym, subst, refl, arith}
use Rattle.qaudit_checks.specs.FirstMismatch.{IsFirstMismatch}
use Rattle.qaudit_checks.proofs.Mismatches.{found-first, found-next, gathered, mismatch, not-gathered}
use Rattle.qaudit_checks.proofs.Receipts.{looked-at}
use Rattle.qaudit_checks.proofs.mismatch.gather.Goals as goal

pub loop-transcript-init : goal.loop-transcript-init
loop-transcript-init c = found-first c.args.entries.now c.args.transcripts.now _ c.first_strange-first.ensures

pub loop-transcript-preserved : goal.loop-transcript-preserved
loop-transcript-preserved c =
    let index = c.loop-transcript.transcript-index in
    let here = looked-at c.args.transcripts.now index c.transcript-item.result _ c.transcript-item.is c.loop-transcript-test.true in
    subst (IsFirstMismatch c.args.entries.now c.args.transcripts.now (index + 1)) (sym c.earlier_of-first.ensures)
    (found-next c.args.entries.now c.args.transcripts.now index c.transcript-item.result _ _ c.requires.apart here
    c.loop-transcript.invariant c.first_other.ensures)

pub returns-in-None-clause-ok : goal.returns-in-None-clause-ok
returns-in-None-clause-ok c = (
  λ yes. gathered c.args.entries.now c.args.transcripts.now c.loop-transcript.transcript-index c.loop-transcript.first c.loop-transcript.invariant
      (omega (arith, c.loop-transcript-test.false, c.loop-transcript.auto.transcript-index-end)) c.in-None.is,
  λ all. refl,
)

pub returns-in-Some-clause-ok : goal.returns-in-Some-clause-ok
returns-in-Some-clause-ok c = (
  λ yes. absurd cc,
  λ all. absurd (not-gathered c.args.entries.now c.args.transcripts.now c.loop-transcript.transcript-index c.in-Some.place
      (subst (IsFirstMismatch c.args.entries.now c.args.transcripts.now c.loop-transcript.transcript-index) c.in-Some.is c.loop-transcript.invariant) all),
)

pub returns-in-Some-clause-err : goal.returns-in-Some-clause-err
returns-in-Some-clause-err c =
    mismatch c.args.entries.now c.args.transcripts.now c.loop-transcript.transcript-index c.in-Some.place
    (subst (IsFirstMismatch c.args.entries.now c.args.transcripts.now c.loop-transcript.transcript-index) c.in-Some.is c.loop-transcript.invariant)
    (omega (arith, c.loop-transcript-test.false, c.loop-transcript.auto.transcript-index-end)) c.requires.apart
