use Rattle.std.proofs.Common.{◌≤◌, ◌<◌, ◌+◌, ◌∙◌, Some, sym, ap, subst, arith, length}
use Rattle.qaudit_checks.specs.FirstMismatch.{AreSeenAnswers, IsNextReceipt}
use Rattle.qaudit_checks.proofs.Receipts.{first-left, first-none, looked-at, other-seen, own-seen, passed-over, told-over}
use Rattle.qaudit_checks.proofs.answers.first_other.Goals.{then-entry-transcript+else-not-is_next, else-entry-transcript}
use Rattle.qaudit_checks.proofs.answers.first_other.Goals as goal

pub loop-entry-preserved : goal.loop-entry-preserved
loop-entry-preserved c =
    let t = c.args.transcript.now in
    let index = c.loop-entry.entry-index in
    let e = c.entry-item.result in
    let here = looked-at c.args.entries.now index e _ c.entry-item.is c.loop-entry-test.true in
    let seen = c.loop-entry.invariant.1 in (
      ap (λ n. n + 1) c.loop-entry.invariant.0,
      elim c.if-entry-transcript.branch [
        | then-entry-transcript+else-not-is_next w ↦
            let next = w.next_receipt-seen.result in
            let is = subst (λ answers. IsNextReceipt answers c.loop-entry.seen next) c.as_slice-answers.ensures w.next_receipt-seen.ensures in
            let told = told-over t c.as_slice-lines.result.now c.as_slice-answers.result.now next e (index + 1)
            c.as_slice-lines.ensures c.as_slice-answers.ensures
            (w.is_next.ensures.0 w.if-not-is_next.false ∙ ap (λ place. Some (place, e)) c.loop-entry.invariant.0) in
            subst (λ n. AreSeenAnswers c.args.entries.now t (index + 1) n) (sym w.seen-is)
            (own-seen c.args.entries.now t index next e
            (passed-over c.args.entries.now t index c.loop-entry.seen next seen c.requires.each is)
            c.requires.each here w.if-entry-transcript.true is.receipt told)
        | else-entry-transcript w ↦
            subst (λ n. AreSeenAnswers c.args.entries.now t (index + 1) n) (sym w.seen-is)
            (other-seen c.args.entries.now t index c.loop-entry.seen e seen here w.if-entry-transcript.false)
      ],
    )

pub returns-then-next_receipt-answers : goal.returns-then-next_receipt-answers
returns-then-next_receipt-answers c =
    let t = c.args.transcript.now in
    let index = c.loop-entry.entry-index in
    let next = c.next_receipt.result in
    let is = subst (λ answers. IsNextReceipt answers c.loop-entry.seen next) c.as_slice-answers.ensures c.next_receipt.ensures in
    first-left c.args.entries.now t index next c.loop-entry.place
    (passed-over c.args.entries.now t index c.loop-entry.seen next c.loop-entry.invariant.1 c.requires.each is)
    (omega (arith, c.loop-entry-test.false, c.loop-entry.auto.entry-index-end)) c.loop-entry.invariant.0 c.requires.each
    (subst (λ answers. next < length answers) c.as_slice-answers.ensures c.if-next_receipt-answers.true) is.receipt

pub returns : goal.returns
returns c =
    let t = c.args.transcript.now in
    let index = c.loop-entry.entry-index in
    let next = c.next_receipt.result in
    let is = subst (λ answers. IsNextReceipt answers c.loop-entry.seen next) c.as_slice-answers.ensures c.next_receipt.ensures in
    let past = subst (λ answers. length answers ≤ next) c.as_slice-answers.ensures c.if-next_receipt-answers.false in
    first-none c.args.entries.now t index next
    (passed-over c.args.entries.now t index c.loop-entry.seen next c.loop-entry.invariant.1 c.requires.each is)
    (omega (arith, c.loop-entry-test.false, c.loop-entry.auto.entry-index-end)) (omega (arith, past, is.within))
