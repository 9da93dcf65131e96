use Rattle.std.proofs.Common.{arith, rules, ◌<◌, ◌≤◌, replicate, sym}
use Rattle.std.proofs.lemmas.List.{drop-replicate, take-replicate}
use Rattle.qtext.proofs.Fronts.{partly_on, partly_then, passes_refused}
use Rattle.qtext.proofs.HexPieces.{first_piece}
use Rattle.qtext_write.proofs.data_text.put_equal.Goals as goal

pub returns-in_err-put_all-clause-passes : goal.returns-in_err-put_all-clause-passes
returns-in_err-put_all-clause-passes g c =
    let more : 256 < c.loop-left.left = c.loop-left-test.true in
    passes_refused _ _ _ _ _ _ _ _ _ c.from_residual.ensures.0 c.loop-left.invariant.written
    (rw c.digits.ensures.text at c.in_err-put_all.ensures.passes)
    (rw (take-replicate 256 c.loop-left.left c.args.byte (omega (arith, more))) at (first_piece 256 c.loop-left.line (replicate c.loop-left.left c.args.byte)))

pub loop-left-preserved : goal.loop-left-preserved
loop-left-preserved g c =
    let more : 256 < c.loop-left.left = c.loop-left-test.true in
    record {
      room = search rules;
      written = rw (sym (drop-replicate 256 c.loop-left.left c.args.byte))
          (partly_then _ _ _ _ _ _ (rw (first_piece 256 c.loop-left.line (replicate c.loop-left.left c.args.byte)) at c.loop-left.invariant.written)
          (partly_on _ _ _ _ _
          (rw (c.digits.ensures.text, sym (take-replicate 256 c.loop-left.left c.args.byte (omega (arith, more))))
          at c.in_ok-put_all.ensures.passes)));
    }

pub returns-clause-passes : goal.returns-clause-passes
returns-clause-passes g c =
    let few : c.loop-left.left ≤ 256 = c.loop-left-test.false in
    rw (c.digits-2.ensures.text, take-replicate c.loop-left.left 256 c.args.byte few) c.loop-left.invariant.written
