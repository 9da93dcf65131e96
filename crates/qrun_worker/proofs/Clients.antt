-- One more line of a client, which is not answered yet, and then its answer.
use Rattle.std.proofs.Common.{◌≡◌, ℕ, ◌≤◌, List, [], ◌∷◌, ◌++◌, length, Result, refl, sym, ap, subst, ◌∙◌, length-append, arith}
use Rattle.qplain.specs.declared.call_fault.CallFault.{CallFault}
use Rattle.qplain.specs.declared.entry.Entry.{Entry}
use Rattle.qplain.specs.declared.line.Line.{Line}
use Rattle.qplain.specs.declared.receipt.Receipt.{Receipt}
use Rattle.qplain.specs.Journal.{entries_of}
use Rattle.qplain.specs.Transcripts.{journaled_line, journaled_lines}
use Rattle.qrun_worker.specs.Work.{AreAnswers, IsSubsequence}
use Rattle.qrun_worker.proofs.Owning.{none_answered}

-- lines that are not answered yet stand for nothing
not_yet : (worker : ℕ) (lines more : List Line) (answers : List (Result Receipt CallFault)) → length answers ≤ length lines
    → journaled_lines worker (lines ++ more) answers ≡ journaled_lines worker lines answers
unfolding journaled_lines
not_yet worker [] more [] few = none_answered worker more
not_yet worker [] more (a ∷ answers) few = absurd (omega (arith, few))
not_yet worker (l ∷ lines) more [] few = refl
not_yet worker (l ∷ lines) more (a ∷ answers) few =
    ap (λ rest. journaled_line worker l a ++ rest) (not_yet worker lines more answers (omega (arith, few)))

-- the answers to the lines before are those to the first lines of these
pub one_line_more : (worker : ℕ) (lines after : List Line) (line : Line) (seen : List Entry) (calls : ℕ)
    (answers : List (Result Receipt CallFault)) → after ≡ lines ++ line ∷ []
    → AreAnswers worker lines seen calls answers → AreAnswers worker after seen calls answers
one_line_more worker lines after line seen calls answers is so_far =
    let same : journaled_lines worker (lines ++ line ∷ []) answers ≡ journaled_lines worker lines answers =
    not_yet worker lines (line ∷ []) answers so_far.few in
    subst (λ ls. AreAnswers worker ls seen calls answers) (sym is) (record {
      few = omega (arith, length-append lines (line ∷ []), so_far.few);
      full = so_far.full;
      low = so_far.low;
      own = subst (λ told. IsSubsequence told (entries_of seen worker)) (sym same) so_far.own;
      counted = so_far.counted ∙ ap length (sym same);
    })
