-- Where answers stand, as one more comes.
use Rattle.std.proofs.Common.{◌≡◌, suc, ◌≤◌, List, [], ◌∷◌, ◌++◌, length, Result, refl, ap, arith}
use Rattle.qplain.specs.declared.call_fault.CallFault.{CallFault}
use Rattle.qplain.specs.declared.line.Line.{Line}
use Rattle.qplain.specs.declared.receipt.Receipt.{Receipt}
use Rattle.qrun_replay.specs.Places.{stand_at}
use Rattle.qrun_client.specs.Clients.{place_of}
use Rattle.qrun_worker.specs.Work.{stands_of}

-- no answer stands anywhere
pub none_stands : (lines : List Line) → stands_of lines [] ≡ []
unfolding stands_of
none_stands [] = refl
none_stands (line ∷ lines) = refl

-- each stands somewhere
pub as_many_stand : (lines : List Line) (answers : List (Result Receipt CallFault)) → length answers ≤ length lines
    → length (stands_of lines answers) ≡ length answers
unfolding stands_of
as_many_stand [] [] few = refl
as_many_stand [] (answer ∷ answers) few = absurd (omega (arith, few))
as_many_stand (line ∷ lines) [] few = refl
as_many_stand (line ∷ lines) (answer ∷ answers) few = ap suc (as_many_stand lines answers (omega (arith, few)))

-- more answers stand behind those to the lines before
pub stands_of-append : (lines more : List Line) (answers further : List (Result Receipt CallFault)) → length answers ≡ length lines
    → stands_of (lines ++ more) (answers ++ further) ≡ stands_of lines answers ++ stands_of more further
unfolding stands_of
stands_of-append [] more [] further each = refl
stands_of-append [] more (answer ∷ answers) further each = absurd cc
stands_of-append (line ∷ lines) more [] further each = absurd cc
stands_of-append (line ∷ lines) more (answer ∷ answers) further each =
    ap (λ rest. stand_at line (place_of answer) ∷ rest) (stands_of-append lines more answers further (omega (arith, each)))
