-- What is left of a client's share, and what is told of lines that it may not write.
use Rattle.std.proofs.Common.{◌≡◌, inl, inr, List, [], ◌∷◌, Option, Some, None, Result, Ok, arith}
use Rattle.qplain.specs.declared.call_fault.CallFault.{CallFault}
use Rattle.qplain.specs.declared.line.Line.{Line}
use Rattle.qplain.specs.declared.receipt.Receipt.{Receipt}
use Rattle.qtext.specs.declared.text_fault.TextFault.{TextFault}
use Rattle.qtext_client.specs.Hearings.{IsFaultIn}
use Rattle.qtext_client.specs.Terms.{Binding, IsSpent, MayNotWrite, behind, behind_all}
use Rattle.qtext_client.specs.declared.response.BadLine.{BadLine}
use Rattle.qtext_client.specs.declared.response.BadLine.TheVariants.{Text, Length, OtherCaller, Depth, Share}
use Rattle.qtext_client.specs.declared.terms.Allowance.{Allowance}

-- a share that is used up stays so
spent_once : (share : Option Allowance) (line : Line) (answer : Result Receipt CallFault) → IsSpent share → IsSpent (behind share line answer)
spent_once None line answer spent = spent
spent_once (Some share) line answer (inl none) = inl (omega (arith, none))
spent_once (Some share) line answer (inr none) = inr (omega (arith, none))

pub spent_later : (share : Option Allowance) (lines : List Line) (answers : List (Result Receipt CallFault)) → IsSpent share
    → IsSpent (behind_all share lines answers)
unfolding behind_all
spent_later share [] answers spent = spent
spent_later share (line ∷ lines) [] spent = spent
spent_later share (line ∷ lines) (answer ∷ answers) spent =
    spent_later (behind share line answer) lines answers (spent_once share line answer spent)

-- what is wrong with the one line that a script says is a fault in it
pub refused_in : (bound : Option Binding) (line : Line) (said : Result (List Line) TextFault) (fault : BadLine) → MayNotWrite bound line fault
    → said ≡ Ok (line ∷ []) → IsFaultIn bound said fault
refused_in bound line said (Text kind) may_not says = absurd may_not
refused_in bound line said Length may_not says = absurd may_not
refused_in bound line said OtherCaller may_not says = (line, says, may_not)
refused_in bound line said Depth may_not says = (line, says, may_not)
refused_in bound line said Share may_not says = absurd may_not
