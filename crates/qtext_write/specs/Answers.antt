-- Answers as text (profile): what a worker was answered to a line.
use Rattle.std.specs.Prelude.{ℕ, List, [], ◌∷◌, ◌++◌, codes, decimal, Result, Ok, Err}
use Rattle.std.specs.List.{concat}
use Rattle.qplain.specs.declared.call_fault.CallFault.{CallFault}
use Rattle.qplain.specs.declared.call_fault.CallFault.TheVariants.{JournalFull, OutOfMemory}
use Rattle.qplain.specs.declared.receipt.Receipt.{Receipt}
use Rattle.qtext_read.specs.Replies.{reply_text}

-- the word of a call that is not journaled
abbrev pub call_fault_text : CallFault → List ℕ
call_fault_text JournalFull = codes "JournalFull"
call_fault_text OutOfMemory = codes "OutOfMemory"

-- the place that the line of an answer begins with
abbrev pub place_text : ℕ → List ℕ
place_text place = concat (decimal place ∷ codes " " ∷ [])

-- the line of an answer: the place and the reply, or a dash and why the call is not journaled
abbrev pub answer_text : Result Receipt CallFault → List ℕ
answer_text (Ok receipt) = place_text receipt.place ++ reply_text receipt.reply ++ codes "\n"
answer_text (Err fault) = concat (codes "- failed " ∷ call_fault_text fault ∷ codes "\n" ∷ [])
