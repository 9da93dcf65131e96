-- What a client is told, as text.
use Rattle.std.specs.Prelude.{◌≡◌, Bool, true, false, List, [], ◌∷◌, ℕ, codes, Result, is_err, ⊤}
use Rattle.std.specs.List.{concat}
use Rattle.qplain.specs.declared.call_fault.CallFault.{CallFault}
use Rattle.qplain.specs.declared.receipt.Receipt.{Receipt}
use Rattle.qtext.specs.TextFaults.{text_kind_words}
use Rattle.qtext_write.specs.Answers.{answer_text}
use Rattle.qtext_client.specs.declared.response.BadLine.{BadLine}
use Rattle.qtext_client.specs.declared.response.BadLine.TheVariants.{Text, Length, OtherCaller, Depth, Share}
use Rattle.qtext_client.specs.declared.response.Response.{Response}
use Rattle.qtext_client.specs.declared.response.Response.TheVariants.{Answer, Fault, NoMemory}

-- the words that name what is wrong with a line
abbrev pub bad_line_words : BadLine → List ℕ
bad_line_words (Text kind) = text_kind_words kind
bad_line_words Length = codes "line length"
bad_line_words OtherCaller = codes "caller"
bad_line_words Depth = codes "path depth"
bad_line_words Share = codes "share"

-- the line that a client is told
abbrev pub response_text : Response → List ℕ
response_text (Answer answer) = answer_text answer
response_text (Fault fault) = concat (codes "- fault " ∷ bad_line_words fault ∷ codes "\n" ∷ [])
response_text NoMemory = codes "- failed OutOfMemory\n"

-- the line has failed: it is in no journal, though it may be a line of a script
abbrev pub has_failed : Response → Bool
has_failed (Answer answer) = is_err answer
has_failed (Fault fault) = false
has_failed NoMemory = true

-- where a line has failed, none is told of after it
unfoldable pub EndsAtFailure : List Response → Type 0
EndsAtFailure [] = ⊤
EndsAtFailure (response ∷ later) = (has_failed response ≡ true → later ≡ []) × EndsAtFailure later

-- the answers that a response holds: one or none
abbrev pub answers_in : Response → List (Result Receipt CallFault)
answers_in (Answer answer) = answer ∷ []
answers_in (Fault fault) = []
answers_in NoMemory = []
