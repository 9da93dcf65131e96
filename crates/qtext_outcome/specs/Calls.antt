-- Replies behind the lines of scripts that they answer (profile).
use Rattle.std.specs.Prelude.{ℕ, Bool, ◌+◌, ◌==◌, ◌&&◌, nat_lt, List, [], ◌∷◌, ◌++◌, codes, decimal, length}
use Rattle.std.specs.Prelude.{Option, Some, None, Result, if◌then◌else◌}
use Rattle.std.specs.List.{concat, flat_map, join_with_byte, list_all}
use Rattle.hex.specs.Hex.{encode_lower}
use Rattle.qplain.specs.declared.call.Call.{Call}
use Rattle.qplain.specs.declared.call.Call.TheVariants.{Write}
use Rattle.qplain.specs.declared.call_fault.CallFault.{CallFault}
use Rattle.qplain.specs.declared.line.Line.{Line}
use Rattle.qplain.specs.declared.receipt.Receipt.{Receipt}
use Rattle.qplain.specs.declared.transcript.Transcript.{Transcript}
use Rattle.qtext_read.specs.Spelling.{call_words, caller_text}
use Rattle.qtext_write.specs.Answers.{answer_text}
use Rattle.qtext_outcome.specs.Outcomes.{worker_text}

-- the byte that all of more than 32 bytes are
abbrev pub repeated : List ℕ → Option ℕ
repeated [] = None
repeated (b ∷ bs) = if nat_lt 31 (length bs) && list_all (λ c. c == b) bs then Some b else None

-- a fill as text: its path, its offset, how many bytes it has and their byte
abbrev pub fill_text : List ℕ → ℕ → ℕ → ℕ → List ℕ
fill_text path off count byte =
    join_with_byte 32 (codes "fill" ∷ path ∷ decimal off ∷ decimal count ∷ encode_lower (byte ∷ []) ∷ [])

-- a write as text, which is told as a fill where all of more than 32 bytes are equal
abbrev pub write_text : List ℕ → ℕ → List ℕ → Option ℕ → List ℕ
write_text path off bytes None = join_with_byte 32 (call_words (Write path off bytes))
write_text path off bytes (Some byte) = fill_text path off (length bytes) byte

-- a call as a script may have it
abbrev pub shown_call : Call → List ℕ
shown_call (Write path off bytes) = write_text path off bytes (repeated bytes)
shown_call call = join_with_byte 32 (call_words call)

-- what stands before the call: the line's place in its script, its moment and its caller, with a space behind each
abbrev pub line_head : ℕ → Line → List ℕ
line_head place l =
    concat (decimal place ∷ codes " " ∷ decimal l.moment ∷ codes " " ∷ caller_text l.cred ∷ codes " " ∷ [])

-- such a line and what it was answered
abbrev pub called_text : ℕ → Line → Result Receipt CallFault → List ℕ
called_text place l answer = line_head place l ++ (shown_call l.call ++ (codes " => " ++ answer_text answer))

-- each line from this place on, and what it was answered
unfoldable pub called_lines : ℕ → List Line → List (Result Receipt CallFault) → List ℕ
called_lines place (l ∷ ls) (answer ∷ answers) = called_text place l answer ++ called_lines (place + 1) ls answers
called_lines place [] answers = []
called_lines place (l ∷ ls) [] = []

-- what each line was answered, behind the line where calls are asked for
abbrev pub answers_text : Bool → Transcript → List ℕ
answers_text calls t = if calls then called_lines 1 t.lines t.answers else flat_map answer_text t.answers

-- a worker's number, and that
abbrev pub shown_transcript : Bool → Transcript → List ℕ
shown_transcript calls t = worker_text t.worker ++ answers_text calls t
