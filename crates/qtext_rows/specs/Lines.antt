-- The lines of transcripts as objects, one a line (profile).
use Rattle.std.specs.Prelude.{ℕ, ◌+◌, Bool, List, [], ◌∷◌, ◌++◌, Option, Some, None, Result, codes, decimal, length}
use Rattle.std.specs.Prelude.{if◌then◌else◌}
use Rattle.std.specs.List.{concat, flat_map}
use Rattle.qplain.specs.declared.call.Call.{Call}
use Rattle.qplain.specs.declared.call.Call.TheVariants.{Write}
use Rattle.qplain.specs.declared.call_fault.CallFault.{CallFault}
use Rattle.qplain.specs.declared.line.Line.{Line}
use Rattle.qplain.specs.declared.receipt.Receipt.{Receipt}
use Rattle.qplain.specs.declared.transcript.Transcript.{Transcript}
use Rattle.qtext_outcome.specs.Calls.{repeated}
use Rattle.qtext_rows.specs.Calls.{call_members, caller_members, fill_members}
use Rattle.qtext_rows.specs.Replies.{answer_members}
use Rattle.qtext_rows.specs.Values.{member, object_start}

-- whose line it is, and its place in the script
abbrev pub line_start : ℕ → ℕ → List ℕ
line_start worker place = concat (object_start (codes "line") ∷ member (codes "worker") (decimal worker)
    ∷ member (codes "line") (decimal place) ∷ [])

-- a write, which is told as a fill where all of more than 32 bytes are equal
abbrev pub shown_write : List ℕ → ℕ → List ℕ → Option ℕ → List ℕ
shown_write path off bytes None = call_members (Write path off bytes)
shown_write path off bytes (Some byte) = fill_members path off (length bytes) byte

-- a call as it is shown
abbrev pub shown_call_member : Call → List ℕ
shown_call_member (Write path off bytes) = shown_write path off bytes (repeated bytes)
shown_call_member call = call_members call

-- the moment, the caller and the call of a line
abbrev pub asked_members : Line → List ℕ
asked_members l = caller_members l.moment l.cred ++ shown_call_member l.call

-- a line's object: whose it is, what it asked for where calls are to be shown, and what it was answered
abbrev pub line_object : Bool → ℕ → ℕ → Line → Result Receipt CallFault → List ℕ
line_object calls worker place l answer =
    line_start worker place ++ ((if calls then asked_members l else []) ++ answer_members answer)

-- the objects of the lines from this place on
unfoldable pub line_objects : Bool → ℕ → ℕ → List Line → List (Result Receipt CallFault) → List ℕ
line_objects calls worker place (l ∷ ls) (answer ∷ answers) =
    line_object calls worker place l answer ++ line_objects calls worker (place + 1) ls answers
line_objects calls worker place [] answers = []
line_objects calls worker place (l ∷ ls) [] = []

-- the objects of a transcript's lines
abbrev pub transcript_objects : Bool → Transcript → List ℕ
transcript_objects calls t = line_objects calls t.worker 1 t.lines t.answers

-- those of all transcripts, one after the other
abbrev pub transcripts_objects : Bool → List Transcript → List ℕ
transcripts_objects calls ts = flat_map (transcript_objects calls) ts
