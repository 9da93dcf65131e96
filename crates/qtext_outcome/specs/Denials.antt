-- Lines that were refused or failed, and how many there are of each kind.
use Rattle.std.specs.Prelude.{ℕ, ◌==◌, List, [], ◌∷◌, codes, decimal, length, if◌then◌else◌}
use Rattle.std.specs.Prelude.{Result, Ok, Err, All, ◌≡◌}
use Rattle.std.specs.List.{concat, filter, flat_map, sum_by}
use Rattle.qplain.specs.CallFaults.{call_fault_number}
use Rattle.qplain.specs.Numbers.{refusal_number}
use Rattle.qplain.specs.declared.call_fault.CallFault.{CallFault}
use Rattle.qplain.specs.declared.receipt.Receipt.{Receipt}
use Rattle.qplain.specs.declared.reply.Reply.{Reply}
use Rattle.qplain.specs.declared.reply.Reply.TheVariants.{Refused}
use Rattle.qplain.specs.declared.transcript.Transcript.{Transcript}

-- the number of a reply's refusal, and 0 where it is none
abbrev pub refused_number : Reply → ℕ
refused_number (Refused refusal) = refusal_number refusal
refused_number _ = 0

-- the number of an answer's refusal or fault, and 0 where the call was done
abbrev pub denial_number : Result Receipt CallFault → ℕ
denial_number (Ok receipt) = refused_number receipt.reply
denial_number (Err fault) = call_fault_number fault

-- no line of a transcript was refused or failed
abbrev pub IsDone : Transcript → Type 0
IsDone t = All (λ answer. denial_number answer ≡ 0) t.answers

-- how many lines of a transcript were answered with this number
abbrev pub denied_in : ℕ → Transcript → ℕ
denied_in number t = length (filter (λ answer. denial_number answer == number) t.answers)

-- how many lines of all transcripts were
abbrev pub denied : ℕ → List Transcript → ℕ
denied number ts = sum_by (denied_in number) ts

-- the kinds of refusals and faults by their numbers, each with its words in a transcript
abbrev pub denials : List (ℕ × List ℕ)
denials = (1, codes "refused EINVAL") ∷ (2, codes "refused ENAMETOOLONG") ∷ (3, codes "refused ENOENT")
    ∷ (4, codes "refused ENOTDIR") ∷ (5, codes "refused EEXIST") ∷ (6, codes "refused ENOSPC")
    ∷ (7, codes "refused EDQUOT") ∷ (8, codes "refused EISDIR") ∷ (9, codes "refused EACCES")
    ∷ (10, codes "refused EFBIG") ∷ (11, codes "refused EPERM") ∷ (12, codes "refused EMLINK")
    ∷ (13, codes "refused ENOTEMPTY") ∷ (14, codes "refused EBUSY") ∷ (15, codes "refused ESRCH")
    ∷ (20, codes "failed JournalFull") ∷ (21, codes "failed OutOfMemory") ∷ []

-- the line of a kind: how many lines it has and its words, and nothing where it has none
abbrev pub denial_line : ℕ → List ℕ → List ℕ
denial_line count words = if count == 0 then []
    else concat (codes "quotafs: " ∷ decimal count ∷ codes " " ∷ words ∷ codes "\n" ∷ [])

-- a line for each of these kinds that some line of the transcripts has
abbrev pub kinds_text : List Transcript → List (ℕ × List ℕ) → List ℕ
kinds_text ts kinds = flat_map (λ kind. denial_line (denied kind.0 ts) kind.1) kinds

-- a line for each kind that some line of the transcripts has
abbrev pub denials_text : List Transcript → List ℕ
denials_text ts = kinds_text ts denials
