-- What the receipts of transcripts stand for.
use Rattle.std.specs.Prelude.{ℕ, List, [], ◌∷◌, ◌++◌, map, Contains, Result, Ok, Err}
use Rattle.qplain.specs.declared.call_fault.CallFault.{CallFault}
use Rattle.qplain.specs.declared.entry.Entry.{Entry}
use Rattle.qplain.specs.declared.line.Line.{Line}
use Rattle.qplain.specs.declared.receipt.Receipt.{Receipt}
use Rattle.qplain.specs.declared.transcript.Transcript.{Transcript}
use Rattle.qplain.specs.Journal.{entry_of}

-- the entry that a line's receipt stands for, with its place; a failed line stands for none
abbrev pub journaled_line : ℕ → Line → Result Receipt CallFault → List (ℕ × Entry)
journaled_line worker line (Ok receipt) = (receipt.place, entry_of worker line receipt.reply) ∷ []
journaled_line worker line (Err fault) = []

-- the entries that a worker's receipts stand for, line by line
unfoldable pub journaled_lines : ℕ → List Line → List (Result Receipt CallFault) → List (ℕ × Entry)
journaled_lines worker (line ∷ lines) (answer ∷ answers) =
    journaled_line worker line answer ++ journaled_lines worker lines answers
journaled_lines worker [] answers = []
journaled_lines worker (line ∷ lines) [] = []

-- a transcript is that of the entry's worker
abbrev pub Belongs : List Transcript → Entry → Type 0
Belongs transcripts e = Contains (map (λ t. t.worker) transcripts) e.worker
