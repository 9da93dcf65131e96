-- On which terms a client is served that is bound to a caller: who it is, and what it may take of the service.
use Rattle.std.specs.Prelude.{◌≡◌, ◌⊎◌, ◌≤◌, ◌+◌, ◌-◌, ℕ, nat_eq, List, [], ◌∷◌, ⊤}
use Rattle.std.specs.Prelude.{All, filter, length, map, sum, Option, Some, None, option_map, Result, Ok, Err}
use Rattle.qplain.specs.Caller.{Caller}
use Rattle.qplain.specs.Calls.{paths_of}
use Rattle.qplain.specs.declared.call.Call.{Call}
use Rattle.qplain.specs.declared.call.Call.TheVariants.{Write}
use Rattle.qplain.specs.declared.call_fault.CallFault.{CallFault}
use Rattle.qplain.specs.declared.line.Line.{Line}
use Rattle.qplain.specs.declared.receipt.Receipt.{Receipt}
use Rattle.qplain.specs.declared.reply.Reply.{Reply}
use Rattle.qplain.specs.declared.reply.Reply.TheVariants.{Bytes}
use Rattle.qtext_client.specs.declared.response.BadLine.{BadLine}
use Rattle.qtext_client.specs.declared.response.BadLine.TheVariants.{OtherCaller, Depth}
use Rattle.qtext_client.specs.declared.terms.Allowance.{Allowance}
use Rattle.qtext_client.specs.declared.terms.Terms.{Terms}

-- to whom a client is bound, and how many components a path of its lines has at most
pub record Binding : Type 0 where
  pub caller : Caller
  pub depth : ℕ

-- the binding in terms
abbrev pub binding_of : Terms → Binding
binding_of terms = record { caller = terms.caller.now; depth = terms.depth }

-- a path has a component behind each slash
abbrev pub components : List ℕ → ℕ
components path = length (filter (λ byte. nat_eq byte 47) path)

-- a line is one of the caller to whom a client is bound
abbrev pub IsOfCaller : Option Binding → Line → Type 0
IsOfCaller None line = ⊤
IsOfCaller (Some binding) line = line.cred ≡ binding.caller

-- no path of a line has more components than a client that is bound may ask for
abbrev pub IsShallow : Option Binding → Line → Type 0
IsShallow None line = ⊤
IsShallow (Some binding) line = All (λ path. components path ≤ binding.depth) (paths_of line.call)

-- a client that is bound so may write this line
abbrev pub MayWrite : Option Binding → Line → Type 0
MayWrite binding line = IsOfCaller binding line × IsShallow binding line

-- a client that is bound so may not write this line, for this cause: its caller comes first
abbrev pub MayNotWrite : Option Binding → Line → BadLine → Type 0
MayNotWrite binding line OtherCaller = IsOfCaller binding line → ⊥
MayNotWrite binding line Depth = IsOfCaller binding line × (IsShallow binding line → ⊥)
MayNotWrite binding line fault = ⊥

-- how many bytes a call writes
abbrev pub bytes_written : Call → ℕ
bytes_written (Write path off bytes) = length bytes
bytes_written call = 0

-- how many bytes a reply has that were read
abbrev pub bytes_read : Reply → ℕ
bytes_read (Bytes bytes) = length bytes
bytes_read reply = 0

-- how many bytes the answer to a line holds
abbrev pub bytes_answered : Result Receipt CallFault → ℕ
bytes_answered (Ok receipt) = bytes_read receipt.reply
bytes_answered (Err fault) = 0

-- how many bytes a call holds: its paths, and what it writes
abbrev pub bytes_called : Call → ℕ
bytes_called call = sum (map (λ path. length path) (paths_of call)) + bytes_written call

-- what is left of a share once this call was answered so
abbrev pub allowance_after : Allowance → Call → Result Receipt CallFault → Allowance
allowance_after share call answer = record {
  calls = share.calls - 1;
  bytes = share.bytes - (bytes_called call + bytes_answered answer);
}

-- a client that has this share, where it has one, has used it up
abbrev pub IsSpent : Option Allowance → Type 0
IsSpent None = ⊥
IsSpent (Some share) = (share.calls ≡ 0) ⊎ (share.bytes ≡ 0)

-- what is left of it behind a line and its answer
abbrev pub behind : Option Allowance → Line → Result Receipt CallFault → Option Allowance
behind share line answer = option_map (λ s. allowance_after s line.call answer) share

-- what is left of it behind lines and their answers
unfoldable pub behind_all : Option Allowance → List Line → List (Result Receipt CallFault) → Option Allowance
behind_all share [] answers = share
behind_all share (line ∷ lines) [] = share
behind_all share (line ∷ lines) (answer ∷ answers) = behind_all (behind share line answer) lines answers

-- each line was answered while there was something left
unfoldable pub StaysWithin : Option Allowance → List Line → List (Result Receipt CallFault) → Type 0
StaysWithin share [] answers = ⊤
StaysWithin share (line ∷ lines) [] = ⊤
StaysWithin share (line ∷ lines) (answer ∷ answers) = (IsSpent share → ⊥)
    × StaysWithin (behind share line answer) lines answers
