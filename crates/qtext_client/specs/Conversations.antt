-- What a client says, line by line, and what it is told of each.
use Rattle.std.specs.Prelude.{◌≡◌, ◌≢◌, ◌≤◌, ◌<◌, ◌+◌, ◌⊎◌, ℕ, Bool, true, false, List, [], ◌∷◌, ◌++◌, length, map, All, ⊤}
use Rattle.std.specs.Prelude.{Option, Some, None, IfSome, Result, Ok, Err}
use Rattle.std.specs.List.{flat_map}
use Rattle.std.specs.Io.BufRead.{drop_through, take_through}
use Rattle.qplain.specs.declared.call_fault.CallFault.{CallFault}
use Rattle.qplain.specs.declared.line.Line.{Line}
use Rattle.qplain.specs.declared.receipt.Receipt.{Receipt}
use Rattle.qtext.specs.declared.text_fault.TextFault.{TextFault}
use Rattle.qtext.specs.declared.text_fault.TextKind.TheVariants.{TooMany}
use Rattle.qtext_files.specs.Scripts.{script_of}
use Rattle.qrun_client.specs.Clients.{IsAnswered}
use Rattle.qrun_replay.specs.declared.failed_line.FailedLine.{FailedLine}
use Rattle.qrun_client.specs.declared.client.ClientEnd.{ClientEnd}
use Rattle.qrun_client.specs.declared.client.ClientEnd.TheVariants.{Served, Output}
use Rattle.qrun_client.specs.declared.client.TheConstants.{MAX_GIVEN}
use Rattle.qtext_client.specs.declared.bounded_line.TheConstants.{MAX_LINE}
use Rattle.qtext_client.specs.declared.response.BadLine.{BadLine}
use Rattle.qtext_client.specs.declared.response.BadLine.TheVariants.{Text, Length, OtherCaller, Depth, Share}
use Rattle.qtext_client.specs.declared.response.Response.{Response}
use Rattle.qtext_client.specs.declared.response.Response.TheVariants.{Answer, Fault, NoMemory}
use Rattle.qtext_client.specs.Responses.{EndsAtFailure, answers_in, response_text}
use Rattle.qtext_client.specs.Terms.{Binding, IsSpent, MayNotWrite, MayWrite, StaysWithin, behind, behind_all}
use Rattle.qtext_client.specs.declared.terms.Allowance.{Allowance}
use Rattle.qtext_client.specs.Wires.{GrowsBy, Wire}
use Rattle.qtext_client.specs.declared.connection.EndedClient.{EndedClient}

-- the text of a client's line, with its line end, and what the client was told of it
pub record Exchange : Type 0 where
  pub text : List ℕ
  pub response : Response

-- a script has one line, of which this holds
abbrev pub HasOne : (Line → Type 0) → Result (List Line) TextFault → Type 0
HasOne Holds script = (line : Line) × (script ≡ Ok (line ∷ [])) × Holds line

-- what a client has had in all: how many lines it handed out, and what is left of its share, where it has one
pub record Had : Type 0 where
  pub lines : ℕ
  pub left : Option Allowance

-- a client that is bound so, and has had this in all, may be told this fault of a line of this text
abbrev pub IsLineFaultOf : Option Binding → Had → List ℕ → BadLine → Type 0
IsLineFaultOf bound had text (Text kind) = (script_of text ≡ Err (record { line = 1; kind = kind }))
    ⊎ ((kind ≡ TooMany) × (MAX_GIVEN ≤ had.lines))
IsLineFaultOf bound had text Length = MAX_LINE < length text
IsLineFaultOf bound had text OtherCaller = HasOne (λ line. MayNotWrite bound line OtherCaller) (script_of text)
IsLineFaultOf bound had text Depth = HasOne (λ line. MayNotWrite bound line Depth) (script_of text)
IsLineFaultOf bound had text Share = IsSpent had.left

-- it may be told this of it: an answer to the one line that it says, which it may write, its fault, or that memory was
-- wanting
abbrev pub IsToldOf : Option Binding → Had → List ℕ → Response → Type 0
IsToldOf bound had text (Answer answer) = HasOne (MayWrite bound) (script_of text)
IsToldOf bound had text (Fault fault) = IsLineFaultOf bound had text fault
IsToldOf bound had text NoMemory = ⊤

-- the lines that a script says, none where it has a fault
abbrev pub lines_said : Result (List Line) TextFault → List Line
lines_said (Ok lines) = lines
lines_said (Err fault) = []

-- the line that was handed out, which is so where an answer was told
abbrev pub handed_out : List ℕ → Response → List Line
handed_out text (Answer answer) = lines_said (script_of text)
handed_out text (Fault fault) = []
handed_out text NoMemory = []

-- these are the first lines of the bytes, each with its line end, which the last of all may lack; and that is the rest
unfoldable pub AreFirstLines : List ℕ → List (List ℕ) → List ℕ → Type 0
AreFirstLines bytes [] rest = rest ≡ bytes
AreFirstLines bytes (text ∷ texts) rest = (text ≡ take_through 10 bytes) × (0 < length text)
    × AreFirstLines (drop_through 10 bytes) texts rest

-- a line without its moment
abbrev pub timeless : Line → Line
timeless line = record line { moment = 0 }

-- what is said by lines: all, or, where a clock tells their moments, all but these
abbrev pub what_is_said : Bool → List Line → List Line
what_is_said true lines = map timeless lines
what_is_said false lines = lines

-- a client that is bound so, and has had this in all, has said lines one after the other, and was told something of
-- each, in their order: these are the lines that it handed out, but for their moments where a clock tells them, and the
-- answers that it was told; where the bytes of its input are known, its lines are the first of them, and all of them
-- where it was served
pub record IsTalk (clocked : Bool) (bound : Option Binding) (had : Had) (hears : Option (List ℕ)) (lines : List Line)
    (answers : List (Result Receipt CallFault)) (end : ClientEnd) : Type 0 where
  pub exchanges : List Exchange
  pub rest : List ℕ
  pub each : All (λ e. IsToldOf bound had e.text e.response) exchanges
  pub lines_are : what_is_said clocked lines
      ≡ what_is_said clocked (flat_map (λ e. handed_out e.text e.response) exchanges)
  pub answers_are : answers ≡ flat_map (λ e. answers_in e.response) exchanges
  pub heard : IfSome hears (λ bytes. AreFirstLines bytes (map (λ e. e.text) exchanges) rest)
  pub all_heard : end ≡ Served → rest ≡ []

-- how far a client is: whether it stops at a failed line, to whom it is bound, what is left of its share, where the
-- answers that it was told stand, the line that it is still owed an answer to, and what is known of its streams
pub record Progress : Type 0 where
  pub stops : Bool
  pub bound : Option Binding
  pub share : Option Allowance
  pub stands : List (Result ℕ FailedLine)
  pub owed : Option Line
  pub wire : Wire

-- it has handed out nothing and was told no answer, whatever has come of its streams
abbrev pub StaysThere : Progress → Progress → Type 0
StaysThere old new = new ≡ record old { wire = new.wire }

-- a client that has had this in all is told this first, and then talks on: each line is answered while something is
-- left of this share; where it stops at a failed line none is told of after that; and where its output tells its bytes
-- and has refused nothing, they grew by the text of all
pub record TalksOn (stops clocked : Bool) (bound : Option Binding) (share : Option Allowance) (had : Had) (wire : Wire)
    (wrote : Option (List ℕ)) (end : ClientEnd) (first : List Response) (lines : List Line)
    (answers : List (Result Receipt CallFault)) : Type 0 where
  pub talk : IsTalk clocked bound had wire.hears lines answers end
  pub within : StaysWithin share lines answers
  pub at_failure : stops ≡ true → EndsAtFailure (first ++ map (λ e. e.response) talk.exchanges)
  pub written : end ≢ Output
      → GrowsBy wire.wrote wrote (flat_map response_text (first ++ map (λ e. e.response) talk.exchanges))
  pub ended : IfSome wire.end (λ e. e ≡ end)

-- so it goes on behind the line that is owed an answer, where one is: it is the first of the lines, as it is answered,
-- its answer is the first of the answers, and that is told first, and taken from the share
abbrev pub GoesOnBehindOwed : Bool → Option Line
    → (Option Allowance → List Response → List Line → List (Result Receipt CallFault) → Type 0) → Option Allowance
    → List Line → List (Result Receipt CallFault) → Type 0
GoesOnBehindOwed clocked None Goes share lines answers = Goes share [] lines answers
GoesOnBehindOwed clocked (Some asked) Goes share lines answers = (line : Line) × (answer : Result Receipt CallFault)
    × (more : List Line) × (further : List (Result Receipt CallFault)) × (lines ≡ line ∷ more)
    × (answers ≡ answer ∷ further) × IsAnswered clocked asked line answer
    × Goes (behind share line answer) (Answer answer ∷ []) more further

-- what a client has had once these lines are answered so
abbrev pub had_behind : Progress → List Line → List (Result Receipt CallFault) → Had
had_behind p lines answers = record {
  lines = length p.stands + length lines;
  left = behind_all p.share lines answers;
}

-- what comes of a client from now on: these are the lines whose answers are still to come, all those of a new one, and
-- these the answers
abbrev pub ComesTo : Bool → Progress → List Line → List (Result Receipt CallFault) → Option (List ℕ) → ClientEnd
    → Type 0
ComesTo clocked p lines answers wrote end = GoesOnBehindOwed clocked p.owed
    (λ share. TalksOn p.stops clocked p.bound share (had_behind p lines answers) p.wire wrote end) p.share lines answers

-- so it is with a client of streams whose outputs, once let go of, took these bytes
abbrev pub comes_to : {S : Type 0} → Bool → (S → Option (List ℕ)) → Progress → List Line
    → List (Result Receipt CallFault) → EndedClient S → Type 0
comes_to clocked took p lines answers left = ComesTo clocked p lines answers (took left.streams) left.end
