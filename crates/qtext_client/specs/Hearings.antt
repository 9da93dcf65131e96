-- What came of a text of one line. No public clause cites this module.
use Rattle.std.specs.Prelude.{◌≡◌, Bool, true, false, ℕ, List, [], ◌∷◌, Option, Result, Ok, Err, ⊤}
use Rattle.qplain.specs.declared.line.Line.{Line as ScriptLine}
use Rattle.qtext.specs.declared.text_fault.TextFault.{TextFault}
use Rattle.qtext_client.specs.declared.stream_client.Heard.{Heard}
use Rattle.qtext_client.specs.declared.stream_client.Heard.TheVariants.{Line, None as NoLine, End}
use Rattle.qtext_client.specs.declared.stream_client.Step.{Step}
use Rattle.qtext_client.specs.declared.stream_client.Step.TheVariants.{HandedOut, Told, Ended}
use Rattle.qtext_client.specs.declared.response.BadLine.{BadLine}
use Rattle.qtext_client.specs.declared.response.BadLine.TheVariants.{Text, Length, OtherCaller, Depth, Share}
use Rattle.qtext_client.specs.declared.response.Response.{Response}
use Rattle.qtext_client.specs.declared.response.Response.TheVariants.{Answer, Fault, NoMemory}
use Rattle.qtext_files.specs.Scripts.{script_of}
use Rattle.qtext_client.specs.Conversations.{Had, HasOne, IsToldOf, handed_out, what_is_said}
use Rattle.qtext_client.specs.Responses.{answers_in}
use Rattle.qtext_client.specs.Terms.{Binding, IsSpent, MayNotWrite, MayWrite}
use Rattle.qtext_client.specs.Wires.{HasEnded, Hears, Wire}

-- a line of a script came
abbrev pub IsLine : Heard → Type 0
IsLine (Line line) = ⊤
IsLine (NoLine response) = ⊥
IsLine End = ⊥

-- the fault is the one that the script says, or its line is none that a client may write that is bound so
abbrev pub IsFaultIn : Option Binding → Result (List ScriptLine) TextFault → BadLine → Type 0
IsFaultIn bound said (Text kind) = said ≡ Err (record { line = 1; kind = kind })
IsFaultIn bound said Length = ⊥
IsFaultIn bound said OtherCaller = HasOne (λ line. MayNotWrite bound line OtherCaller) said
IsFaultIn bound said Depth = HasOne (λ line. MayNotWrite bound line Depth) said
IsFaultIn bound said Share = ⊥

-- what is told of a line that is not handed out, by what the script says that has this line alone
abbrev pub IsSaidIn : Option Binding → Result (List ScriptLine) TextFault → Response → Type 0
IsSaidIn bound said (Answer answer) = ⊥
IsSaidIn bound said (Fault fault) = IsFaultIn bound said fault
IsSaidIn bound said NoMemory = ⊤

-- a script says a line alone, which it may write, and this is the line, but for its moment where a clock tells that
abbrev pub SaysAlone : Bool → Option Binding → ScriptLine → Result (List ScriptLine) TextFault → Type 0
SaysAlone clocked bound line script = (said : ScriptLine) × (script ≡ Ok (said ∷ [])) × MayWrite bound said
    × (what_is_said clocked (line ∷ []) ≡ what_is_said clocked (said ∷ []))

-- the line, or the fault in it, is what the script says that has this line alone, and it may write the line
abbrev pub HearsText : Bool → Option Binding → Heard → Result (List ScriptLine) TextFault → Type 0
HearsText clocked bound (Line line) script = SaysAlone clocked bound line script
HearsText clocked bound (NoLine response) script = IsSaidIn bound script response
HearsText clocked bound End script = ⊥

-- this may be told of a line of this text that is not handed out
pub record IsToldAlone (bound : Option Binding) (had : Had) (text : List ℕ) (response : Response) : Type 0 where
  pub is : IsToldOf bound had text response
  pub nothing : handed_out text response ≡ []
  pub none : answers_in response ≡ []

-- what came of a line of a client that is bound so, and has had this so far
abbrev pub HearsLine : Bool → Option Binding → Had → Wire → Wire → Heard → Type 0
HearsLine clocked bound had old new (Line line) = (text : List ℕ) × Hears old new text
    × SaysAlone clocked bound line (script_of text) × (IsSpent had.left → ⊥)
HearsLine clocked bound had old new (NoLine response) = (text : List ℕ) × Hears old new text
    × IsToldAlone bound had text response
HearsLine clocked bound had old new End = HasEnded old new

-- a line is handed out
abbrev pub is_handed_out : Step → Bool
is_handed_out HandedOut = true
is_handed_out Told = false
is_handed_out Ended = false
