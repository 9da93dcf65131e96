-- The lines of a client that is bound are those that it may write.
use Rattle.std.proofs.Common.{All, ℕ, Bool, List, [], ◌∷◌, Option, Result, sym, subst}
use Rattle.std.specs.List.{flat_map}
use Rattle.std.proofs.lemmas.List.Concat.{flat_map-cons}
use Rattle.std.proofs.lemmas.List.Elements.{All-append, All-cons, All-head, All-nil, All-tail}
use Rattle.qplain.specs.declared.call_fault.CallFault.{CallFault}
use Rattle.qplain.specs.declared.line.Line.{Line}
use Rattle.qplain.specs.declared.receipt.Receipt.{Receipt}
use Rattle.qrun_client.specs.declared.client.ClientEnd.{ClientEnd}
use Rattle.qtext_client.specs.Conversations.{Exchange, Had, IsTalk, IsToldOf, handed_out, lines_said}
use Rattle.qtext_client.specs.Terms.{Binding, MayWrite}
use Rattle.qtext_client.specs.declared.response.Response.{Response}
use Rattle.qtext_client.specs.declared.response.Response.TheVariants.{Answer, Fault, NoMemory}
use Rattle.qtext_client.proofs.Said.{said_may}

-- a line that was handed out is one that the client may write
handed_bound : (bound : Option Binding) (had : Had) (text : List ℕ) (response : Response) → IsToldOf bound had text response
    → All (MayWrite bound) (handed_out text response)
handed_bound bound had text (Answer answer) (line, says, may) =
    subst (λ script. All (MayWrite bound) (lines_said script)) (sym says) (All-cons (MayWrite bound) line [] may (All-nil (MayWrite bound)))
handed_bound bound had text (Fault fault) is = All-nil (MayWrite bound)
handed_bound bound had text NoMemory is = All-nil (MayWrite bound)

-- so are all
all_handed : (bound : Option Binding) (had : Had) (exchanges : List Exchange) → All (λ e. IsToldOf bound had e.text e.response) exchanges
    → All (MayWrite bound) (flat_map (λ e. handed_out e.text e.response) exchanges)
all_handed bound had [] each = All-nil (MayWrite bound)
all_handed bound had (e ∷ exchanges) each =
    let Told : Exchange → Type 0 = λ e. IsToldOf bound had e.text e.response in
    subst (All (MayWrite bound)) (sym (flat_map-cons (λ e. handed_out e.text e.response) e exchanges))
    (All-append (MayWrite bound) (handed_out e.text e.response) _ (handed_bound bound had e.text e.response (All-head Told e exchanges each))
    (all_handed bound had exchanges (All-tail Told e exchanges each)))

pub bound_lines : (clocked : Bool) (bound : Option Binding) (had : Had) (hears : Option (List ℕ)) (lines : List Line)
    (answers : List (Result Receipt CallFault)) (end : ClientEnd) → IsTalk clocked bound had hears lines answers end → All (MayWrite bound) lines
bound_lines clocked bound had hears lines answers end talk =
    said_may clocked bound lines _ talk.lines_are (all_handed bound had talk.exchanges talk.each)
