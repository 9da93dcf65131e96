-- What lines say, where a clock may tell their moments.
use Rattle.std.proofs.Common.{◌≡◌, All, Bool, true, false, List, [], ◌∷◌, ◌++◌, map, Option, Some, None, Result, Ok, Err, refl, sym, ap, subst, ◌∙◌}
use Rattle.std.proofs.lemmas.List.{map-append}
use Rattle.std.proofs.lemmas.List.Elements.{All-cons, All-head, All-map, All-nil, All-tail}
use Rattle.qplain.specs.declared.call_fault.CallFault.{CallFault}
use Rattle.qplain.specs.declared.line.Line.{Line}
use Rattle.qplain.specs.declared.receipt.Receipt.{Receipt}
use Rattle.qrun_client.specs.Clients.{IsAnswered, place_of}
use Rattle.qrun_replay.specs.Places.{stand_at}
use Rattle.qtext_client.specs.Conversations.{timeless, what_is_said}
use Rattle.qtext_client.specs.Terms.{Binding, MayWrite, behind}
use Rattle.qtext_client.specs.declared.terms.Allowance.{Allowance}

said_append : (clocked : Bool) (xs ys : List Line)
    → what_is_said clocked (xs ++ ys) ≡ what_is_said clocked xs ++ what_is_said clocked ys
said_append true xs ys = map-append timeless xs ys
said_append false xs ys = refl

-- what is said by some lines and then by more
pub said_behind : (clocked : Bool) (first said more rest : List Line) → what_is_said clocked first ≡ what_is_said clocked said
    → what_is_said clocked more ≡ what_is_said clocked rest → what_is_said clocked (first ++ more) ≡ what_is_said clocked (said ++ rest)
said_behind clocked first said more rest is later =
    said_append clocked first more ∙ (λ i. is i ++ later i) ∙ sym (said_append clocked said rest)

-- a line says what it was asked
pub answered_said : (clocked : Bool) (asked line : Line) (answer : Result Receipt CallFault) → IsAnswered clocked asked line answer
    → what_is_said clocked (line ∷ []) ≡ what_is_said clocked (asked ∷ [])
answered_said true asked line (Ok receipt) (given, later, is) = ap (λ l. timeless l ∷ []) is
answered_said false asked line (Ok receipt) (given, same, is) = ap (λ l. l ∷ []) (is ∙ ap (λ m. record asked { moment = m }) same)
answered_said true asked line (Err fault) is = ap (λ l. timeless l ∷ []) is
answered_said false asked line (Err fault) is = ap (λ l. l ∷ []) is

-- it is taken from a share as the line that was asked
pub answered_behind : (clocked : Bool) (share : Option Allowance) (asked line : Line) (answer : Result Receipt CallFault)
    → IsAnswered clocked asked line answer → behind share line answer ≡ behind share asked answer
answered_behind clocked share asked line (Ok receipt) (given, later, is) = ap (λ l. behind share l (Ok receipt)) is
answered_behind clocked share asked line (Err fault) is = ap (λ l. behind share l (Err fault)) is

-- and its answer stands where that line's does
pub answered_stand : (clocked : Bool) (asked line : Line) (answer : Result Receipt CallFault) → IsAnswered clocked asked line answer
    → stand_at asked (place_of answer) ≡ stand_at line (place_of answer)
answered_stand clocked asked line (Ok receipt) given = refl
answered_stand clocked asked line (Err fault) is = ap (λ l. stand_at l (Err fault)) (sym is)

-- lines that say the same but for moments may be written alike
timeless_one : (bound : Option Binding) (line : Line) → MayWrite bound (timeless line) → MayWrite bound line
timeless_one None line may = may
timeless_one (Some binding) line may = may

timeless_may : (bound : Option Binding) (lines : List Line) → All (MayWrite bound) (map timeless lines) → All (MayWrite bound) lines
timeless_may bound [] may = All-nil (MayWrite bound)
timeless_may bound (line ∷ lines) may =
    All-cons (MayWrite bound) line lines (timeless_one bound line (All-head (MayWrite bound) (timeless line) (map timeless lines) may))
    (timeless_may bound lines (All-tail (MayWrite bound) (timeless line) (map timeless lines) may))

timeless_back : (bound : Option Binding) (line : Line) → MayWrite bound line → MayWrite bound (timeless line)
timeless_back None line may = may
timeless_back (Some binding) line may = may

timeless_all : (bound : Option Binding) (lines : List Line) → All (MayWrite bound) lines → All (MayWrite bound) (map timeless lines)
timeless_all bound lines may = All-map (MayWrite bound) timeless lines (λ k d less. timeless_back bound _ (may k d less))

pub said_may : (clocked : Bool) (bound : Option Binding) (lines said : List Line) → what_is_said clocked lines ≡ what_is_said clocked said
    → All (MayWrite bound) said → All (MayWrite bound) lines
said_may true bound lines said is may =
    timeless_may bound lines (subst (All (MayWrite bound)) (sym is) (timeless_all bound said may))
said_may false bound lines said is may = subst (All (MayWrite bound)) (sym is) may
