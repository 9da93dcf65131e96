-- What comes of clients of streams.
use Rattle.std.proofs.Common.{◌≡◌, ◌⊎◌, inl, inr, ℕ, Bool, ◌+◌, ◌≤◌, ◌&&◌, List, [], ◌∷◌, ◌++◌, length, Option, Some, None, IfSome, IsSome, Result, Ok, Err, refl, sym, ap, subst, ◌∙◌, append-nil, length-append, arith}
use Rattle.std.proofs.lemmas.List.Elements.{All-nil}
use Rattle.qplain.specs.declared.call_fault.CallFault.{CallFault}
use Rattle.qplain.specs.declared.line.Line.{Line}
use Rattle.qplain.specs.declared.receipt.Receipt.{Receipt}
use Rattle.qrun_client.specs.Clients.{ComesOf, GoesOn, IsAnswered, in_form}
use Rattle.qrun_client.specs.declared.client.ClientEnd.{ClientEnd}
use Rattle.qrun_client.specs.declared.client.ClientEnd.TheVariants.{Served}
use Rattle.qrun_replay.specs.declared.failed_line.FailedLine.{FailedLine}
use Rattle.qtext_files.specs.Scripts.{script_of}
use Rattle.qtext_client.proofs.Said.{answered_behind, answered_said}
use Rattle.qtext_client.specs.Conversations.{AreFirstLines, ComesTo, Had, IsToldOf, Progress, StaysThere, TalksOn, comes_to, had_behind, lines_said, what_is_said}
use Rattle.qtext_client.specs.Hearings.{IsToldAlone, SaysAlone}
use Rattle.qtext_client.specs.Responses.{has_failed, response_text}
use Rattle.qtext_client.specs.Terms.{Binding, IsSpent, StaysWithin, behind, behind_all}
use Rattle.qtext_client.specs.Wires.{HasEnded, HasLetGo, Hears, IsGone, IsToldLast, Stays, TellsNothing, Wire}
use Rattle.qtext_client.specs.declared.response.BadLine.TheVariants.{Text, Length, OtherCaller, Depth, Share}
use Rattle.qtext_client.specs.declared.response.Response.{Response}
use Rattle.qtext_client.specs.declared.response.Response.TheVariants.{Answer, Fault, NoMemory}
use Rattle.qtext_client.specs.declared.terms.Allowance.{Allowance}
use Rattle.qtext_client.proofs.Spending.{spent_later}
use Rattle.qtext_client.proofs.Talking.{ends_by, has_ended_so, heard_so, no_end, none_told, stays_so, told_so}

-- an answer in its own form
pub in_own_form : (answer : Result Receipt CallFault) → in_form (λ receipt. receipt) answer ≡ answer
in_own_form (Ok receipt) = refl
in_own_form (Err fault) = refl

-- what has been used up by then is used up later
abbrev HasMore : Had → Had → Type 0
HasMore had later = (had.lines ≤ later.lines) × (IsSpent had.left → IsSpent later.left)

-- what may be told of a line of a client that has had so much may be told where it has had more
told_later : (bound : Option Binding) (had later : Had) (text : List ℕ) (response : Response) → HasMore had later
    → IsToldOf bound had text response → IsToldOf bound later text response
told_later bound had later text (Answer answer) more is = is
told_later bound had later text (Fault (Text kind)) more (inl says) = inl says
told_later bound had later text (Fault (Text kind)) more (inr full) = inr (full.0, omega (arith, more.0, full.1))
told_later bound had later text (Fault Length) more is = is
told_later bound had later text (Fault OtherCaller) more is = is
told_later bound had later text (Fault Depth) more is = is
told_later bound had later text (Fault Share) more is = more.1 is
told_later bound had later text NoMemory more is = is

-- a line that is answered while something is left stands before those that are answered later
within_first : (share : Option Allowance) (line : Line) (answer : Result Receipt CallFault) (more : List Line) (further : List (Result Receipt CallFault))
    (lines : List Line) (answers : List (Result Receipt CallFault)) → lines ≡ line ∷ more → answers ≡ answer ∷ further → (IsSpent share → ⊥)
    → StaysWithin (behind share line answer) more further → StaysWithin share lines answers
unfolding StaysWithin
within_first share line answer more further lines answers lines_are answers_are some later =
    subst (λ l. StaysWithin share l answers) (sym lines_are) (subst (StaysWithin share (line ∷ more)) (sym answers_are) (some, later))

module _ {S : Type 0} (clocked : Bool) (took : S → Option (List ℕ)) (p q : Progress) where
  -- a step of a client that is owed nothing, which hands out no line
  step_of : (new : Wire) → p.owed ≡ None → q ≡ record p { wire = new }
      → ((lines : List Line) (answers : List (Result Receipt CallFault)) (wrote : Option (List ℕ)) (end : ClientEnd)
      → ComesTo clocked (record p { owed = None; wire = new }) lines answers wrote end → ComesTo clocked (record p { owed = None }) lines answers wrote end)
      → ComesOf (comes_to clocked took p) (comes_to clocked took q)
  step_of new none stays step lines answers left comes =
      subst (λ o. comes_to clocked took (record p { owed = o }) lines answers left) (sym none)
      (step lines answers (took left.streams) left.end
      (subst (λ x. comes_to clocked took x lines answers left) (stays ∙ (λ i. record p { owed = none i; wire = new })) comes))

  -- what it has had in all, said before its answer was kept and behind that
  had_one_more : (line : Line) (answer : Result Receipt CallFault) (stand : Result ℕ FailedLine) (lines : List Line)
      (answers : List (Result Receipt CallFault))
      → had_behind (record p { stands = p.stands ++ stand ∷ []; share = behind p.share line answer }) lines answers
      ≡ had_behind p (line ∷ lines) (answer ∷ answers)
  unfolding behind_all
  had_one_more line answer stand lines answers =
      let many : length (p.stands ++ stand ∷ []) + length lines ≡ length p.stands + length (line ∷ lines)
      = omega (arith, length-append p.stands (stand ∷ [])) in
      λ i. record { lines = many i; left = behind_all (behind p.share line answer) lines answers }

  -- the streams were opened, or were not to be had
  pub begun : (new : Wire) → p.owed ≡ None → q ≡ record p { wire = new } → Stays p.wire new ⊎ HasEnded p.wire new
      → ComesOf (comes_to clocked took p) (comes_to clocked took q)
  begun new none stays began = step_of new none stays (λ lines answers wrote end comes. elim began [
    | inl same ↦ stays_so p.stops clocked p.bound p.share wrote end lines answers _ p.wire new same comes
    | inr ended ↦ has_ended_so p.stops clocked p.bound p.share wrote end lines answers _ p.wire new ended comes
  ])

  -- a line was heard, and then this was told of it
  pub told_one : (mid : Progress) (new : Wire) (text : List ℕ) (response : Response) → p.owed ≡ None → mid ≡ record p { wire = new } → StaysThere mid q
      → Hears p.wire new text → IsToldLast (mid.stops && has_failed response) mid.wire q.wire (response_text response)
      → IsToldAlone p.bound (had_behind p [] []) text response → ComesOf (comes_to clocked took p) (comes_to clocked took q)
  unfolding behind_all
  told_one mid new text response none before stays hears is_told alone =
      step_of q.wire none (stays ∙ (λ i. record (before i) { wire = q.wire })) (λ lines answers wrote end comes.
      heard_so p.stops clocked p.bound p.share wrote end lines answers _ p.wire new text response lines answers p.share [] hears
      (told_later p.bound (had_behind p [] []) (had_behind p lines answers) text response
      (omega arith, spent_later p.share lines answers) alone.is)
      (ap (what_is_said clocked) (sym alone.nothing)) refl
      (ap (λ l. l ++ answers) (sym alone.none)) comes.within
      (told_so p.stops clocked p.bound p.share wrote end lines answers _ _ new q.wire response refl hears.still.1
      (subst (λ m. IsToldLast (m.stops && has_failed response) m.wire q.wire (response_text response)) before is_told) comes))

  -- a line was heard and handed out
  pub handed_one : (new : Wire) (text : List ℕ) (line : Line) → p.owed ≡ None → q ≡ record p { owed = Some line; wire = new } → Hears p.wire new text
      → SaysAlone clocked p.bound line (script_of text) → (IsSpent p.share → ⊥) → ComesOf (comes_to clocked took p) (comes_to clocked took q)
  handed_one new text line none is hears (said, says, may, same) some lines answers left comes =
      let (first, answer, more, further, lines_are, answers_are, asked, goes) = subst (λ x. comes_to clocked took x lines answers left) is comes in
      subst (λ o. comes_to clocked took (record p { owed = o }) lines answers left) (sym none)
      (heard_so p.stops clocked p.bound p.share (took left.streams) left.end lines answers _ p.wire new text (Answer answer) more further
      (behind p.share first answer) (first ∷ []) hears (said, says, may)
      (answered_said clocked line first answer asked ∙ same ∙ ap (λ s. what_is_said clocked (lines_said s)) (sym says)) lines_are answers_are
      (within_first p.share first answer more further lines answers lines_are answers_are some goes.within) goes)

  -- it was kept where an answer stands, and then the answer was told
  pub answered_one : (mid : Progress) (asked line : Line) (answer : Result Receipt CallFault) (stand : Result ℕ FailedLine) → p.owed ≡ Some asked
      → IsAnswered clocked asked line answer → p.wire.end ≡ None
      → mid ≡ record p { stands = p.stands ++ stand ∷ []; share = behind p.share asked answer; owed = None } → StaysThere mid q
      → IsToldLast (mid.stops && has_failed (Answer answer)) mid.wire q.wire (response_text (Answer answer))
      → GoesOn line answer (comes_to clocked took p) (comes_to clocked took q)
  answered_one mid asked line answer stand owed given still kept stays is_told lines answers left comes =
      let behind_it = answered_behind clocked p.share asked line answer given in
      let kept_so = kept ∙ (λ i. record p { stands = p.stands ++ stand ∷ []; share = sym behind_it i; owed = None }) in
      subst (λ o. comes_to clocked took (record p { owed = o }) (line ∷ lines) (answer ∷ answers) left) (sym owed) (
        line,
        answer,
        lines,
        answers,
        refl,
        refl,
        given,
        told_so p.stops clocked p.bound (behind p.share line answer) (took left.streams) left.end lines answers _ _ p.wire q.wire (Answer answer)
            (had_one_more line answer stand lines answers) still
            (subst (λ m. IsToldLast (m.stops && has_failed (Answer answer)) m.wire q.wire (response_text (Answer answer))) kept_so is_told)
            (subst (λ x. comes_to clocked took x lines answers left) (stays ∙ (λ i. record (kept_so i) { wire = q.wire })) comes),
      )

-- of a client that has ended and is owed nothing nothing more comes
pub taken_apart : (clocked : Bool) (p : Progress) (new : Wire) (wrote : Option (List ℕ)) (end : ClientEnd) → p.owed ≡ None → HasEnded p.wire new
    → new.hears ≡ Some [] → new.end ≡ Some end → new.wrote ≡ wrote → ComesTo clocked p [] [] wrote end
unfolding AreFirstLines StaysWithin
taken_apart clocked p new wrote end none ended deaf ends took =
    let had = had_behind p [] [] in
    let nothing : TalksOn p.stops clocked p.bound p.share had new wrote end [] [] [] = record {
      talk = record {
        exchanges = [];
        rest = [];
        each = All-nil (λ e. IsToldOf p.bound had e.text e.response);
        lines_are = refl;
        answers_are = refl;
        heard = subst (λ h. IfSome h (λ bytes. AreFirstLines bytes [] [])) (sym deaf) refl;
        all_heard = λ served. refl;
      };
      within = tt;
      at_failure = λ is. none_told;
      written = λ other. held wrote took;
      ended = subst (λ e. IfSome e (λ x. x ≡ end)) (sym ends) refl;
    } in
    subst (λ o. ComesTo clocked (record p { owed = o }) [] [] wrote end) (sym none)
    (has_ended_so p.stops clocked p.bound p.share wrote end [] [] had p.wire new ended nothing)
  where
    held : (known : Option (List ℕ)) → new.wrote ≡ known → IfSome known (λ bytes. (before : List ℕ) × (new.wrote ≡ Some before) × (bytes ≡ before ++ []))
    held None is = tt
    held (Some bytes) is = (bytes, is, sym (append-nil bytes))

-- it was let go of other than where its lines have ended
pub let_go : (end : ClientEnd) (old new : Wire) → (end ≡ Served → ⊥) → HasLetGo end old new → HasEnded old new
let_go end old new other (inl gone) = (end, inl (ends_by end old new other gone))
let_go end old new other (inr before) = (end, inr before)

nothing_before : (old mid new : Option (List ℕ)) → TellsNothing old mid → TellsNothing mid new → TellsNothing old new
nothing_before old mid None first second = tt
nothing_before old mid (Some bytes) first second = subst (λ m. IfSome m (λ b. old ≡ Some b)) second first

-- what was told was let out, and then the client was let go of before its lines had ended
pub gone_after : (end : ClientEnd) (old mid new : Wire) → (end ≡ Served → ⊥) → (Stays old mid × (old.end ≡ None)) ⊎ (mid ≡ old)
    → HasLetGo end mid new → IsGone old new
gone_after end old mid new other (inl (stays, none)) (inl gone) = (
  end,
  other,
  inl (record {
    still = none;
    ends = gone.ends;
    deaf = gone.deaf;
    wrote = λ is. nothing_before old.wrote mid.wrote new.wrote stays.wrote (gone.wrote is);
  }),
)
gone_after end old mid new other (inl (stays, none)) (inr before) = absurd (no_end (subst IsSome (stays.ends ∙ none) before.0))
gone_after end old mid new other (inr same) gone = (end, other, subst (λ w. HasLetGo end w new) same gone)
