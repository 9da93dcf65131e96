-- What comes of a client, step by step.
use Rattle.std.proofs.Common.{◌≡◌, All, inl, inr, ℕ, Bool, true, false, ◌&&◌, List, [], ◌∷◌, ◌++◌, length, map, Option, Some, None, IfSome, IsSome, Result, refl, sym, ap, subst, ◌∙◌, append_assoc, arith}
use Rattle.std.specs.List.{flat_map}
use Rattle.std.proofs.lemmas.List.Elements.{All-cons}
use Rattle.qplain.specs.declared.call_fault.CallFault.{CallFault}
use Rattle.qplain.specs.declared.line.Line.{Line}
use Rattle.qplain.specs.declared.receipt.Receipt.{Receipt}
use Rattle.qrun_client.specs.declared.client.ClientEnd.{ClientEnd}
use Rattle.qrun_client.specs.declared.client.ClientEnd.TheVariants.{Output, Served}
use Rattle.qtext_client.specs.BoundedLines.{Passes}
use Rattle.qtext_client.specs.Conversations.{AreFirstLines, Exchange, Had, IsToldOf, TalksOn, handed_out, what_is_said}
use Rattle.qtext_client.specs.Responses.{EndsAtFailure, answers_in, has_failed, response_text}
use Rattle.qtext_client.specs.Terms.{Binding, StaysWithin}
use Rattle.qtext_client.specs.Wires.{EndsBy, GrowsBy, HasEnded, Hears, IsGoneIf, IsToldLast, LetsGo, Stays, StaysKnown, TellsNothing, Wire}
use Rattle.qtext_client.specs.declared.response.Response.{Response}
use Rattle.qtext_client.specs.declared.terms.Allowance.{Allowance}
use Rattle.qtext_client.proofs.Said.{said_behind}

pub no_end : IsSome {T = ClientEnd} None → ⊥
no_end some = absurd cc

-- nothing has no lines
no_exchanges : (exchanges : List Exchange) (rest : List ℕ) → AreFirstLines [] (map (λ e. e.text) exchanges) rest → exchanges ≡ []
unfolding AreFirstLines
no_exchanges [] rest are = refl
no_exchanges (e ∷ exchanges) rest (is, some, more) = absurd (omega (arith, some, ap length is))

-- where no line was heard all is the rest, which is nothing where that was all
unheard : (hears : Option (List ℕ)) → (rest : List ℕ) × IfSome hears (λ bytes. AreFirstLines bytes [] rest) × (IfSome hears (λ bytes. bytes ≡ []) → rest ≡ [])
unfolding AreFirstLines
unheard None = ([], tt, λ all. refl)
unheard (Some bytes) = (bytes, refl, λ all. all)

-- one line more was heard before
more_heard : (old new : Option (List ℕ)) (text : List ℕ) (texts : List (List ℕ)) (rest : List ℕ) → Passes old new text
    → IfSome new (λ bytes. AreFirstLines bytes texts rest) → IfSome old (λ bytes. AreFirstLines bytes (text ∷ texts) rest)
unfolding AreFirstLines
more_heard None new text texts rest passes heard = tt
more_heard (Some xs) new text texts rest passes heard =
    (passes.first, passes.one.1, subst (λ n. IfSome n (λ bytes. AreFirstLines bytes texts rest)) passes.rest heard)

heard_before : (old new : Option (List ℕ)) (texts : List (List ℕ)) (rest : List ℕ) → StaysKnown old new
    → IfSome new (λ bytes. AreFirstLines bytes texts rest) → IfSome old (λ bytes. AreFirstLines bytes texts rest)
heard_before None new texts rest stays heard = tt
heard_before (Some xs) new texts rest stays heard = subst (λ n. IfSome n (λ bytes. AreFirstLines bytes texts rest)) stays heard

-- what is still known of an output has grown by what it grew by after the step
grew_before : (old mid new : Option (List ℕ)) (text : List ℕ) → TellsNothing old mid → GrowsBy mid new text → GrowsBy old new text
grew_before old mid None text nothing grew = tt
grew_before old mid (Some bytes) text nothing (before, is, grown) =
    (before, subst (λ m. IfSome m (λ b. old ≡ Some b)) is nothing, grown)

grew_more : (old mid new : Option (List ℕ)) (part text : List ℕ) → GrowsBy old mid part → GrowsBy mid new text → GrowsBy old new (part ++ text)
grew_more old mid None part text tells grew = tt
grew_more old mid (Some bytes) part text tells (middle, is, grown) =
    let told = subst (λ m. IfSome m (λ b. (before : List ℕ) × (old ≡ Some before) × (b ≡ before ++ part))) is tells in
    (told.0, told.1, grown ∙ ap (λ b. b ++ text) told.2 ∙ append_assoc told.0 part text)

-- it was let go of other than where its lines have ended
pub ends_by : (end : ClientEnd) (old new : Wire) → (end ≡ Served → ⊥) → LetsGo end old new → EndsBy end old new
ends_by end old new other gone =
    record { still = gone.still; ends = gone.ends; deaf = gone.deaf; wrote = gone.wrote; all = λ served. absurd (other served) }

-- who has ended is as it was
stays_gone : (last : Bool) (old new : Wire) → IsGoneIf last old new → IsSome old.end → new ≡ old
stays_gone true old new (by, other, inl gone) some = absurd (no_end (subst IsSome gone.still some))
stays_gone true old new (by, other, inr before) some = before.1
stays_gone false old new same some = same

-- where it is told nothing else, any response may be the last
one_told : (response : Response) (later : List Response) → (has_failed response ≡ true → later ≡ []) → EndsAtFailure later
    → EndsAtFailure (response ∷ later)
unfolding EndsAtFailure
one_told response later last ends = (last, ends)

pub none_told : EndsAtFailure []
unfolding EndsAtFailure
none_told = tt

module _ (stops clocked : Bool) (bound : Option Binding) (share : Option Allowance) (wrote : Option (List ℕ)) (end : ClientEnd) (lines : List Line)
    (answers : List (Result Receipt CallFault)) where
  -- what comes of a client that is told this first
  abbrev Talks : Had → Wire → List Response → Type 0
  Talks had wire first = TalksOn stops clocked bound share had wire wrote end first lines answers

  not_ended : (e : Option ClientEnd) → e ≡ None → IfSome e (λ x. x ≡ end)
  not_ended e none = subst (λ e. IfSome e (λ x. x ≡ end)) (sym none) tt

  -- what comes of it with these streams is what came of it with others
  abbrev talks_so : (given n : Had) (old new : Wire) (first second : List Response) (rest : List ℕ) → given ≡ n → (comes : Talks given new first)
      → IfSome old.hears (λ bytes. AreFirstLines bytes (map (λ e. e.text) comes.talk.exchanges) rest) → (end ≡ Served → rest ≡ [])
      → (stops ≡ true → EndsAtFailure (second ++ map (λ e. e.response) comes.talk.exchanges))
      → ((end ≡ Output → ⊥) → GrowsBy old.wrote wrote (flat_map response_text (second ++ map (λ e. e.response) comes.talk.exchanges)))
      → IfSome old.end (λ e. e ≡ end) → Talks n old second
  talks_so given n old new first second rest same comes heard all stops written ended = record {
    talk = record {
      exchanges = comes.talk.exchanges;
      rest = rest;
      each = subst (λ m. All (λ e. IsToldOf bound m e.text e.response) comes.talk.exchanges) same comes.talk.each;
      lines_are = comes.talk.lines_are;
      answers_are = comes.talk.answers_are;
      heard = heard;
      all_heard = all;
    };
    within = comes.within;
    at_failure = stops;
    written = written;
    ended = ended;
  }

  -- it has ended, and nothing more is told
  ends_so : (given n : Had) (by : ClientEnd) (old new : Wire) (first : List Response) → given ≡ n → EndsBy by old new → EndsAtFailure (first ++ [])
      → (comes : Talks given new []) → (by ≡ end → (end ≡ Output → ⊥)
      → GrowsBy old.wrote wrote (flat_map response_text (first ++ map (λ e. e.response) comes.talk.exchanges)))
      → (before : Talks n old first) × (before.talk.exchanges ≡ [])
  ends_so given n by old new first same ends told comes written =
      let exchanges = comes.talk.exchanges in
      let none : exchanges ≡ [] = no_exchanges exchanges comes.talk.rest
      (subst (λ h. IfSome h (λ bytes. AreFirstLines bytes (map (λ e. e.text) exchanges) comes.talk.rest)) ends.deaf comes.talk.heard) in
      let so : by ≡ end = subst (λ e. IfSome e (λ x. x ≡ end)) ends.ends comes.ended in
      let (rest, heard, all) = unheard old.hears in (
        talks_so given n old new [] first rest same comes
            (subst (λ es. IfSome old.hears (λ bytes. AreFirstLines bytes (map (λ e. e.text) es) rest)) (sym none) heard)
            (λ served. all (ends.all (so ∙ served)))
            (λ is. subst (λ es. EndsAtFailure (first ++ map (λ e. e.response) es)) (sym none) told)
            (written so) (not_ended old.end ends.still),
        none,
      )

  ended_so : (given : Had) (by : ClientEnd) (old new : Wire) → EndsBy by old new → Talks given new []
      → (before : Talks given old []) × (before.talk.exchanges ≡ [])
  ended_so given by old new ends comes = ends_so given given by old new [] refl ends none_told comes
      (λ so other. grew_before old.wrote new.wrote wrote _ (ends.wrote (λ is. other (sym so ∙ is))) (comes.written other))

  pub has_ended_so : (given : Had) (old new : Wire) → HasEnded old new → Talks given new [] → Talks given old []
  has_ended_so given old new (by, inl ends) comes = (ended_so given by old new ends comes).0
  has_ended_so given old new (by, inr before) comes = subst (λ w. Talks given w []) before.1 comes

  -- nothing was said or told
  pub stays_so : (given : Had) (old new : Wire) → Stays old new → Talks given new [] → Talks given old []
  stays_so given old new stays comes = talks_so given given old new [] [] comes.talk.rest refl comes
      (heard_before old.hears new.hears (map (λ e. e.text) comes.talk.exchanges) comes.talk.rest stays.hears comes.talk.heard)
      comes.talk.all_heard comes.at_failure (λ other. grew_before old.wrote new.wrote wrote _ stays.wrote (comes.written other))
      (subst (λ e. IfSome e (λ x. x ≡ end)) stays.ends comes.ended)

  -- it may have ended by then; where that was so at a failed line nothing more was told
  gone_so : (failed last : Bool) → last ≡ (stops && failed) → (given : Had) (old new : Wire) → old.end ≡ None → IsGoneIf last old new
      → Talks given new [] → (before : Talks given old []) × (stops ≡ true → failed ≡ true → before.talk.exchanges ≡ [])
  gone_so failed true is given old new still (by, other, inl gone) comes =
      let ended = ended_so given by old new (ends_by by old new other gone) comes in
      (ended.0, λ careful fails. ended.1)
  gone_so failed true is given old new still (by, other, inr before) comes = absurd (no_end (subst IsSome still before.0))
  gone_so failed false is given old new still same comes = (
    subst (λ w. Talks given w []) same comes,
    λ careful fails. let apart : false ≡ true = is ∙ (λ i. careful i && fails i) in absurd cc,
  )

  -- it was told this, or could not be
  pub told_so : (given n : Had) (old new : Wire) (response : Response) → given ≡ n → old.end ≡ None
      → IsToldLast (stops && has_failed response) old new (response_text response) → Talks given new [] → Talks n old (response ∷ [])
  told_so given n old new response same still is_told comes =
      elim is_told.told [
        | inl writes ↦
            let (before, last) = gone_so (has_failed response) _ refl given is_told.mid new writes.still.1 is_told.after comes in
            let talk = before.talk in
            talks_so given n old is_told.mid [] (response ∷ []) talk.rest same before
            (heard_before old.hears is_told.mid.hears (map (λ e. e.text) talk.exchanges) talk.rest writes.hears talk.heard) talk.all_heard
            (λ is. one_told response (map (λ e. e.response) talk.exchanges) (λ failed. ap (map (λ e. e.response)) (last is failed)) (before.at_failure is))
            (λ other. grew_more old.wrote is_told.mid.wrote wrote (response_text response) _ writes.wrote (before.written other))
            (not_ended old.end still)
        | inr (inl ends) ↦
            let gone = stays_gone (stops && has_failed response) is_told.mid new is_told.after (subst IsSome (sym ends.ends) refl) in
            (ends_so given n Output old is_told.mid (response ∷ []) same ends (one_told response [] (λ failed. refl) none_told)
            (subst (λ w. Talks given w []) gone comes) (λ so other. absurd (other (sym so)))).0
        | inr (inr before) ↦ absurd (no_end (subst IsSome still before.0))
      ]

  -- a line was heard, of which it is told this
  pub heard_so : (given : Had) (old new : Wire) (text : List ℕ) (response : Response) (more : List Line)
      (further : List (Result Receipt CallFault)) (left : Option Allowance) (front : List Line) → Hears old new text
      → IsToldOf bound given text response → what_is_said clocked front ≡ what_is_said clocked (handed_out text response)
      → lines ≡ front ++ more
      → answers ≡ answers_in response ++ further → StaysWithin share lines answers
      → TalksOn stops clocked bound left given new wrote end (response ∷ []) more further → Talks given old []
  heard_so given old new text response more further left front hears is same lines_are answers_are within comes =
      let talk = comes.talk in
      record {
        talk = record {
          exchanges = record { text = text; response = response } ∷ talk.exchanges;
          rest = talk.rest;
          each = All-cons (λ e. IsToldOf bound given e.text e.response) (record { text = text; response = response }) talk.exchanges is talk.each;
          lines_are = ap (what_is_said clocked) lines_are
              ∙ said_behind clocked front (handed_out text response) more _ same talk.lines_are;
          answers_are = answers_are ∙ ap (λ l. answers_in response ++ l) talk.answers_are;
          heard = more_heard old.hears new.hears text (map (λ e. e.text) talk.exchanges) talk.rest hears.line talk.heard;
          all_heard = talk.all_heard;
        };
        within = within;
        at_failure = comes.at_failure;
        written = λ other. grew_before old.wrote new.wrote wrote _ hears.wrote (comes.written other);
        ended = not_ended old.end hears.still.0;
      }
