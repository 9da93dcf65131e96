-- What a call that was ready leaves of what is kept.
use Rattle.std.proofs.Common.{◌≡◌, [], ◌∷◌, ◌++◌, None, Some, sym, ap, subst, ◌∙◌}
use Rattle.qplain.specs.declared.entry.Entry.{Entry}
use Rattle.qplain.specs.declared.line.Line.{Line}
use Rattle.qplain.specs.declared.reply.Reply.{Reply}
use Rattle.qplain.specs.State.{State}
use Rattle.qplain.specs.Journal.{play, played}
use Rattle.qplain_laws.proofs.Playing.{play-one_more}
use Rattle.qstore.specs.Ready.{committed}
use Rattle.qstore.specs.Stored.{Stored}
use Rattle.qstore_journaled.specs.Journaled.{IsPlayed, Journaled as JournaledValue}
use Rattle.qstore_journaled.specs.Next.{IsNext}
use Rattle.qsession.specs.declared.kept.Kept.{Kept}
use Rattle.qsession.specs.declared.kept.Kept.TheVariants.{Plain, Journaled}
use Rattle.qsession.specs.Holdings.{holding_of}
use Rattle.qsession.specs.Recorded.{CanRecord}
use Rattle.qsession.specs.Steps.{CanCommit, IsReadyFor, IsStep, Leaves, holding_after, stepped}

-- the state is what the call that was ready leaves
state_left : (old new : JournaledValue) (e : Entry) → IsPlayed old → IsNext old e → IsPlayed new → new.begun ≡ old.begun
    → new.journal ≡ old.journal ++ e ∷ [] → new.stored.state ≡ committed old.stored
state_left old new e before next after begun journal =
    let S : State = old.begun in
    let played_on : new.stored.state ≡ play S (old.journal ++ e ∷ []) =
    after.state ∙ ap (λ T. play T new.journal) begun ∙ ap (play S) journal in
    let last : play S (old.journal ++ e ∷ []) ≡ (played old.stored.state e).0 =
    play-one_more S old.journal e ∙ ap (λ T. (played T e).0) (sym before.state) in
    played_on ∙ last ∙ ap (λ p. p.0) (sym next.step)

-- a step of the state that is kept without a journal is one of what is held
pub stepped_plain : (kept : Kept) (old : Stored) (S : State) (line : Line) (reply : Reply) → kept ≡ Plain old → (S, reply) ≡ stepped old.state line
    → IsStep (holding_of kept) (record { state = S; journal = None }) line reply
stepped_plain kept old S line reply is_kept is =
    subst (λ (k : Kept). IsStep (holding_of k) (record { state = S; journal = None }) line reply) (sym is_kept)
    (record { held = λ i. record { state = (is i).0; journal = None }; reply_is = λ i. (is i).1 })

-- so it is of what is kept without a journal
pub made_plain : (kept : Kept) (old new : Stored) → kept ≡ Plain old → new.state ≡ committed old → (line : Line) (reply : Reply)
    → IsReadyFor kept line reply → IsStep (holding_of kept) (holding_of (Plain new)) line reply
made_plain kept old new is_kept is line reply ready = record {
  held =
      ap (λ S. record { state = S; journal = None }) is
      ∙ sym (subst (λ (k : Kept). Leaves k (holding_after (holding_of kept) line)) is_kept ready.leaves);
  reply_is = ready.reply_is;
}

-- and of what is kept with one
pub made_journaled : (kept : Kept) (old new : JournaledValue) → kept ≡ Journaled old → CanCommit kept → new.setting ≡ old.setting
    → new.begun ≡ old.begun → ((e : Entry) → old.next ≡ Some e → new.journal ≡ old.journal ++ e ∷ []) → IsPlayed new → (line : Line) (reply : Reply)
    → IsReadyFor kept line reply → IsStep (holding_of kept) (holding_of (Journaled new)) line reply
made_journaled kept old new is_kept can_kept setting begun journal after line reply ready =
    let can : CanRecord old = subst CanCommit is_kept can_kept in
    let entries = journal can.entry can.next.is in
    let state = state_left old new can.entry can.played can.next after begun entries in
    let leaves = subst (λ (k : Kept). Leaves k (holding_after (holding_of kept) line)) is_kept ready.leaves in
    record {
      held =
          (λ i. record { state = state i; journal = Some (record { setting = setting i; begun = begun i; entries = entries i }) })
          ∙ sym (leaves can.entry can.next.is);
      reply_is = ready.reply_is;
    }
