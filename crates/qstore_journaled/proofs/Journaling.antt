-- A journaled store that makes one call more is again what its journal leaves.
use Rattle.std.proofs.Common.{◌≡◌, ℕ, ◌+◌, ◌<◌, ◌≤◌, List, [], ◌∷◌, ◌++◌, length, take, slice_get, sym, ap, ◌∙◌, arith, Option, Some, subst}
use Rattle.std.specs.Option.{unwrap_or}
use Rattle.std.proofs.lemmas.List.{length-append, take_more}
use Rattle.std.proofs.lemmas.Option.{get_or_from_slice_get, slice_get_within}
use Rattle.qplain.specs.declared.bounds.TheConstants.{MAX_ENTRIES}
use Rattle.qplain.specs.declared.entry.Entry.{Entry}
use Rattle.qplain.specs.declared.line.Line.{Line}
use Rattle.qplain.specs.declared.reply.Reply.{Reply}
use Rattle.qplain.specs.declared.setup.TheConstants.{MAX_BLOCKS, MAX_INODES}
use Rattle.qplain.specs.Calls.{IsCall}
use Rattle.qplain.specs.Setups.{IsLawfulSetup, Setting}
use Rattle.qplain.specs.State.{State, start}
use Rattle.qplain.specs.Journal.{CanCount, change_of, play, played, tally_of}
use Rattle.qplain.specs.Step.{step}
use Rattle.qplain_laws.proofs.Playing.{legal-one_more, play-one_more}
use Rattle.qplain_laws.specs.Beginnings.{IsStateOf}
use Rattle.qplain_laws.proofs.Beginning.{start_is_state_of, steps_stay_states}
use Rattle.qplain_laws.proofs.Tallying.{room-after, setup-small}
use Rattle.qstore.specs.Ready.{committed}
use Rattle.qstore_journaled.specs.Journaled.{IsPlayed, IsSameJournaled, Journaled}
use Rattle.qstore_journaled.specs.Next.{HasNext, IsNext}

-- what a new store leaves is a state that it can begin with
pub new_state : (setting : Setting) (S : State) → IsLawfulSetup setting → S ≡ start setting → IsStateOf setting S
new_state setting S lawful new = subst (IsStateOf setting) (sym new) (start_is_state_of setting lawful)

-- a store is what the empty journal leaves of it
pub begins : (j : Journaled) → IsStateOf j.setting j.begun → j.stored.state ≡ j.begun → j.journal ≡ [] → IsPlayed j
begins j beginning state none = record {
  beginning = beginning;
  legal = rw none tt;
  state = rw none state;
  stands = rw state beginning;
  few = rw none (omega arith);
}

-- with the same setup, beginning, state and journal it is so, whatever is ready
pub stays : (old new : Journaled) → IsPlayed old → IsSameJournaled old new → IsPlayed new
stays old new is same = record {
  beginning = rw (same.setting, same.begun) is.beginning;
  legal = rw (same.begun, same.journal) is.legal;
  state = rw (same.begun, same.journal, same.state) is.state;
  stands = rw (same.setting, same.state) is.stands;
  few = rw same.journal is.few;
}

-- one entry more, whose reply and state are the plain machine's
pub played_on : (old new : Journaled) (e : Entry) → IsPlayed old → IsCall e.call
    → length old.journal < MAX_ENTRIES → new.setting ≡ old.setting
    → new.begun ≡ old.begun → new.journal ≡ old.journal ++ e ∷ [] → new.stored.state ≡ (played old.stored.state e).0
    → e.reply ≡ (played old.stored.state e).1 → IsPlayed new
played_on old new e is call few setting begun journal state reply =
    let S : State = old.begun in
    let same : played old.stored.state e ≡ played (play S old.journal) e = ap (λ T. played T e) is.state in
    let left : new.stored.state ≡ play S (old.journal ++ e ∷ []) =
    state ∙ ap (λ (p : State × Reply). p.0) same ∙ sym (play-one_more S old.journal e) in
    let count : length (old.journal ++ e ∷ []) ≡ length old.journal + 1 = length-append old.journal (e ∷ []) in
    record {
      beginning = rw (setting, begun) is.beginning;
      legal = rw (begun, journal) (legal-one_more S old.journal e is.legal (reply ∙ ap (λ (p : State × Reply). p.1) same));
      state = rw (begun, journal) left;
      stands = rw (setting, state)
          (steps_stay_states old.setting old.stored.state e.cred e.moment e.call call is.stands);
      few = rw (journal, count) (omega arith);
    }

-- what is ready may be counted
pub can_count : (j : Journaled) (reply : Reply) (line : Line) → IsPlayed j → length j.journal < MAX_ENTRIES
    → reply ≡ (step j.stored.state line.cred line.moment line.call).1 → CanCount (tally_of j.journal) (change_of reply)
can_count j reply line is few stepped =
    let S : State = j.begun in
    let bounds = setup-small j.setting is.beginning.setup in
    let keeps = is.beginning.keeps in
    let next : reply ≡ (step (play S j.journal) line.cred line.moment line.call).1 =
    stepped ∙ ap (λ T. (step T line.cred line.moment line.call).1) is.state in
    rw next (room-after S j.journal line.cred line.moment line.call is.beginning.lawful
    (subst (λ n. n ≤ MAX_BLOCKS) (sym keeps.size) bounds.0) (subst (λ n. n ≤ MAX_INODES) (sym keeps.most_inodes) bounds.1) is.legal (omega (arith, few)))

-- so may an entry that is ready
pub next-counts : (j : Journaled) (e : Entry) → IsPlayed j → IsNext j e → CanCount (tally_of j.journal) (change_of e.reply)
next-counts j e is next =
    can_count j e.reply (record { cred = e.cred; moment = e.moment; call = e.call }) is next.few (ap (λ (p : State × Reply). p.1) next.step)

-- and with it the store is what its journal leaves
pub next-played : (old new : Journaled) (e : Entry) → IsPlayed old → IsCall e.call → IsNext old e
    → new.setting ≡ old.setting
    → new.begun ≡ old.begun → new.journal ≡ old.journal ++ e ∷ [] → new.stored.state ≡ committed old.stored → IsPlayed new
next-played old new e is call next setting begun journal state =
    played_on old new e is call next.few setting begun journal
    (state ∙ ap (λ (p : State × Reply). p.0) next.step) (ap (λ (p : State × Reply). p.1) next.step)

-- the entry that is told is the one that was ready
pub taken-next : (j : Journaled) (e taken : Entry) → IsNext j e → j.next ≡ Some taken → IsNext j taken
taken-next j e taken next is = subst (IsNext j) (sym same) next
  where
    same : taken ≡ e
    same = ap (λ (o : Option Entry). unwrap_or o e) (sym is ∙ next.is)

-- so it is of what is seen of the same store
pub told-next : (j seen : Journaled) (e : Entry) → HasNext seen → j ≡ seen → seen.next ≡ Some e → IsNext j e
told-next j seen e has same is =
    taken-next j has.0 e (subst (λ (s : Journaled). IsNext s has.0) (sym same) has.1) (ap (λ s. s.next) same ∙ is)

-- the entry behind the first N of a list makes them one more
pub one_more : (entries : List Entry) (n : ℕ) (e : Entry) → slice_get entries n ≡ Some e → take (n + 1) entries ≡ take n entries ++ e ∷ []
one_more entries n e is =
    take_more entries n e (slice_get_within entries n e is) ∙ ap (λ x. take n entries ++ x ∷ []) (get_or_from_slice_get entries n e e is)
