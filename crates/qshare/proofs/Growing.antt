-- What a call leaves of a journal, and what a journal begins with.
use Rattle.std.proofs.Common.{◌≡◌, ℕ, Bool, List, [], ◌∷◌, ◌++◌, Result, Ok, Err, IfOk, OnErr, ap, sym, subst, ◌∙◌, append-nil}
use mathlib.Core.List.{IsPrefix}
use Rattle.qplain.specs.declared.call.Call.{Call}
use Rattle.qplain.specs.declared.entry.Entry.{Entry}
use Rattle.qplain.specs.declared.call_fault.CallFault.{CallFault}
use Rattle.qplain.specs.declared.receipt.Receipt.{Receipt}
use Rattle.qplain.specs.declared.tallies.Tallies.{Tallies}
use Rattle.qplain.specs.Caller.{Caller}
use Rattle.qplain.specs.Journal.{IsLegal, entry_of, played}
use Rattle.qplain.specs.State.{State}
use Rattle.qshare_history.specs.Histories.{Recorded, recorded}
use Rattle.qshare_history.proofs.Prefixes.{prefix_trans}
use Rattle.qstore_journaled.specs.Lines.{line_of}
use Rattle.qshare.specs.Calls.{AtGiven, IsJournaled, IsFormOf}
use Rattle.qshare.specs.Locked.{Locked}

-- a journal that begins with what is published begins with what was seen of that
pub seen_of : {seen published journal : List Entry} {history : _} {p : Recorded} → p ≡ recorded history seen → IsPrefix p.entries published
    → IsPrefix published journal → IsPrefix seen journal
seen_of {seen} {published} {journal} is begins on = prefix_trans _ _ _ (subst (λ p. IsPrefix p.entries published) is begins) on

-- it goes on with the journal, by an entry or by none
pub goes_on : {A : Type 0} (form : Receipt → A) (Kept : Type 0) (worker : ℕ) (clocked : Bool) (cred : Caller) (told : ℕ) (call : Call)
    (answer : Result A CallFault) (old new : Locked) (before after : Tallies)
    → IfOk answer (IsFormOf form (AtGiven clocked cred told call (λ line. IsJournaled worker line old.journal new.journal before after)))
    → OnErr answer ((new ≡ old) × Kept) → IsPrefix old.journal new.journal
goes_on form Kept worker clocked cred told call (Ok t) old new before after ok err =
    (entry_of worker (line_of cred ok.2.0 call) ok.0.reply ∷ [], sym ok.2.2.journal)
goes_on form Kept worker clocked cred told call (Err fault) old new before after ok err =
    ([], append-nil old.journal ∙ sym (ap (λ s. s.journal) err.0))

legal_first : (S : State) (xs ys : List Entry) → IsLegal S (xs ++ ys) → IsLegal S xs
legal_first S [] ys legal = tt
legal_first S (e ∷ xs) ys legal = (legal.0, legal_first (played S e).0 xs ys legal.1)

-- what begins a legal journal is legal
pub legal_begins : (S : State) (xs ys : List Entry) → IsPrefix xs ys → IsLegal S ys → IsLegal S xs
legal_begins S xs ys begins legal = legal_first S xs begins.0 (subst (IsLegal S) (sym begins.1) legal)
