-- What is told of what is open, and that the reply to a line's call is what there is to tell of it.
use Rattle.std.proofs.Common.{◌≡◌, ℕ, false, List, [], ◌∷◌, ◌++◌, Option, Some, None, Result, Ok, Err, ap, codes, eqb, is_ok, length, refl, subst, sym, ◌∙◌}
use Rattle.std.proofs.lemmas.Bool.{cond-false, eqb-true, false_from_ne_true, true≢false}
use Rattle.qplain.specs.declared.bounds.TheConstants.{MAX_ENTRIES}
use Rattle.qplain.specs.declared.line.Line.{Line}
use Rattle.qplain.specs.declared.reply.Reply.{Reply}
use Rattle.qtext.specs.declared.text_fault.TextFault.{TextFault}
use Rattle.qtext_read.specs.Replies.{reply_text}
use Rattle.qsession.specs.declared.fault.Fault.{Fault}
use Rattle.qsession.specs.declared.fault.Fault.TheVariants as fault
use Rattle.qsession.specs.Holdings.{Holding, KeptJournal}
use Rattle.qsession.specs.Steps.{IsFullJournal, reply_to}
use Rattle.qsession.specs.Tellings.{IsPut, IsPutIn, UnlessMemory}
use Rattle.qsession_text.specs.Lines.{session_answer, line_answer, is_full, only_line}

-- what is told of what is open
pub tells : (h : Holding) (number : ℕ) (told : Type 0) → told → UnlessMemory (Some h) number told
tells h number told is = record { memory = λ _. refl; told_so = λ _. is }

-- a journal that is not full
not_full : (journal : Option KeptJournal) → (IsFullJournal journal → ⊥) → is_full journal ≡ false
not_full None room = refl
not_full (Some j) room = false_from_ne_true (eqb (length j.entries) MAX_ENTRIES) (λ is. room (eqb-true (length j.entries) MAX_ENTRIES is))

-- the reply to a line's call, which was made ready, and may be too long
pub told-reply : (h ready : Holding) (script : Result (List Line) TextFault) (line : Line) (reply : Reply) (text buffer : List ℕ) (len number : ℕ)
    → script ≡ Ok (line ∷ []) → (IsFullJournal h.journal → Ok reply ≡ Err fault.JournalFull) → ready ≡ h → reply ≡ reply_to ready line
    → text ≡ reply_text reply ++ codes "\n" → IsPut text buffer len number
    → UnlessMemory (Some h) number (IsPutIn (session_answer (Some h) script) buffer len number)
told-reply h ready script line reply text buffer len number read full same is says put =
    let room : is_full h.journal ≡ false = not_full h.journal (λ at. true≢false (ap is_ok (full at))) in
    let wanted : Ok (reply_text (reply_to h line) ++ codes "\n") ≡ Ok text =
    sym (ap Ok (says ∙ ap (λ r. reply_text r ++ codes "\n") (is ∙ ap (λ held. reply_to held line) same))) in
    let answer : session_answer (Some h) script ≡ Ok text =
    ap (λ s. line_answer h (only_line s)) read
    ∙ cond-false (is_full h.journal) (Err fault.JournalFull) (Ok (reply_text (reply_to h line) ++ codes "\n")) room ∙ wanted in
    tells h number (IsPutIn (session_answer (Some h) script) buffer len number)
    (subst (λ (a : Result (List ℕ) Fault). IsPutIn a buffer len number) (sym answer) put)
