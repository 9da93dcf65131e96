-- The head and the entries of a journal that were read are spelled out as they stood in their lines.
use Rattle.std.proofs.Common.{◌≡◌, ℕ, ◌+◌, ◌≤◌, ◌<◌, ◌==◌, Bool, true, false, cond, not, List, [], ◌∷◌, drop, Ok, Err, refl, sym, arith, codes, decimal}
use Rattle.std.specs.Prelude.{nat_lt}
use Rattle.std.specs.List.{join_with_byte, list_all}
use Rattle.std.specs.Str.{bytes_eq}
use Rattle.std.proofs.lemmas.Bool.{eqb-false, ltb-false}
use Rattle.std.proofs.lemmas.List.{take-append-drop}
use Rattle.qplain.specs.declared.entry.Entry.{Entry}
use Rattle.qplain.specs.declared.reply.Reply.{Reply}
use Rattle.qplain.specs.declared.reply.Reply.TheVariants.{Done, Bytes, Stat as StatReply, Quota as QuotaReply, Refused}
use Rattle.qtext.specs.declared.text_fault.TextKind.{TextKind}
use Rattle.qtext.specs.declared.text_fault.TextKind.TheVariants.{BadByte, BadHead, BadNumber, BadReply, Cut, TooMany}
use Rattle.qtext.specs.Reading.{◌>>=◌}
use Rattle.qtext.specs.Words.{is_text_byte, number_of, words}
use Rattle.qtext.proofs.StepsFound.{joined, not_false, Spells, kept, passed, same_ok, same_word, step_found, word_found}
use Rattle.qtext.proofs.WordsFound.{number_found}
use Rattle.qtext_read.specs.Journaled.{journaled_call_in}
use Rattle.qtext_read.specs.RepliesRead.{reply_in}
use Rattle.qtext_read.specs.RepliesSpelled.{reply_words}
use Rattle.qplain.specs.Held.{HasLawfulStat, IsHeld, IsReply}
use Rattle.qtext_read.proofs.ArgumentsFound.{any_number}
use Rattle.qtext_read.proofs.CallersFound.{any_caller}
use Rattle.qtext_read.proofs.CallsFound.{journaled_found}
use Rattle.qtext_read.proofs.Editions.{OnlyInTwo, is_of_its_edition}
use Rattle.qtext_read.proofs.RepliesFound.{any_reply}
use Rattle.qplain.specs.Projects.{reply_names_project}
use Rattle.qplain.specs.declared.edition.Edition.{Edition}
use Rattle.qplain.specs.declared.edition.Edition.TheVariants.{One, Two}
use Rattle.qplain.specs.Editions.{max_entries_of}
use Rattle.qtext_files.specs.declared.head.Head.{Head}
use Rattle.qtext_files.specs.RawLines.{RawLine}
use Rattle.qtext_files.specs.Journals.{reply_behind, at_entry, edition_of, entry_in, journal_entry_of, head_in, head_of, head_keyword, head_told, worker_of, workers_of}
use Rattle.qplain.specs.Journals.{IsEntryOf, IsWorkers}
use Rattle.qtext_files.proofs.RawLines.{in_line_found}
use Rattle.qtext_files.specs.Spelling.{edition_text, entry_words, head_words}

-- ---- words

-- a number from 1 to the most
from_one : (fault : TextKind) (most : ℕ) (word : List ℕ) (n : ℕ) → most ≤ 16
    → (number_of fault most word >>= λ found. cond (found == 0) (Err fault) (Ok found)) ≡ Ok n → (decimal n ≡ word) × (0 < n) × (n ≤ most)
from_one fault most word n few e =
    step_found (number_of fault most word) _ e λ found is e.
    let some = passed (found == 0) (Ok found) fault n e in
    let so = number_found fault most word found (omega (arith, few)) is in
    rw (← same_ok some.1) (so.0, omega (arith, eqb-false found 0 some.0), so.1)

any_worker : (workers : ℕ) → workers ≤ 16 → Spells decimal (λ worker. (0 < worker) × (worker ≤ workers)) (worker_of workers)
unfolding worker_of
any_worker workers few word worker e = let so = from_one BadNumber workers word worker few e in (so.0, (so.1, so.2))

any_workers : Spells decimal IsWorkers workers_of
unfolding workers_of
any_workers word workers e = let so = from_one BadHead 16 word workers (omega arith) e in (so.0, (so.1, so.2))

pub keyword_found : (wanted word : List ℕ) (u : Unit {0}) → head_keyword wanted word ≡ Ok u → wanted ≡ word
unfolding head_keyword
keyword_found wanted word u e = sym (same_word word wanted (kept _ (Ok tt) BadHead u e).0)

edition_by : (word : List ℕ) (e : Edition) (one two : Bool) → bytes_eq word (codes "1") ≡ one → bytes_eq word (codes "2") ≡ two
    → cond one (Ok One) (cond two (Ok Two) (Err BadHead)) ≡ Ok e → edition_text e ≡ word
edition_by word e true two is_one is_two same = rw (← same_ok same) (sym (same_word word (codes "1") is_one))
edition_by word e false true is_one is_two same = rw (← same_ok same) (sym (same_word word (codes "2") is_two))
edition_by word e false false is_one is_two same = absurd (cc same)

edition_found : (word : List ℕ) (e : Edition) → edition_of word ≡ Ok e → edition_text e ≡ word
unfolding edition_of
edition_found word e same = edition_by word e (bytes_eq word (codes "1")) (bytes_eq word (codes "2")) refl refl same

answer_found : (edition : Edition) (words : List (List ℕ)) (r : Reply) → reply_behind edition words ≡ Ok r
    → (codes "=>" ∷ reply_words r ≡ words) × IsReply r × OnlyInTwo edition (reply_names_project r)
unfolding reply_behind
answer_found edition [] r e = absurd (cc e)
answer_found edition (arrow ∷ words) r e =
    let is = kept (bytes_eq arrow (codes "=>")) (reply_in edition words) BadReply r e in
    let so = any_reply edition words r is.1 in
    (rw (so.0, same_word arrow (codes "=>") is.0) refl, so.1, so.2)

-- ---- lines

-- an entry that a journal with this head may have, whose parts are what their types can hold
abbrev pub IsEntry : Head → Entry → Type 0
IsEntry head e = IsEntryOf head.edition head.workers e × IsHeld e

lawful : (r : Reply) → IsReply r → HasLawfulStat r
lawful (Done ino change) fits = tt
lawful (Bytes bytes) fits = tt
lawful (StatReply stat) fits = fits.empty
lawful (QuotaReply quota) fits = tt
lawful (Refused refusal) fits = tt

in_found : (head : Head) (ws : List (List ℕ)) (entry : Entry) → head.workers ≤ 16 → entry_in head ws ≡ Ok entry
    → (entry_words entry ≡ ws) × IsEntry head entry
unfolding entry_in
in_found head [] entry few e = absurd (cc e)
in_found head (w ∷ []) entry few e = step_found (worker_of head.workers w) _ e λ worker is e. absurd (cc e)
in_found head (w ∷ m ∷ []) entry few e =
    word_found (any_worker head.workers few) w _ e λ worker is_worker worker_fits e.
    word_found any_number m _ e λ moment is_moment moment_fits e.
    absurd (cc e)
in_found head (w ∷ m ∷ c ∷ behind) entry few e =
    word_found (any_worker head.workers few) w _ e λ worker is_worker worker_fits e.
    word_found any_number m _ e λ moment is_moment moment_fits e.
    word_found any_caller c _ e λ cred is_cred cred_fits e.
    step_found (journaled_call_in head.edition behind) _ e λ called is_called e.
    step_found (reply_behind head.edition (drop called.1 behind)) _ e λ reply is_reply e.
    let call = journaled_found head.edition behind called is_called in
    let answer = answer_found head.edition (drop called.1 behind) reply is_reply in
    rw (← same_ok e) (
      rw (is_worker, is_moment, is_cred, call.0, answer.0, take-append-drop called.1 behind) refl,
      (
        (worker_fits.0, worker_fits.1, lawful reply answer.1, is_of_its_edition head.edition _ call.2 answer.2),
        record { moment = moment_fits; cred = cred_fits; call = call.1; reply = answer.1 },
      ),
    )

-- a line that holds an entry
pub record HoldsEntry (head : Head) (l : RawLine) (entry : Entry) : Type 0 where
  pub whole : l.whole ≡ true
  pub few : l.number ≤ max_entries_of head.edition + 1
  pub text : join_with_byte 32 (entry_words entry) ≡ l.bytes
  pub fits : IsEntry head entry

pub entry_found : (head : Head) (l : RawLine) (entry : Entry) → head.workers ≤ 16 → at_entry head l ≡ Ok entry → HoldsEntry head l entry
unfolding at_entry journal_entry_of
entry_found head l entry few e =
    let near = passed (nat_lt (max_entries_of head.edition + 1) l.number) _ TooMany entry (in_line_found l.number (journal_entry_of head l) e) in
    let whole = passed (not l.whole) _ Cut entry near.1 in
    let text = passed (not (list_all is_text_byte l.bytes)) _ BadByte entry whole.1 in
    let so = in_found head (words l.bytes) entry few text.1 in
    record {
      whole = not_false l.whole whole.0;
      few = ltb-false (max_entries_of head.edition + 1) l.number near.0;
      text = joined 32 l.bytes _ so.0;
      fits = so.1;
    }

pub head_told_found : (q j v n w : List ℕ) (head : Head) → head_told q j v n w ≡ Ok head
    → (head_words head.edition head.workers ≡ q ∷ j ∷ v ∷ n ∷ w ∷ []) × IsWorkers head.workers
unfolding head_told
head_told_found q j v n w head e =
    step_found (head_keyword (codes "quotafs") q) _ e λ t is_q e.
    step_found (head_keyword (codes "journal") j) _ e λ u is_j e.
    step_found (edition_of v) _ e λ edition is_v e.
    step_found (head_keyword (codes "workers") n) _ e λ y is_n e.
    step_found (workers_of w) _ e λ workers is_w e.
    let so = any_workers w workers is_w in
    rw (← same_ok e)
    (rw (so.0, edition_found v edition is_v, ← keyword_found _ q t is_q, ← keyword_found _ j u is_j, ← keyword_found _ n y is_n) refl, so.1)

pub head_in_found : (ws : List (List ℕ)) (head : Head) → head_in ws ≡ Ok head → (head_words head.edition head.workers ≡ ws) × IsWorkers head.workers
unfolding head_in
head_in_found (q ∷ j ∷ v ∷ n ∷ w ∷ []) head e = head_told_found q j v n w head e
head_in_found ws head e = absurd (cc e)

-- a line that is the head
pub record HoldsHead (l : RawLine) (head : Head) : Type 0 where
  pub whole : l.whole ≡ true
  pub text : join_with_byte 32 (head_words head.edition head.workers) ≡ l.bytes
  pub fits : IsWorkers head.workers

pub head_found : (l : RawLine) (head : Head) → head_of l ≡ Ok head → HoldsHead l head
unfolding head_of
head_found l head e =
    let whole = passed (not l.whole) _ Cut head e in
    let text = passed (not (list_all is_text_byte l.bytes)) _ BadByte head whole.1 in
    let so = head_in_found (words l.bytes) head text.1 in
    record { whole = not_false l.whole whole.0; text = joined 32 l.bytes _ so.0; fits = so.1 }
