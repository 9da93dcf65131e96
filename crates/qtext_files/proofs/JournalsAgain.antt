-- Journals that are spelled out are read again.
use Rattle.std.proofs.Common.{◌≡◌, ◌⊎◌, ℕ, ◌+◌, ◌≤◌, ◌<◌, ◌==◌, true, false, ltb, List, [], ◌∷◌, ◌++◌, length, drop, Result, Ok, Err, inl, inr, refl, ap, ◌∙◌, arith, tests, codes, decimal}
use Rattle.std.specs.List.{flat_map, join_with_byte, AllByRecursion}
use Rattle.std.proofs.lemmas.Bool.{le-ltb}
use Rattle.std.proofs.lemmas.List.Elements.{recursion_from_All}
use Rattle.qplain.specs.declared.entry.Entry.{Entry}
use Rattle.qtext.specs.declared.text_fault.TextFault.{TextFault}
use Rattle.qtext.specs.declared.text_fault.TextKind.TheVariants.{BadHead, BadNumber}
use Rattle.qtext.specs.Reading.{each_of}
use Rattle.qtext.specs.TextFaults.{want_of_memory}
use Rattle.qtext.specs.Words.{parts}
use Rattle.qtext.proofs.WordsAgain.{number_again}
use Rattle.qtext_read.specs.RepliesSpelled.{reply_words}
use Rattle.qtext_read.specs.Spelling.{call_words, caller_text}
use Rattle.qtext_read.proofs.ArgumentsAgain.{decimal_word}
use Rattle.qtext_read.proofs.CallersAgain.{caller_again, caller_word}
use Rattle.qtext_read.proofs.CallsAgain.{IsWord, any_number, call_word}
use Rattle.qtext_read.proofs.JournaledAgain.{journaled_again}
use Rattle.qtext_read.proofs.Editions.{parts_of_edition}
use Rattle.qtext_read.proofs.RepliesAgain.{reply_again, reply_word}
use Rattle.qplain.specs.declared.edition.Edition.{Edition}
use Rattle.qplain.specs.declared.edition.Edition.TheVariants.{One, Two}
use Rattle.qplain.specs.Editions.{max_entries_of}
use Rattle.qtext_files.specs.declared.head.Head.{Head}
use Rattle.qtext_files.specs.RawLines.{raw_lines_from}
use Rattle.qtext_files.proofs.EntriesFound.{IsEntry}
use Rattle.qtext_files.proofs.LinesAgain.{joined_is_text, joined_parts, raw_again}
use Rattle.qtext_files.proofs.RawLines.{no_line}
use Rattle.qtext_files.specs.Journals.{reply_behind, at_entry, edition_of, entry_in, journal_entry_of, head_in, head_of, head_told, journal_in, journal_of, head_keyword, worker_of, workers_of}
use Rattle.qplain.specs.Journals.{IsEntryOf, IsJournal, IsWorkers, Written}
use Rattle.qtext_files.specs.Spelling.{edition_text, entry_text, entry_words, head_words, journal_spelling}
use Rattle.qplain.specs.Held.{IsHeld}

-- ---- entries

pub entries : (head : Head) (es : List Entry) → AllByRecursion (IsEntryOf head.edition head.workers) es → AllByRecursion IsHeld es
    → AllByRecursion (IsEntry head) es
entries head [] of held = tt
entries head (e ∷ es) of held = ((of.0, held.0), entries head es of.1 held.1)

-- ---- words

-- what stands in front is dropped
drop_front : (xs ys : List (List ℕ)) → drop (length xs) (xs ++ ys) ≡ ys
drop_front [] ys = refl
drop_front (x ∷ xs) ys = drop_front xs ys

pub both : (xs ys : List (List ℕ)) → AllByRecursion IsWord xs → AllByRecursion IsWord ys → AllByRecursion IsWord (xs ++ ys)
both [] ys a b = b
both (x ∷ xs) ys a b = (a.0, both xs ys a.1 b)

worker_again : (workers worker : ℕ) → workers ≤ 16 → 0 < worker → worker ≤ workers → worker_of workers (decimal worker) ≡ Ok worker
unfolding worker_of
worker_again workers worker few some le =
    let none : (worker == 0) ≡ false = grind (arith, tests) in
    rw (number_again BadNumber workers worker (omega arith) le, none) refl

pub workers_again : (workers : ℕ) → IsWorkers workers → workers_of (decimal workers) ≡ Ok workers
unfolding workers_of
workers_again workers is =
    let some : 0 < workers = is.0 in
    let few : workers ≤ 16 = is.1 in
    let none : (workers == 0) ≡ false = grind (arith, tests) in
    rw (number_again BadHead 16 workers (omega arith) few, none) refl

entry_word : (head : Head) (e : Entry) → head.workers ≤ 16 → IsEntry head e → AllByRecursion IsWord (entry_words e)
entry_word head e few fits =
    let le = fits.0.1 in (
      decimal_word e.worker (omega (arith, le)),
      (
        decimal_word e.moment fits.1.moment,
        (
          caller_word e.cred fits.1.cred,
          both (call_words e.call) (codes "=>" ∷ reply_words e.reply) (call_word e.call fits.1.call) (refl, reply_word e.reply fits.1.reply),
        ),
      ),
    )

edition_word : (e : Edition) → IsWord (edition_text e)
edition_word One = refl
edition_word Two = refl

pub edition_again : (e : Edition) → edition_of (edition_text e) ≡ Ok e
unfolding edition_of
edition_again One = refl
edition_again Two = refl

pub head_word : (edition : Edition) (workers : ℕ) → IsWorkers workers → AllByRecursion IsWord (head_words edition workers)
head_word edition workers is =
    let few = is.1 in (refl, (refl, (edition_word edition, (refl, (decimal_word workers (omega (arith, few)), tt)))))

in_again : (head : Head) (e : Entry) → head.workers ≤ 16 → IsEntry head e → entry_in head (entry_words e) ≡ Ok e
unfolding entry_in reply_behind
in_again head e few fits =
    let of = parts_of_edition head.edition e fits.0.3 in
    rw (
      worker_again head.workers e.worker few fits.0.0 fits.0.1,
      any_number e.moment fits.1.moment,
      caller_again e.cred fits.1.cred,
      journaled_again head.edition e.call fits.1.call of.0 (reply_words e.reply),
      drop_front (call_words e.call) (codes "=>" ∷ reply_words e.reply),
      reply_again head.edition e.reply fits.1.reply of.1,
    ) refl

-- ---- lines

at_again : (head : Head) (n : ℕ) (e : Entry) → head.workers ≤ 16 → n ≤ max_entries_of head.edition + 1 → IsEntry head e
    → at_entry head (record { number = n; bytes = join_with_byte 32 (entry_words e); whole = true }) ≡ Ok e
unfolding at_entry journal_entry_of
at_again head n e few le fits =
    let near : ltb (max_entries_of head.edition + 1) n ≡ false = le-ltb _ _ le in
    let word = entry_word head e few fits in
    rw (near, joined_is_text _ _ word, joined_parts _ _ word, in_again head e few fits) refl

pub each_again : (head : Head) (n : ℕ) (es : List Entry) → head.workers ≤ 16 → n + length es ≤ max_entries_of head.edition + 2
    → AllByRecursion (IsEntry head) es
    → each_of (at_entry head) (raw_lines_from n (parts 10 (flat_map entry_text es))) ≡ Ok es
unfolding each_of
each_again head n [] few le fits = ap (each_of (at_entry head)) (no_line n)
each_again head n (e ∷ es) few le fits =
    let near : n ≤ max_entries_of head.edition + 1 = omega arith in
    let rest : n + 1 + length es ≤ max_entries_of head.edition + 2 = omega arith in
    ap (each_of (at_entry head)) (raw_again n (decimal e.worker) (decimal e.moment ∷ caller_text e.cred
    ∷ (call_words e.call ++ codes "=>" ∷ reply_words e.reply)) (flat_map entry_text es) (entry_word head e few fits.0))
    ∙ rw (at_again head n e few near fits.0, each_again head (n + 1) es few rest fits.1) refl

head_again : (head : Head) → IsWorkers head.workers
    → head_of (record { number = 1; bytes = join_with_byte 32 (head_words head.edition head.workers); whole = true }) ≡ Ok head
unfolding head_of head_in head_told head_keyword
head_again head is =
    let word = head_word head.edition head.workers is in
    rw (joined_is_text _ _ word, joined_parts _ _ word, edition_again head.edition, workers_again head.workers is) refl

-- what a journal says that is spelled out
pub journal_again : (j : Written) → IsJournal j → AllByRecursion IsHeld j.entries → journal_of (journal_spelling j) ≡ Ok j
unfolding journal_in
journal_again j is held =
    let workers : j.workers ≤ 16 = is.workers.1 in
    let few = is.few in
    let head : Head = record { edition = j.edition; workers = j.workers } in
    let lines = raw_again 1 (codes "quotafs") (codes "journal" ∷ edition_text j.edition ∷ codes "workers" ∷ decimal j.workers ∷ [])
    (flat_map entry_text j.entries) (head_word j.edition j.workers is.workers) in
    let each = entries head j.entries (recursion_from_All (IsEntryOf j.edition j.workers) j.entries is.each) held in
    rw (lines, head_again head is.workers, each_again head 2 j.entries workers (omega (arith, few)) each) refl

-- what was answered, where a journal was spelled out
pub journal_read_again : (text : List ℕ) (answer : Result Written TextFault) → (answer ≡ journal_of text) ⊎ (answer ≡ Err want_of_memory)
    → (j : Written) → IsJournal j → AllByRecursion IsHeld j.entries → text ≡ journal_spelling j → (answer ≡ Ok j) ⊎ (answer ≡ Err want_of_memory)
journal_read_again text answer (inl e) j is held same = inl (e ∙ ap journal_of same ∙ journal_again j is held)
journal_read_again text answer (inr e) j is held same = inr e
