-- Journals that were read are spelled out as they stood, byte by byte.
use Rattle.std.proofs.Common.{◌≡◌, ◌⊎◌, ℕ, ◌+◌, ◌≤◌, Bool, true, false, cond, eqb, List, [], ◌∷◌, ◌++◌, length, Result, Ok, Err, IfOk, inl, inr, refl, sym, ◌∙◌, append_assoc, arith}
use Rattle.std.specs.List.{flat_map, join_with_byte, AllByRecursion}
use Rattle.std.proofs.lemmas.Bool.{eqb-true}
use Rattle.std.proofs.lemmas.List.Elements.{All-from_recursion}
use Rattle.qplain.specs.declared.entry.Entry.{Entry}
use Rattle.qtext.specs.declared.text_fault.TextFault.{TextFault}
use Rattle.qtext.specs.Reading.{each_of}
use Rattle.qtext.specs.TextFaults.{want_of_memory}
use Rattle.qtext.specs.Words.{parts}
use Rattle.qtext.proofs.StepsFound.{joined, same_ok, step_found}
use Rattle.qplain.specs.Editions.{max_entries_of}
use Rattle.qtext_files.specs.declared.head.Head.{Head}
use Rattle.qtext_files.specs.RawLines.{RawLine, in_line, raw_lines_from}
use Rattle.qtext_files.specs.Journals.{at_entry, head_of, journal_in, journal_of}
use Rattle.qplain.specs.Journals.{IsEntryOf, IsJournal, Written}
use Rattle.qtext_files.proofs.EntriesFound.{IsEntry, entry_found, head_found}
use Rattle.qtext_files.proofs.RawLines.{in_line_found}
use Rattle.qtext_files.specs.Spelling.{entry_text, head_words, journal_spelling}
use Rattle.qplain.specs.Held.{IsHeld}

-- a line with its end, and what follows it
pub line_then : (front line rest others : List ℕ) → front ≡ line → rest ≡ others → (front ++ 10 ∷ []) ++ rest ≡ line ++ 10 ∷ others
line_then front line rest others here behind = rw (here, behind) (append_assoc line (10 ∷ []) others)

no_bytes : (text : List ℕ) → length text ≡ 0 → [] ≡ text
no_bytes [] none = refl
no_bytes (b ∷ text) none = absurd (omega arith)

pub not_whole : false ≡ true → ⊥
not_whole e = cc e

-- a line without an end, that is no line where it is empty
abbrev pub cut_at : ℕ → List ℕ → List RawLine
cut_at n l = record { number = n; bytes = l; whole = false } ∷ []

-- the entries are what the lines from here on spell, and their numbers are within bounds
pub record AreEntries (head : Head) (n : ℕ) (text : List ℕ) (entries : List Entry) : Type 0 where
  pub same : flat_map entry_text entries ≡ text
  pub few : n + length entries ≤ max_entries_of head.edition + 2
  pub each : AllByRecursion (IsEntry head) entries

no_entry_cut : (head : Head) (n : ℕ) (l : List ℕ) (entries : List Entry) (empty : Bool) → head.workers ≤ 16 → n ≤ max_entries_of head.edition + 2
    → eqb (length l) 0 ≡ empty → each_of (at_entry head) (cond empty [] (cut_at n l)) ≡ Ok entries → AreEntries head n l entries
unfolding each_of
no_entry_cut head n l entries true few near is e =
    rw (← same_ok e) (record { same = no_bytes l (eqb-true _ _ is); few = omega arith; each = tt })
no_entry_cut head n l entries false few near is e =
    step_found (at_entry head (record { number = n; bytes = l; whole = false })) _ e λ first is_first e.
    absurd (not_whole (entry_found head _ first few is_first).whole)

no_head_cut : (l : List ℕ) (j : Written) (empty : Bool) → journal_in (cond empty [] (cut_at 1 l)) ≡ Ok j → ⊥
unfolding journal_in
no_head_cut l j true e = cc e
no_head_cut l j false e =
    let first : RawLine = record { number = 1; bytes = l; whole = false } in
    step_found (in_line 1 (head_of first)) _ e λ head is_head e.
    not_whole (head_found first head (in_line_found 1 (head_of first) is_head)).whole

-- entries of the workers, and what their types hold
pub both : (head : Head) (entries : List Entry) → AllByRecursion (IsEntry head) entries
    → AllByRecursion (IsEntryOf head.edition head.workers) entries × AllByRecursion IsHeld entries
both head [] fits = (tt, tt)
both head (e ∷ entries) fits = let rest = both head entries fits.1 in ((fits.0.0, rest.0), (fits.0.1, rest.1))

pub entries_found : (head : Head) (n : ℕ) (ls : List (List ℕ)) (entries : List Entry) → head.workers ≤ 16 → n ≤ max_entries_of head.edition + 2
    → each_of (at_entry head) (raw_lines_from n ls) ≡ Ok entries → AreEntries head n (join_with_byte 10 ls) entries
unfolding raw_lines_from each_of
entries_found head n [] entries few near e = rw (← same_ok e) (record { same = refl; few = omega arith; each = tt })
entries_found head n (l ∷ []) entries few near e = no_entry_cut head n l entries _ few near refl e
entries_found head n (l ∷ m ∷ ls) entries few near e =
    step_found (at_entry head (record { number = n; bytes = l; whole = true })) _ e λ first is_first e.
    step_found (each_of (at_entry head) (raw_lines_from (n + 1) (m ∷ ls))) _ e λ others are_others e.
    let so = entry_found head _ first few is_first in
    let rest = entries_found head (n + 1) (m ∷ ls) others few (omega (arith, so.few)) are_others in
    rw (← same_ok e) (record {
      same = line_then _ l _ _ so.text rest.same;
      few = omega (arith, rest.few);
      each = (so.fits, rest.each);
    })

lines_found : (ls : List (List ℕ)) (j : Written) → journal_in (raw_lines_from 1 ls) ≡ Ok j
    → (journal_spelling j ≡ join_with_byte 10 ls) × IsJournal j × AllByRecursion IsHeld j.entries
unfolding raw_lines_from journal_in
lines_found [] j e = absurd (cc e)
lines_found (l ∷ []) j e = absurd (no_head_cut l j _ e)
lines_found (l ∷ m ∷ ls) j e =
    let first : RawLine = record { number = 1; bytes = l; whole = true } in
    step_found (in_line 1 (head_of first)) _ e λ head is_head e.
    step_found (each_of (at_entry head) (raw_lines_from 2 (m ∷ ls))) _ e λ entries are_entries e.
    let so = head_found first head (in_line_found 1 (head_of first) is_head) in
    let rest = entries_found head 2 (m ∷ ls) entries so.fits.1 (omega arith) are_entries in
    rw (← same_ok e) (
      line_then (join_with_byte 32 (head_words head.edition head.workers)) l (flat_map entry_text entries) _ so.text rest.same,
      record {
        workers = so.fits;
        few = omega (arith, rest.few);
        each = All-from_recursion (IsEntryOf head.edition head.workers) entries (both head entries rest.each).0;
      },
      (both head entries rest.each).1,
    )

-- a journal that was read is the text in its one spelling: its parts are what its type keeps, and what their types can hold
pub journal_found : (text : List ℕ) (j : Written) → journal_of text ≡ Ok j
    → (journal_spelling j ≡ text) × IsJournal j × AllByRecursion IsHeld j.entries
journal_found text j e =
    let so = lines_found (parts 10 text) j e in
    (so.0 ∙ joined 10 text _ refl, so.1, so.2)

-- what was answered, where it was a journal
pub journal_read_found : (text : List ℕ) (answer : Result Written TextFault) → (answer ≡ journal_of text) ⊎ (answer ≡ Err want_of_memory)
    → IfOk answer (λ j. journal_spelling j ≡ text) × IfOk answer (λ j. AllByRecursion IsHeld j.entries)
journal_read_found text (Ok j) (inl e) = let so = journal_found text j (sym e) in (so.0, so.2)
journal_read_found text (Ok j) (inr e) = absurd (cc e)
journal_read_found text (Err fault) e = (tt, tt)
