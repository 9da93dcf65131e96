-- A journal that begins at a place and was read is spelled out as it stood in its text.
use Rattle.std.proofs.Common.{◌≡◌, ◌⊎◌, ℕ, ◌≤◌, ◌<◌, ◌==◌, Bool, true, false, cond, not, List, [], ◌∷◌, ◌++◌, Result, Ok, Err, IfOk, inl, inr, refl, sym, ◌∙◌, arith, tests, codes, decimal}
use Rattle.std.specs.List.{flat_map, join_with_byte, list_all, AllByRecursion}
use Rattle.std.proofs.lemmas.Bool.{eqb-false}
use Rattle.std.proofs.lemmas.List.Elements.{All-from_recursion}
use Rattle.qplain.specs.Held.{IsHeld}
use Rattle.qplain.specs.Journals.{IsEntryOf, IsJournal, IsWorkers}
use Rattle.qtext.specs.declared.text_fault.TextFault.{TextFault}
use Rattle.qtext.specs.declared.text_fault.TextKind.TheVariants.{BadByte, BadHead, Cut}
use Rattle.qtext.specs.Reading.{each_of}
use Rattle.qtext.specs.TextFaults.{want_of_memory}
use Rattle.qtext.specs.Words.{is_text_byte, number_of, parts, words}
use Rattle.qtext.proofs.StepsFound.{joined, not_false, passed, same_ok, step_found}
use Rattle.qtext.proofs.WordsFound.{number_found}
use Rattle.qtext_files.specs.declared.placed.Placed.{Placed}
use Rattle.qtext_files.specs.declared.segment.Segment.{Segment}
use Rattle.qtext_files.specs.RawLines.{RawLine, in_line, raw_lines_from}
use Rattle.qtext_files.specs.Journals.{at_entry, head_in, head_keyword, head_told}
use Rattle.qtext_files.specs.Segments.{MAX_PLACE, from_words, place_of, placed_in, placed_of, placed_told, placed_words, segment_in, segment_of, segment_spelling}
use Rattle.qtext_files.specs.Spelling.{entry_text}
use Rattle.qtext_files.proofs.EntriesFound.{head_told_found, head_in_found, keyword_found}
use Rattle.qtext_files.proofs.JournalsFound.{both, cut_at, entries_found, line_then, not_whole}
use Rattle.qtext_files.proofs.RawLines.{in_line_found}

-- a place that was read is one that a journal may have, and not the first
place_found : (word : List ℕ) (place : ℕ) → place_of word ≡ Ok place → (decimal place ≡ word) × (0 < place) × (place ≤ MAX_PLACE)
unfolding place_of
place_found word place e =
    step_found (number_of BadHead MAX_PLACE word) _ e λ found is e.
    let some = passed (found == 0) (Ok found) BadHead place e in
    let so = number_found BadHead MAX_PLACE word found (omega arith) is in
    rw (← same_ok some.1) (so.0, omega (arith, eqb-false found 0 some.0), so.1)

-- words that were read as a head, and perhaps a place
record AreWords (ws : List (List ℕ)) (placed : Placed) : Type 0 where
  same : placed_words placed.from placed.head.edition placed.head.workers ≡ ws
  fits : IsWorkers placed.head.workers
  low : placed.from ≤ MAX_PLACE

told_found : (q j v n w f p : List ℕ) (placed : Placed) → placed_told q j v n w f p ≡ Ok placed
    → AreWords (q ∷ j ∷ v ∷ n ∷ w ∷ f ∷ p ∷ []) placed
unfolding placed_told
told_found q j v n w f p placed e =
    step_found (head_told q j v n w) _ e λ head is e.
    step_found (head_keyword (codes "from") f) _ e λ word is_f e.
    step_found (place_of p) _ e λ place is_p e.
    let so = head_told_found q j v n w head is in
    let at = place_found p place is_p in
    let more = at.1 in
    let some : (place == 0) ≡ false = grind (arith, tests) in
    let behind : from_words place ≡ f ∷ p ∷ [] = rw (some, at.0, ← keyword_found (codes "from") f word is_f) refl in
    rw (← same_ok e) (record { same = λ i. so.0 i ++ behind i; fits = so.1; low = at.2 })

words_found : (ws : List (List ℕ)) (placed : Placed) → placed_in ws ≡ Ok placed → AreWords ws placed
unfolding placed_in
words_found (q ∷ j ∷ v ∷ n ∷ w ∷ f ∷ p ∷ []) placed e = told_found q j v n w f p placed e
words_found ws placed e =
    step_found (head_in ws) _ e λ head is e.
    let so = head_in_found ws head is in
    rw (← same_ok e) (record { same = so.0; fits = so.1; low = omega arith })

-- a line that is the first
record HoldsPlaced (l : RawLine) (placed : Placed) : Type 0 where
  whole : l.whole ≡ true
  text : join_with_byte 32 (placed_words placed.from placed.head.edition placed.head.workers) ≡ l.bytes
  fits : IsWorkers placed.head.workers
  low : placed.from ≤ MAX_PLACE

placed_found : (l : RawLine) (placed : Placed) → placed_of l ≡ Ok placed → HoldsPlaced l placed
unfolding placed_of
placed_found l placed e =
    let whole = passed (not l.whole) _ Cut placed e in
    let text = passed (not (list_all is_text_byte l.bytes)) _ BadByte placed whole.1 in
    let so = words_found (words l.bytes) placed text.1 in
    record { whole = not_false l.whole whole.0; text = joined 32 l.bytes _ so.same; fits = so.fits; low = so.low }

-- what was read, and what its parts are
pub record IsSegment (text : List ℕ) (s : Segment) : Type 0 where
  pub same : segment_spelling s.from s.journal ≡ text
  pub journal : IsJournal s.journal
  pub held : AllByRecursion IsHeld s.journal.entries

no_first_cut : (l : List ℕ) (s : Segment) (empty : Bool) → segment_in (cond empty [] (cut_at 1 l)) ≡ Ok s → ⊥
unfolding segment_in
no_first_cut l s true e = cc e
no_first_cut l s false e =
    let first : RawLine = record { number = 1; bytes = l; whole = false } in
    step_found (in_line 1 (placed_of first)) _ e λ placed is e.
    not_whole (placed_found first placed (in_line_found 1 (placed_of first) is)).whole

lines_found : (ls : List (List ℕ)) (s : Segment) → segment_in (raw_lines_from 1 ls) ≡ Ok s → IsSegment (join_with_byte 10 ls) s
unfolding raw_lines_from segment_in
lines_found [] s e = absurd (cc e)
lines_found (l ∷ []) s e = absurd (no_first_cut l s _ e)
lines_found (l ∷ m ∷ ls) s e =
    let first : RawLine = record { number = 1; bytes = l; whole = true } in
    step_found (in_line 1 (placed_of first)) _ e λ placed is e.
    step_found (each_of (at_entry placed.head) (raw_lines_from 2 (m ∷ ls))) _ e λ entries are_entries e.
    let so = placed_found first placed (in_line_found 1 (placed_of first) is) in
    let rest = entries_found placed.head 2 (m ∷ ls) entries so.fits.1 (omega arith) are_entries in
    let each = both placed.head entries rest.each in
    rw (← same_ok e) (record {
      same = line_then (join_with_byte 32 (placed_words placed.from placed.head.edition placed.head.workers)) l (flat_map entry_text entries) _ so.text rest.same;
      journal = record {
        workers = so.fits;
        few = omega (arith, rest.few);
        each = All-from_recursion (IsEntryOf placed.head.edition placed.head.workers) entries each.0;
      };
      held = each.1;
    })

-- a journal that was read is the text in its one spelling: its parts are what its type keeps, and what their types can hold
pub segment_found : (text : List ℕ) (s : Segment) → segment_of text ≡ Ok s → IsSegment text s
segment_found text s e =
    let so = lines_found (parts 10 text) s e in
    record { same = so.same ∙ joined 10 text _ refl; journal = so.journal; held = so.held }

-- what was answered, where it was a journal
pub segment_read_found : (text : List ℕ) (answer : Result Segment TextFault) → (answer ≡ segment_of text) ⊎ (answer ≡ Err want_of_memory)
    → IfOk answer (λ s. segment_spelling s.from s.journal ≡ text) × IfOk answer (λ s. AllByRecursion IsHeld s.journal.entries)
segment_read_found text (Ok s) (inl e) = let so = segment_found text s (sym e) in (so.same, so.held)
segment_read_found text (Ok s) (inr e) = absurd (cc e)
segment_read_found text (Err fault) e = (tt, tt)
