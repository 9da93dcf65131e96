-- Journals that begin at a place and are spelled out are read again.
use Rattle.std.proofs.Common.{◌≡◌, ◌⊎◌, ℕ, ◌≤◌, ◌<◌, ◌==◌, Bool, true, false, cond, List, [], ◌∷◌, ◌++◌, Result, Ok, Err, inl, inr, refl, sym, ap, subst, ◌∙◌, arith, tests, codes, decimal}
use Rattle.std.specs.List.{flat_map, join_with_byte, AllByRecursion}
use Rattle.std.proofs.lemmas.Bool.{eqb-false, eqb-true}
use Rattle.std.proofs.lemmas.List.Elements.{recursion_from_All}
use Rattle.qplain.specs.declared.edition.Edition.{Edition}
use Rattle.qplain.specs.Held.{IsHeld}
use Rattle.qplain.specs.Journals.{IsEntryOf, IsJournal, IsWorkers, Written}
use Rattle.qtext.specs.declared.text_fault.TextFault.{TextFault}
use Rattle.qtext.specs.declared.text_fault.TextKind.{TextKind}
use Rattle.qtext.specs.declared.text_fault.TextKind.TheVariants.{BadHead}
use Rattle.qtext.specs.Reading.{◌>>=◌}
use Rattle.qtext.specs.TextFaults.{want_of_memory}
use Rattle.qtext.proofs.WordsAgain.{number_again}
use Rattle.qtext_read.proofs.ArgumentsAgain.{decimal_word}
use Rattle.qtext_read.proofs.CallsAgain.{IsWord}
use Rattle.qtext_files.specs.declared.head.Head.{Head}
use Rattle.qtext_files.specs.declared.placed.Placed.{Placed}
use Rattle.qtext_files.specs.declared.segment.Segment.{Segment}
use Rattle.qtext_files.specs.Journals.{head_in, head_keyword, head_told}
use Rattle.qtext_files.specs.Segments.{CanBeReadFrom, MAX_PLACE, from_words, place_of, placed_in, placed_of, placed_text, placed_told, placed_words, segment_in, segment_of, segment_spelling}
use Rattle.qtext_files.specs.Spelling.{edition_text, entry_text, head_words}
use Rattle.qtext_files.proofs.JournalsAgain.{both, each_again, edition_again, entries, head_word, workers_again}
use Rattle.qtext_files.proofs.JournalsWritten.{IsSpelled, all_held}
use Rattle.qtext_files.proofs.LinesAgain.{joined_is_text, joined_parts, raw_again}

-- the words behind a head
from_word_by : (from : ℕ) (first : Bool) → from ≤ MAX_PLACE → AllByRecursion IsWord (cond first [] (codes "from" ∷ decimal from ∷ []))
from_word_by from true low = tt
from_word_by from false low = (refl, (decimal_word from (omega (arith, low)), tt))

from_word : (from : ℕ) → from ≤ MAX_PLACE → AllByRecursion IsWord (from_words from)
from_word from low = from_word_by from (from == 0) low

first_word : (from : ℕ) (edition : Edition) (workers : ℕ) → from ≤ MAX_PLACE → IsWorkers workers
    → AllByRecursion IsWord (placed_words from edition workers)
first_word from edition workers low are =
    both (head_words edition workers) (from_words from) (head_word edition workers are) (from_word from low)

place_again : (place : ℕ) → 0 < place → place ≤ MAX_PLACE → place_of (decimal place) ≡ Ok place
unfolding place_of
place_again place some low =
    let none : (place == 0) ≡ false = grind (arith, tests) in
    rw (number_again BadHead MAX_PLACE place (omega (arith, low)) low, none) refl

told_again : (head : Head) → IsWorkers head.workers
    → head_told (codes "quotafs") (codes "journal") (edition_text head.edition) (codes "workers") (decimal head.workers) ≡ Ok head
unfolding head_told head_keyword
told_again head are = rw (edition_again head.edition, workers_again head.workers are) refl

abbrev at : Head → ℕ → Placed
at head from = record { head = head; from = from }

five : (q j e n w : List ℕ) → placed_in (q ∷ j ∷ e ∷ n ∷ w ∷ []) ≡ (head_told q j e n w >>= λ head. Ok (at head 0))
unfolding placed_in head_in
five q j e n w = refl

seven : (q j e n w f p : List ℕ) → placed_in (q ∷ j ∷ e ∷ n ∷ w ∷ f ∷ p ∷ [])
    ≡ (head_told q j e n w >>= λ head. head_keyword (codes "from") f >>= λ word. place_of p >>= λ place. Ok (at head place))
unfolding placed_in placed_told
seven q j e n w f p = refl

behind_again : (head : Head) (place : ℕ) → 0 < place → place ≤ MAX_PLACE
    → (head_keyword (codes "from") (codes "from") >>= λ word. place_of (decimal place) >>= λ place. Ok (at head place)) ≡ Ok (at head place)
unfolding head_keyword
behind_again head place some low = ap (λ (r : Result ℕ TextKind). r >>= λ n. Ok (at head n)) (place_again place some low)

words_by : (head : Head) (from : ℕ) (first : Bool) → (from == 0) ≡ first → IsWorkers head.workers → from ≤ MAX_PLACE
    → placed_in (head_words head.edition head.workers ++ cond first [] (codes "from" ∷ decimal from ∷ [])) ≡ Ok (at head from)
words_by head from true is are low =
    five (codes "quotafs") (codes "journal") (edition_text head.edition) (codes "workers") (decimal head.workers)
    ∙ ap (λ (r : Result Head TextKind). r >>= λ h. Ok (at h 0)) (told_again head are)
    ∙ ap (λ n. Ok (at head n)) (sym (eqb-true from 0 is))
words_by head from false is are low =
    let more = eqb-false from 0 is in
    seven (codes "quotafs") (codes "journal") (edition_text head.edition) (codes "workers") (decimal head.workers) (codes "from") (decimal from)
    ∙ ap (λ (r : Result Head TextKind). r >>= λ h. head_keyword (codes "from") (codes "from") >>= λ word. place_of (decimal from) >>= λ n. Ok (at h n))
    (told_again head are)
    ∙ behind_again head from (omega (arith, more)) low

words_again : (placed : Placed) → IsWorkers placed.head.workers → placed.from ≤ MAX_PLACE
    → placed_in (placed_words placed.from placed.head.edition placed.head.workers) ≡ Ok placed
words_again placed are low = words_by placed.head placed.from (placed.from == 0) refl are low

first_again : (placed : Placed) → IsWorkers placed.head.workers → placed.from ≤ MAX_PLACE
    → placed_of (record {
      number = 1;
      bytes = join_with_byte 32 (placed_words placed.from placed.head.edition placed.head.workers);
      whole = true;
    }) ≡ Ok placed
unfolding placed_of
first_again placed are low =
    let word = first_word placed.from placed.head.edition placed.head.workers low are in
    rw (joined_is_text _ _ word, joined_parts _ _ word, words_again placed are low) refl

-- what a journal says that is spelled out at a place
pub segment_again : (from : ℕ) (j : Written) → from ≤ MAX_PLACE → IsJournal j → AllByRecursion IsHeld j.entries → CanBeReadFrom from j
unfolding segment_in
segment_again from j low is held =
    let workers : j.workers ≤ 16 = is.workers.1 in
    let few = is.few in
    let placed : Placed = record { head = record { edition = j.edition; workers = j.workers }; from = from } in
    let lines = raw_again 1 (codes "quotafs")
    ((codes "journal" ∷ edition_text j.edition ∷ codes "workers" ∷ decimal j.workers ∷ []) ++ from_words from)
    (flat_map entry_text j.entries) (first_word from j.edition j.workers low is.workers) in
    let each = entries placed.head j.entries (recursion_from_All (IsEntryOf j.edition j.workers) j.entries is.each) held in
    rw (lines, first_again placed is.workers low, each_again placed.head 2 j.entries workers (omega (arith, few)) each) refl

-- what was answered, where a journal was spelled out
pub segment_read_again : (text : List ℕ) (answer : Result Segment TextFault) → (answer ≡ segment_of text) ⊎ (answer ≡ Err want_of_memory)
    → (from : ℕ) (j : Written) → from ≤ MAX_PLACE → IsJournal j → AllByRecursion IsHeld j.entries → text ≡ segment_spelling from j
    → (answer ≡ Ok (record { from = from; journal = j })) ⊎ (answer ≡ Err want_of_memory)
segment_read_again text answer (inl e) from j low is held same = inl (e ∙ ap segment_of same ∙ segment_again from j low is held)
segment_read_again text answer (inr e) from j low is held same = inr e

-- a journal whose entries are spelled out is read again at its place
pub can_be_read_from : (from : ℕ) (j : Written) → from ≤ MAX_PLACE → IsJournal j → AllByRecursion IsSpelled j.entries → CanBeReadFrom from j
can_be_read_from from j low is spelled = segment_again from j low is (all_held j is spelled)

-- the first line, by its parts
pub first_written : (P : List ℕ → Type 0) (from : ℕ) (e f : Edition) (v w : ℕ) → e ≡ f → v ≡ w → P (placed_text from e v)
    → P (placed_text from f w)
first_written P from e f v w same many is = subst P (λ i. placed_text from (same i) (many i)) is
