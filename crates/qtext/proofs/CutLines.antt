-- The first line of a text, cut word by word.
use Rattle.std.proofs.Common.{◌≡◌, ◌≢◌, ℕ, suc, ◌+◌, ◌≤◌, ◌<◌, Bool, true, false, not, cond, ◌&&◌, eqb, List, [], ◌∷◌, ◌++◌, length, take, drop, get_or, map, refl, sym, ap, ◌∙◌, append_assoc, add-one, drop-cons, arith}
use Rattle.std.specs.List.{list_all, onto_first, prefix_len}
use Rattle.std.proofs.Math.Seq.{take-add, take-length, take-suc}
use Rattle.std.proofs.lemmas.Bool.Decides.{nat_tests}
use Rattle.std.proofs.lemmas.List.{take-append-drop, get_or-drop, length-drop, map-append}
use Rattle.std.proofs.lemmas.List.Splits.{slice_split-cons_no}
use Rattle.std.proofs.lemmas.List.Sums.{prefix_len_stops}
use Rattle.qtext.specs.Words.{is_text_byte, is_word_byte, parts, words}
use Rattle.qtext.proofs.Joining.{lacks, not_true, and_true, and_both, parts_first, parts_last, passes_append, passes_weaker}
use Rattle.qtext.proofs.Splitting.{some_part}

-- the bytes that stand before the first that does not print
abbrev pub word_of : List ℕ → List ℕ
word_of text = take (prefix_len is_word_byte text) text

prints_with : (b : ℕ) (text : List ℕ) (first : Bool) → is_word_byte b ≡ first → list_all is_word_byte (word_of text) ≡ true
    → list_all is_word_byte (take (cond first (1 + prefix_len is_word_byte text) 0) (b ∷ text)) ≡ true
prints_with b text true e h =
    let more : 1 + prefix_len is_word_byte text ≡ suc (prefix_len is_word_byte text) = omega arith in
    rw more (and_both (is_word_byte b) (list_all is_word_byte (word_of text)) e h)
prints_with b text false e h = refl

word_prints : (text : List ℕ) → list_all is_word_byte (word_of text) ≡ true
word_prints [] = refl
word_prints (b ∷ text) = prints_with b text (is_word_byte b) refl (word_prints text)

word_is_text : (b : ℕ) → is_word_byte b ≡ true → is_text_byte b ≡ true
word_is_text b e = grind (arith, nat_tests)

word_lacks_space : (b : ℕ) → is_word_byte b ≡ true → not (eqb b 32) ≡ true
word_lacks_space b e = grind (arith, nat_tests)

text_lacks_feed : (b : ℕ) → is_text_byte b ≡ true → not (eqb b 10) ≡ true
text_lacks_feed b e = grind (arith, nat_tests)

-- a word that was found is the last
pub pushed : {A : Type 0} (now : A → List ℕ) (items : List A) (word : A) (bytes : List ℕ) → now word ≡ bytes
    → map now (items ++ word ∷ []) ≡ map now items ++ bytes ∷ []
pushed now items word bytes is = map-append now items (word ∷ []) ∙ rw is refl

-- the words that were found, up to where the next begins
pub record FoundUpTo (text : List ℕ) (start : ℕ) (found : List (List ℕ)) : Type 0 where
  pub within : start ≤ length text
  pub sound : list_all is_text_byte (take start text) ≡ true
  pub cut : (rest : List ℕ) → words (take start text ++ rest) ≡ found ++ words rest

pub found_none : (text : List ℕ) → FoundUpTo text 0 []
found_none text = record { within = omega arith; sound = refl; cut = λ rest. refl }

-- a text from a byte on
at_byte : (text : List ℕ) (at : ℕ) → at < length text → text ≡ take at text ++ get_or text at 0 ∷ drop (at + 1) text
at_byte text at lt =
    sym (take-append-drop at text)
    ∙ ap (λ (l : List ℕ). take at text ++ l) (rw add-one (drop-cons text at 0 lt))

lacks_feed : (text : List ℕ) (at : ℕ) → list_all is_text_byte (take at text) ≡ true → lacks 10 (take at text) ≡ true
lacks_feed text at sound = passes_weaker is_text_byte (λ b. not (eqb b 10)) (take at text) text_lacks_feed sound

-- the word that begins where the words found end
module _ (text : List ℕ) (start end : ℕ) (found : List (List ℕ)) (so : FoundUpTo text start found)
    (is_end : end ≡ start + prefix_len is_word_byte (drop start text)) where
  up_to : take end text ≡ take start text ++ word_of (drop start text)
  up_to = rw is_end (take-add start (prefix_len is_word_byte (drop start text)) text)

  prints : list_all is_word_byte (word_of (drop start text)) ≡ true
  prints = word_prints (drop start text)

  lacks_space : lacks 32 (word_of (drop start text)) ≡ true
  lacks_space = passes_weaker is_word_byte (λ b. not (eqb b 32)) (word_of (drop start text)) word_lacks_space prints

  pub sound_to_end : list_all is_text_byte (take end text) ≡ true
  sound_to_end =
      let word = passes_weaker is_word_byte is_text_byte (word_of (drop start text)) word_is_text prints in
      rw up_to (passes_append is_text_byte (take start text) (word_of (drop start text)) so.sound word)

  -- the words of what stands before its end
  pub words_to_end : words (take end text) ≡ found ++ word_of (drop start text) ∷ []
  words_to_end =
      ap words up_to ∙ so.cut (word_of (drop start text))
      ∙ ap (λ (ws : List (List ℕ)). found ++ ws) (parts_last 32 (word_of (drop start text)) lacks_space)

  -- the words with this one, where nothing stands after it
  pub words_of_last : end ≡ length text → words text ≡ found ++ word_of (drop start text) ∷ []
  words_of_last whole = rw (whole, take-length text) at words_to_end

  pub sound_to_last : end ≡ length text → list_all is_text_byte text ≡ true
  sound_to_last whole = rw (whole, take-length text) at sound_to_end

  -- a line end stands after it
  pub line_at_feed : end < length text → get_or text end 0 ≡ 10 → parts 10 text ≡ take end text ∷ parts 10 (drop (end + 1) text)
  line_at_feed lt feed =
      ap (parts 10) (rw feed at (at_byte text end lt))
      ∙ parts_first 10 (take end text) (drop (end + 1) text) (lacks_feed text end sound_to_end)

  -- nothing stands after it
  pub last_line : end ≡ length text → parts 10 text ≡ text ∷ []
  last_line whole =
      let all : take end text ≡ text = rw whole (take-length text) in
      parts_last 10 text (rw all at (lacks_feed text end sound_to_end))

  -- a space stands after it
  pub found_more : end < length text → get_or text end 0 ≡ 32 → FoundUpTo text (end + 1) (found ++ word_of (drop start text) ∷ [])
  found_more lt space = record {
    within = omega arith;
    sound = rw one_more (passes_append is_text_byte (take end text) (32 ∷ []) sound_to_end refl);
    cut = λ rest. ap words (regroup rest) ∙ so.cut (word_of (drop start text) ++ 32 ∷ rest)
        ∙ ap (λ (ws : List (List ℕ)). found ++ ws) (parts_first 32 (word_of (drop start text)) rest lacks_space)
        ∙ sym (append_assoc found (word_of (drop start text) ∷ []) (words rest));
  }
    where
      one_more : take (end + 1) text ≡ take end text ++ 32 ∷ []
      one_more = rw add-one (take-suc text end 0 lt ∙ rw space refl)

      regroup : (rest : List ℕ) → take (end + 1) text ++ rest ≡ take start text ++ (word_of (drop start text) ++ 32 ∷ rest)
      regroup rest = rw (one_more, up_to) (simp append_assoc)

-- the first part holds a byte that is no separator and has none before it
bad_first : (b : ℕ) (ps : List (List ℕ)) (l : List ℕ) (ls : List (List ℕ)) → is_text_byte b ≡ false
    → onto_first b ps ≡ l ∷ ls → list_all is_text_byte l ≡ false
bad_first b [] l ls bad e = let same : l ≡ b ∷ [] = cc in rw (same, bad) refl
bad_first b (p ∷ ps) l ls bad e = let same : l ≡ b ∷ p = cc in rw (same, bad) refl

and_false : (b : Bool) → (b && false) ≡ false
and_false true = refl
and_false false = refl

bad_after : (x : ℕ) (ps : List (List ℕ)) (l : List ℕ) (ls : List (List ℕ)) → 0 < length ps
    → ((m : List ℕ) (ms : List (List ℕ)) → ps ≡ m ∷ ms → list_all is_text_byte m ≡ false)
    → onto_first x ps ≡ l ∷ ls → list_all is_text_byte l ≡ false
bad_after x [] l ls some bad e = absurd (omega arith)
bad_after x (p ∷ ps) l ls some bad e =
    let same : l ≡ x ∷ p = cc in
    rw (same, bad p ps refl) (and_false (is_text_byte x))

bad_line : (s : ℕ) (xs : List ℕ) (b : ℕ) (ys l : List ℕ) (ls : List (List ℕ)) → lacks s xs ≡ true → eqb b s ≡ false
    → is_text_byte b ≡ false → parts s (xs ++ b ∷ ys) ≡ l ∷ ls → list_all is_text_byte l ≡ false
bad_line s [] b ys l ls h ne bad e =
    bad_first b (parts s ys) l ls bad (sym (slice_split-cons_no (λ c. eqb c s) b ys ne) ∙ e)
bad_line s (x ∷ xs) b ys l ls h ne bad e =
    let k = and_true (not (eqb x s)) (lacks s xs) h in
    bad_after x (parts s (xs ++ b ∷ ys)) l ls (some_part s (xs ++ b ∷ ys))
    (λ m ms f. bad_line s xs b ys m ms k.1 ne bad f)
    (sym (slice_split-cons_no (λ c. eqb c s) x (xs ++ b ∷ ys) (not_true (eqb x s) k.0)) ∙ e)

-- the byte at which a word ends
pub stops_at : (text : List ℕ) (start end : ℕ) → start ≤ length text → end ≡ start + prefix_len is_word_byte (drop start text)
    → end < length text → is_word_byte (get_or text end 0) ≡ false
stops_at text start end le is lt =
    let short : prefix_len is_word_byte (drop start text) < length (drop start text) = omega (arith, length-drop start text) in
    rw (is, ← get_or-drop start text (prefix_len is_word_byte (drop start text)) 0)
    (prefix_len_stops is_word_byte (drop start text) 0 short)

-- a byte that does not print and is no space
pub no_text_byte : (b : ℕ) → is_word_byte b ≡ false → b ≢ 32 → is_text_byte b ≡ false
no_text_byte b e ne = grind (arith, nat_tests)

pub no_text_line : (text : List ℕ) (at : ℕ) (line : List ℕ) (others : List (List ℕ)) → at < length text
    → list_all is_text_byte (take at text) ≡ true → is_text_byte (get_or text at 0) ≡ false → get_or text at 0 ≢ 10
    → parts 10 text ≡ line ∷ others → list_all is_text_byte line ≡ false
no_text_line text at line others lt sound bad inside e =
    let ne : eqb (get_or text at 0) 10 ≡ false = grind (arith, nat_tests) in
    bad_line 10 (take at text) (get_or text at 0) (drop (at + 1) text) line others (lacks_feed text at sound) ne bad
    (ap (parts 10) (sym (at_byte text at lt)) ∙ e)
