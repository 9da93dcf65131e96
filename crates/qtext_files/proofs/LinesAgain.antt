-- Words that are spelled out in a line of a text are its words again.
use Rattle.std.proofs.Common.{◌≡◌, ℕ, ◌+◌, Bool, true, not, eqb, List, [], ◌∷◌, ◌++◌, ap, ◌∙◌, refl, append_assoc}
use Rattle.std.specs.List.{join_with_byte, list_all, AllByRecursion}
use Rattle.qplain.specs.Paths.{is_path_byte}
use Rattle.qtext.specs.Words.{is_text_byte, parts, words}
use Rattle.qtext.proofs.Joining.{lacks, parts_first, parts_join, passes_join, passes_weaker}
use Rattle.qtext.proofs.Splitting.{some_part}
use Rattle.qtext.proofs.WordsAgain.{text_lacks_feed}
use Rattle.qtext_read.proofs.ArgumentsAgain.{word_is_text, word_lacks_space}
use Rattle.qtext_read.proofs.CallsAgain.{IsWord}
use Rattle.qtext_files.specs.RawLines.{raw_lines_from}
use Rattle.qtext_files.proofs.RawLines.{more_lines}

weaker_all : (p q : ℕ → Bool) (ws : List (List ℕ)) → ((b : ℕ) → p b ≡ true → q b ≡ true)
    → AllByRecursion (λ w. list_all p w ≡ true) ws → AllByRecursion (λ w. list_all q w ≡ true) ws
weaker_all p q [] f h = tt
weaker_all p q (w ∷ ws) f h = (passes_weaker p q w f h.0, weaker_all p q ws f h.1)

-- words that print, with a space between two of them, are a text
pub joined_is_text : (w : List ℕ) (ws : List (List ℕ)) → AllByRecursion IsWord (w ∷ ws) → list_all is_text_byte (join_with_byte 32 (w ∷ ws)) ≡ true
joined_is_text w ws fits = passes_join is_text_byte 32 (w ∷ ws) refl (weaker_all is_path_byte is_text_byte (w ∷ ws) word_is_text fits)

-- whose words they are
pub joined_parts : (w : List ℕ) (ws : List (List ℕ)) → AllByRecursion IsWord (w ∷ ws) → words (join_with_byte 32 (w ∷ ws)) ≡ w ∷ ws
joined_parts w ws fits = parts_join 32 w ws (weaker_all is_path_byte (λ b. not (eqb b 32)) (w ∷ ws) word_lacks_space fits)

-- and with a line end after them the first line of any text that begins with it
pub raw_again : (n : ℕ) (w : List ℕ) (ws : List (List ℕ)) (rest : List ℕ) → AllByRecursion IsWord (w ∷ ws)
    → raw_lines_from n (parts 10 ((join_with_byte 32 (w ∷ ws) ++ 10 ∷ []) ++ rest))
    ≡ record { number = n; bytes = join_with_byte 32 (w ∷ ws); whole = true } ∷ raw_lines_from (n + 1) (parts 10 rest)
raw_again n w ws rest fits =
    let line : List ℕ = join_with_byte 32 (w ∷ ws) in
    let regrouped : (line ++ 10 ∷ []) ++ rest ≡ line ++ 10 ∷ rest = append_assoc line (10 ∷ []) rest in
    let lacking_feed : lacks 10 line ≡ true = passes_weaker is_text_byte (λ b. not (eqb b 10)) line text_lacks_feed (joined_is_text w ws fits) in
    ap (λ (t : List ℕ). raw_lines_from n (parts 10 t)) regrouped ∙ ap (raw_lines_from n) (parts_first 10 line rest lacking_feed)
    ∙ more_lines n line (parts 10 rest) (some_part 10 rest)
