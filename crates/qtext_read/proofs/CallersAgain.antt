-- Callers that are spelled out are read again.
use Rattle.std.proofs.Common.{◌≡◌, ℕ, ◌-◌, ◌≤◌, ◌<◌, ◌^◌, true, not, eqb, leb, List, [], ◌∷◌, length, map, Ok, refl, ap, ◌∙◌, arith, decimal, lit<}
use Rattle.std.specs.List.{list_all, AllByRecursion}
use Rattle.std.specs.Char.{is_ascii_digit}
use Rattle.std.proofs.lemmas.Bool.Decides.{nat_tests}
use Rattle.qplain.specs.Caller.{Caller}
use Rattle.qplain.specs.Paths.{is_path_byte}
use Rattle.qtext.specs.declared.text_fault.TextKind.TheVariants.{BadCred}
use Rattle.qtext.specs.Reading.{each_of}
use Rattle.qtext.specs.Words.{parts}
use Rattle.qtext_read.specs.Callers.{caller_of, caller_in, caller_by, caller_from, few_groups_of, own_ids_of, own_ids_in, groups_of}
use Rattle.qtext_read.specs.Spelling.{caller_text, own_ids_text}
use Rattle.qplain.specs.Held.{IsCaller}
use Rattle.qtext.proofs.Joining.{lacks, parts_join, passes_join, passes_weaker}
use Rattle.qtext.proofs.WordsAgain.{are_digits, digit_lacks, digit_lacks_above, number_again}
use Rattle.qtext_read.proofs.ArgumentsAgain.{decimal_word}

each_number : (gs : List ℕ) → AllByRecursion (λ g. g < 2 ^ 32) gs → groups_of (map decimal gs) ≡ Ok gs
unfolding each_of
each_number [] fits = refl
each_number (g ∷ gs) fits =
    let lt : g < 2 ^ 32 = fits.0 in
    rw (number_again BadCred (2 ^ 32 - 1) g (omega arith) (omega arith), each_number gs fits.1) refl

lacking : (s : ℕ) → s < 48 → (gs : List ℕ) → AllByRecursion (λ g. g < 2 ^ 32) gs → AllByRecursion (λ v. lacks s v ≡ true) (map decimal gs)
lacking s lt [] fits = tt
lacking s lt (g ∷ gs) fits =
    let small : g < 2 ^ 32 = fits.0 in
    (passes_weaker is_ascii_digit (λ b. not (eqb b s)) (decimal g) (digit_lacks s lt) (are_digits g (omega arith)), lacking s lt gs fits.1)

digit_words : (gs : List ℕ) → AllByRecursion (λ g. g < 2 ^ 32) gs → AllByRecursion (λ v. list_all is_path_byte v ≡ true) (map decimal gs)
digit_words [] fits = tt
digit_words (g ∷ gs) fits = let small : g < 2 ^ 32 = fits.0 in (decimal_word g (omega arith), digit_words gs fits.1)

own_ids_parts : (c : Caller) → IsCaller c → parts 58 (own_ids_text c) ≡ decimal c.uid ∷ decimal c.gid ∷ []
own_ids_parts c fits =
    let u : c.uid < 2 ^ 32 = fits.uid in
    let g : c.gid < 2 ^ 32 = fits.gid in
    parts_join 58 (decimal c.uid) (decimal c.gid ∷ []) (
      passes_weaker is_ascii_digit (λ b. not (eqb b 58)) (decimal c.uid) (digit_lacks_above 58 (lit< tt)) (are_digits c.uid (omega arith)),
      (passes_weaker is_ascii_digit (λ b. not (eqb b 58)) (decimal c.gid) (digit_lacks_above 58 (lit< tt)) (are_digits c.gid (omega arith)), tt),
    )

own_ids_again : (c : Caller) → IsCaller c → own_ids_of (decimal c.uid ∷ decimal c.gid ∷ []) ≡ Ok (c.uid, c.gid)
unfolding own_ids_of own_ids_in
own_ids_again c fits =
    let u : c.uid < 2 ^ 32 = fits.uid in
    let g : c.gid < 2 ^ 32 = fits.gid in
    rw (number_again BadCred (2 ^ 32 - 1) c.uid (omega arith) (omega arith), number_again BadCred (2 ^ 32 - 1) c.gid (omega arith) (omega arith)) refl

own_ids_lack : (c : Caller) → IsCaller c → lacks 44 (own_ids_text c) ≡ true
own_ids_lack c fits =
    let u : c.uid < 2 ^ 32 = fits.uid in
    let g : c.gid < 2 ^ 32 = fits.gid in
    passes_join (λ b. not (eqb b 44)) 58 (decimal c.uid ∷ decimal c.gid ∷ []) refl (
      passes_weaker is_ascii_digit (λ b. not (eqb b 44)) (decimal c.uid) (digit_lacks 44 (lit< tt)) (are_digits c.uid (omega arith)),
      (passes_weaker is_ascii_digit (λ b. not (eqb b 44)) (decimal c.gid) (digit_lacks 44 (lit< tt)) (are_digits c.gid (omega arith)), tt),
    )

own_ids_word : (c : Caller) → IsCaller c → list_all is_path_byte (own_ids_text c) ≡ true
own_ids_word c fits =
    let u : c.uid < 2 ^ 32 = fits.uid in
    let g : c.gid < 2 ^ 32 = fits.gid in
    passes_join is_path_byte 58 (decimal c.uid ∷ decimal c.gid ∷ []) refl (decimal_word c.uid (omega arith), (decimal_word c.gid (omega arith), tt))

pub caller_word : (c : Caller) → IsCaller c → list_all is_path_byte (caller_text c) ≡ true
caller_word c fits = passes_join is_path_byte 44 (own_ids_text c ∷ map decimal c.more) refl (own_ids_word c fits, digit_words c.more fits.more)

in_again : (c : Caller) → IsCaller c → caller_in (own_ids_text c ∷ map decimal c.more) ≡ Ok c
unfolding caller_in caller_from caller_by few_groups_of
in_again c fits =
    let most : length c.more ≤ 16 = fits.few in
    let few : leb (length c.more) 16 ≡ true = grind (arith, nat_tests) in
    rw (own_ids_parts c fits, own_ids_again c fits, each_number c.more fits.more, few) refl

pub caller_again : (c : Caller) → IsCaller c → caller_of (caller_text c) ≡ Ok c
caller_again c fits =
    ap caller_in (parts_join 44 (own_ids_text c) (map decimal c.more) (own_ids_lack c fits, lacking 44 (lit< tt) c.more fits.more)) ∙ in_again c fits
