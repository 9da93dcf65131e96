-- Paths, kinds and owners that are spelled out are read again; and words are of bytes that print.
use Rattle.std.proofs.Common.{◌≡◌, ℕ, ◌-◌, ◌<◌, ◌^◌, true, false, not, eqb, List, [], ◌∷◌, Option, Some, None, Ok, refl, arith, codes, decimal}
use Rattle.std.specs.List.{list_all}
use Rattle.std.specs.Char.{is_ascii_digit}
use Rattle.std.specs.Str.{bytes_eq}
use Rattle.std.proofs.lemmas.Bool.Decides.{nat_tests}
use Rattle.std.proofs.lemmas.List.Sums.{list_all-from_AllPass}
use Rattle.hex.specs.Hex.{encode_lower, is_hex_digit, IsBytes}
use Rattle.hex.proofs.HexLemmas.{decode_of-ok}
use Rattle.qrules.specs.declared.kind.Kind.{Kind}
use Rattle.qrules.specs.declared.kind.Kind.TheVariants.{User, Group, Project}
use Rattle.qrules.specs.Kinds.{is_same_kind}
use Rattle.qplain.specs.Paths.{ArePathBytes, is_path_byte}
use Rattle.qplain.specs.declared.edition.Edition.{Edition}
use Rattle.qplain.specs.declared.edition.Edition.TheVariants.{One, Two}
use Rattle.qtext.specs.declared.text_fault.TextKind.TheVariants.{BadNumber}
use Rattle.qtext.specs.Words.{is_text_byte, id_of}
use Rattle.qtext.specs.Pieces.{data_text}
use Rattle.qtext.specs.RuleWords.{kind_text}
use Rattle.qtext.proofs.Joining.{passes_weaker}
use Rattle.qtext.proofs.WordsAgain.{are_digits, decoded, number_again}
use Rattle.qtext_read.specs.Arguments.{path_of, kind_of, project_kind_of, owner_of}
use Rattle.qtext_read.specs.Spelling.{owner_text}
use Rattle.qplain.specs.Ranges.{IsOwner}
use Rattle.qtext_read.proofs.Editions.{OnlyInTwo}

digit_is_word : (b : ℕ) → is_ascii_digit b ≡ true → is_path_byte b ≡ true
digit_is_word b e = grind (arith, nat_tests)

hex_is_word : (b : ℕ) → is_hex_digit b ≡ true → is_path_byte b ≡ true
hex_is_word b e = grind (arith, nat_tests)

pub word_lacks_space : (b : ℕ) → is_path_byte b ≡ true → not (eqb b 32) ≡ true
word_lacks_space b e = grind (arith, nat_tests)

pub word_is_text : (b : ℕ) → is_path_byte b ≡ true → is_text_byte b ≡ true
word_is_text b e = grind (arith, nat_tests)

pub decimal_word : (n : ℕ) → n < 2 ^ 64 → list_all is_path_byte (decimal n) ≡ true
decimal_word n lt = passes_weaker is_ascii_digit is_path_byte (decimal n) digit_is_word (are_digits n lt)

pub data_word : (bs : List ℕ) → IsBytes bs → list_all is_path_byte (data_text bs) ≡ true
data_word [] fits = refl
data_word (b ∷ bs) fits =
    passes_weaker is_hex_digit is_path_byte (encode_lower (b ∷ bs)) hex_is_word
    (list_all-from_AllPass is_hex_digit (encode_lower (b ∷ bs)) (decode_of-ok (encode_lower (b ∷ bs)) (b ∷ bs) (decoded b bs fits)).1)

pub path_again : (p : List ℕ) → ArePathBytes p → path_of p ≡ Ok p
unfolding path_of
path_again p is = rw (is.some, is.each) refl

pub kind_word : (k : Kind) → list_all is_path_byte (kind_text k) ≡ true
kind_word User = refl
kind_word Group = refl
kind_word Project = refl

pub kind_again : (edition : Edition) (k : Kind) → OnlyInTwo edition (is_same_kind Project k) → kind_of edition (kind_text k) ≡ Ok k
unfolding kind_of project_kind_of
kind_again edition User old = refl
kind_again edition Group old = refl
kind_again One Project old = absurd (cc (old refl))
kind_again Two Project old = refl

pub any_id : (n : ℕ) → n < 2 ^ 32 → id_of BadNumber (decimal n) ≡ Ok n
any_id n lt = number_again BadNumber (2 ^ 32 - 1) n (omega arith) (omega arith)

pub id_word : (n : ℕ) → n < 2 ^ 32 → list_all is_path_byte (decimal n) ≡ true
id_word n lt = decimal_word n (omega arith)

pub owner_word : (owner : Option ℕ) → IsOwner owner → list_all is_path_byte (owner_text owner) ≡ true
owner_word None is = refl
owner_word (Some id) is = id_word id is

-- digits are no arrow
pub digits_lack_arrow : (w : List ℕ) → list_all is_ascii_digit w ≡ true → bytes_eq w (codes "=>") ≡ false
digits_lack_arrow [] all = refl
digits_lack_arrow (b ∷ w) all = grind (arith, nat_tests)

-- digits are no dash
pub digits_lack_dash : (w : List ℕ) → list_all is_ascii_digit w ≡ true → bytes_eq w (codes "-") ≡ false
digits_lack_dash [] all = refl
digits_lack_dash (b ∷ w) all = grind (arith, nat_tests)

pub owner_again : (owner : Option ℕ) → IsOwner owner → owner_of (owner_text owner) ≡ Ok owner
unfolding owner_of
owner_again None is = refl
owner_again (Some id) is =
    let lt : id < 2 ^ 32 = is in
    rw (digits_lack_dash (decimal id) (are_digits id (omega arith)), any_id id lt) refl
