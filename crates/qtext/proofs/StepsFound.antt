-- What a reading went through that gave a value.
use Rattle.std.proofs.Common.{◌≡◌, ℕ, Bool, true, false, not, cond, List, [], ◌∷◌, map, Result, Ok, Err, refl, sym, ap, ◌∙◌, subst}
use Rattle.std.specs.List.{AllByRecursion, join_with_byte}
use Rattle.std.specs.Str.{bytes_eq}
use Rattle.std.proofs.lemmas.List.Splits.{join_with_byte-slice_split}
use Rattle.std.proofs.lemmas.Slice.Eq.{bytes_eq-Decides}
use Rattle.qtext.specs.declared.text_fault.TextKind.{TextKind}
use Rattle.qtext.specs.Reading.{◌>>=◌, each_of}
use Rattle.qtext.specs.Words.{parts}

-- what a reader takes is spelled so, and is what its type can hold
abbrev pub Spells : {A : Type 0} → (A → List ℕ) → (A → Type 0) → (List ℕ → Result A TextKind) → Type 0
Spells {A} text Is read = (word : List ℕ) (x : A) → read word ≡ Ok x → (text x ≡ word) × Is x

pub same_ok : {A E : Type 0} {x y : A} → ◌≡◌ {A = Result A E} (Ok x) (Ok y) → x ≡ y
same_ok e = cc e

-- where a step and what follows it give a value, both do
pub step_found : {A B E P : Type 0} {y : B} (first : Result A E) (next : A → Result B E) → (first >>= next) ≡ Ok y
    → ((x : A) → first ≡ Ok x → next x ≡ Ok y → P) → P
step_found (Ok x) next e goal = goal x refl e
step_found (Err fault) next e goal = absurd (cc e)

-- the same of a step that reads a word
pub word_found : {A B P : Type 0} {y : B} {text : A → List ℕ} {Is : A → Type 0} {read : List ℕ → Result A TextKind} → Spells text Is read
    → (word : List ℕ) (next : A → Result B TextKind) → (read word >>= next) ≡ Ok y
    → ((x : A) → text x ≡ word → Is x → next x ≡ Ok y → P) → P
word_found {read = read} law word next e goal = step_found (read word) next e (λ x is more. let so = law word x is in goal x so.0 so.1 more)

-- words that were read one after the other
pub words_found : {A : Type 0} {text : A → List ℕ} {Is : A → Type 0} {read : List ℕ → Result A TextKind} → Spells text Is read
    → (words : List (List ℕ)) (xs : List A) → each_of read words ≡ Ok xs → (map text xs ≡ words) × AllByRecursion Is xs
unfolding each_of
words_found law [] xs e = rw (← same_ok e) (refl, tt)
words_found {read = read} law (w ∷ words) xs e =
    word_found law w _ e λ x is fits e.
    step_found (each_of read words) _ e λ others are e.
    let so = words_found law words others are in
    rw (← same_ok e) (rw (is, so.0) refl, (fits, so.1))

-- a test that refuses what fails
pub kept : {A E : Type 0} (test : Bool) (first : Result A E) (fault : E) (y : A) → cond test first (Err fault) ≡ Ok y
    → (test ≡ true) × (first ≡ Ok y)
kept true first fault y e = (refl, e)
kept false first fault y e = absurd (cc e)

-- a test that refuses what passes
pub passed : {A E : Type 0} (test : Bool) (first : Result A E) (fault : E) (y : A) → cond test (Err fault) first ≡ Ok y
    → (test ≡ false) × (first ≡ Ok y)
passed false first fault y e = (refl, e)
passed true first fault y e = absurd (cc e)

pub not_false : (test : Bool) → not test ≡ false → test ≡ true
not_false true e = refl
not_false false e = absurd (cc e)

-- parts of a text, joined again
pub joined : (separator : ℕ) (text : List ℕ) (words : List (List ℕ)) → words ≡ parts separator text → join_with_byte separator words ≡ text
joined separator text words are = ap (join_with_byte separator) are ∙ join_with_byte-slice_split separator text

pub same_word : (word wanted : List ℕ) → bytes_eq word wanted ≡ true → word ≡ wanted
same_word word wanted e = (bytes_eq-Decides word wanted).0 e

-- a word that stands for a value, and others that may stand for others
pub chosen : {A E : Type 0} (P : A → Type 0) (word wanted : List ℕ) (x : A) (others : Result A E) (y : A)
    → cond (bytes_eq word wanted) (Ok x) others ≡ Ok y → (word ≡ wanted → P x) → (others ≡ Ok y → P y) → P y
chosen {A} {E} P word wanted x others y e this other = by (bytes_eq word wanted) refl e
  where
    by : (test : Bool) → bytes_eq word wanted ≡ test → cond test (Ok x) others ≡ Ok y → P y
    by true same e = subst P (same_ok e) (this (same_word word wanted same))
    by false same e = other e

-- the same, where values are spelled in a word
pub told : {A E : Type 0} (text : A → List ℕ) (word : List ℕ) (x : A) (others : Result A E) (y : A)
    → (others ≡ Ok y → text y ≡ word) → cond (bytes_eq word (text x)) (Ok x) others ≡ Ok y → text y ≡ word
told text word x others y other e = chosen (λ z. text z ≡ word) word (text x) x others y e sym other
