-- Words that are cut into pairs.
use Rattle.std.proofs.Common.{◌≡◌, ◌==◌, ◌<◌, ◌+◌, ◌∙◌, ℕ, true, false, List, [], ◌∷◌, ◌++◌, Option, Some, None, Result, Ok, Err, map, take, get_or, length, arith, tests, zero, suc, refl, sym, subst}
use Rattle.std.specs.Prelude.{IfErr, IfOk, string_bytes}
use Rattle.std.specs.Option.{MatchOption}
use Rattle.std.specs.List.{AllZip}
use Rattle.std.specs.Borrow.{Bor}
use Rattle.std.proofs.lemmas.Grind.{get_or_default_zero}
use Rattle.std.proofs.lemmas.List.{map_more}
use Rattle.std.proofs.lemmas.Str.Pattern.{IsSplitOnceResult, split_after, split_parts}
use Rattle.clap.specs.Words.{Text}
use Rattle.qplain.specs.Caller.{Caller}
use Rattle.qtext.specs.declared.text_fault.TextKind.{TextKind}
use Rattle.qtext_read.specs.Callers.{caller_of}
use Rattle.qtext_job.specs.declared.line_fault.LineFault.{LineFault}
use Rattle.qtext_job.specs.declared.pair.Pair.{Pair}
use Rattle.qtext_job.specs.Jobs.{FailsUnless}
use Rattle.qtext_job.specs.Pairs.{ArePairs, IsBoundBy, IsClientOf, IsCutInto, IsPairOf, IsUnbound}
use Rattle.qtext_job.proofs.JobLaws.{unless_weaker}

-- ---- one word

-- both sides of its first colon have something
pub is_cut : (word : Text) (x : Bor Text × Bor Text) → IsSplitOnceResult 58 word (Some x)
    → (length x.0.now == 0) ≡ false → (length x.1.now == 0) ≡ false → IsCutInto word x.0.now x.1.now
is_cut word x found input output =
    let parts = split_parts 58 word (Some x) found (omega arith) in
    record {
      whole = parts.0;
      first = λ p. parts.1 p.0 p.1 (sym (get_or_default_zero x.0.now p.0 58 p.1) ∙ p.2);
      has_input = grind (arith, tests);
      has_output = grind (arith, tests);
    }

-- how a word is cut that is a pair's
pub cut_so : (word input output : Text) (r : Option (Bor Text × Bor Text)) → IsSplitOnceResult 58 word r → IsCutInto word input output
    → MatchOption r ⊥ (λ x. (x.0.now ≡ input) × (x.1.now ≡ output))
cut_so word input output r found cut = split_after 58 word input output r found (omega arith) cut.whole
    (λ i small is. cut.first (i, small, get_or_default_zero input i 58 small ∙ is))

-- a word with nothing before its first colon is none
pub no_input : (word : Text) (x : Bor Text × Bor Text) → IsSplitOnceResult 58 word (Some x) → (length x.0.now == 0) ≡ true
    → (input output : Text) → IsCutInto word input output → ⊥
no_input word x found empty input output cut =
    let same : x.0.now ≡ input = (cut_so word input output (Some x) found cut).0 in
    let none : length x.0.now ≡ 0 = grind (arith, tests) in
    let some : 0 < length x.0.now = rw same cut.has_input in
    omega arith

-- nor one with nothing behind it
pub no_output : (word : Text) (x : Bor Text × Bor Text) → IsSplitOnceResult 58 word (Some x) → (length x.1.now == 0) ≡ true
    → (input output : Text) → IsCutInto word input output → ⊥
no_output word x found empty input output cut =
    let same : x.1.now ≡ output = (cut_so word input output (Some x) found cut).1 in
    let none : length x.1.now ≡ 0 = grind (arith, tests) in
    let some : 0 < length x.1.now = rw same cut.has_output in
    omega arith

-- nor one without a colon
pub no_colon : (word : Text) (r : Option (Bor Text × Bor Text)) → IsSplitOnceResult 58 word r → ((x : Bor Text × Bor Text) → r ≡ Some x → ⊥)
    → (input output : Text) → IsCutInto word input output → ⊥
no_colon word None found none input output cut = cut_so word input output None found cut
no_colon word (Some x) found none input output cut = none x refl

-- ---- who a word is bound to

-- the caller of what stands before the first equals sign
pub is_bound : (word : Text) (caller : Caller) (x : Bor Text × Bor Text) → IsSplitOnceResult 61 word (Some x)
    → caller_of x.0.now ≡ Ok caller → IsBoundBy word caller x.1.now
is_bound word caller x found is =
    let parts = split_parts 61 word (Some x) found (omega arith) in
    record {
      before = x.0.now;
      whole = parts.0;
      first = λ p. parts.1 p.0 p.1 (sym (get_or_default_zero x.0.now p.0 61 p.1) ∙ p.2);
      caller_is = is;
    }

-- how a word is cut that is bound
bound_so : (word : Text) (caller : Caller) (names : Text) (r : Option (Bor Text × Bor Text)) → IsSplitOnceResult 61 word r
    → (b : IsBoundBy word caller names) → MatchOption r ⊥ (λ x. (x.0.now ≡ b.before) × (x.1.now ≡ names))
bound_so word caller names r found b = split_after 61 word b.before names r found (omega arith) b.whole
    (λ i small is. b.first (i, small, get_or_default_zero b.before i 61 small ∙ is))

-- all that the word is bound by is behind that equals sign
pub only_names : (word : Text) (x : Bor Text × Bor Text) → IsSplitOnceResult 61 word (Some x)
    → (caller : Caller) (names : Text) → IsBoundBy word caller names → names ≡ x.1.now
only_names word x found caller names b = sym (bound_so word caller names (Some x) found b).1

-- a word whose first equals sign has no caller before it is not bound
pub no_caller : (word : Text) (x : Bor Text × Bor Text) → IsSplitOnceResult 61 word (Some x) → (kind : TextKind)
    → caller_of x.0.now ≡ Err kind → IsUnbound word
no_caller word x found kind is caller names b =
    let same : x.0.now ≡ b.before = (bound_so word caller names (Some x) found b).0 in
    let none : caller_of b.before ≡ Err kind = rw same at is in
    let some : caller_of b.before ≡ Ok caller = b.caller_is in
    absurd cc

-- nor is one without an equals sign
pub no_equals : (word : Text) (r : Option (Bor Text × Bor Text)) → IsSplitOnceResult 61 word r → ((x : Bor Text × Bor Text) → r ≡ Some x → ⊥)
    → IsUnbound word
no_equals word None found none caller names b = bound_so word caller names None found b
no_equals word (Some x) found none caller names b = none x refl

-- the pair of a word that is not
pub free_pairs : (word : Text) (r : Result Pair LineFault) → IsUnbound word
    → IfOk r (λ p. (p.caller ≡ None) × IsCutInto word (string_bytes p.input) (string_bytes p.output)) → IfOk r (IsPairOf word)
free_pairs word (Ok pair) free is = rw is.0 (free, is.1)
free_pairs word (Err fault) free is = tt

-- some two names that these are cut into
abbrev pub IsCut : Text → Type 0
IsCut names = (input : Text) × (output : Text) × IsCutInto names input output

-- where a word that is bound is a pair's, the names are cut
pub cut_of_bound : (word : Text) (caller : Caller) (names : Text) → IsBoundBy word caller names
    → ((c : Caller) (n : Text) → IsBoundBy word c n → n ≡ names) → (pair : Pair) → IsPairOf word pair → IsCut names
cut_of_bound word caller names bound only pair is = go pair.caller is
  where
    go : (o : Option Caller) → IsClientOf word o (string_bytes pair.input) (string_bytes pair.output) → IsCut names
    go None h = absurd (h.0 caller names bound)
    go (Some c) h = (
      string_bytes pair.input,
      string_bytes pair.output,
      subst (λ n. IsCutInto n (string_bytes pair.input) (string_bytes pair.output)) (only c h.0 h.1) h.2,
    )

-- where one that is not is a pair's, it is cut
pub cut_of_free : (word : Text) → IsUnbound word → (pair : Pair) → IsPairOf word pair → IsCut word
cut_of_free word free pair is = go pair.caller is
  where
    go : (o : Option Caller) → IsClientOf word o (string_bytes pair.input) (string_bytes pair.output) → IsCut word
    go None h = (string_bytes pair.input, string_bytes pair.output, h.1)
    go (Some c) h = absurd (free c h.0 h.1)

-- a fault that is told where no names are cut is told where the word is no pair's
pub unless_cut : (P : Type 0) (word : Text) (r : Result Pair LineFault) → ((pair : Pair) → IsPairOf word pair → P)
    → IfErr r (FailsUnless P) → IfErr r (FailsUnless ((pair : Pair) × IsPairOf word pair))
unless_cut P word (Ok pair) cut h = tt
unless_cut P word (Err fault) cut h = unless_weaker P ((pair : Pair) × IsPairOf word pair) fault (λ is. cut is.0 is.1) h

-- ---- one word after the other

zip_more : {A B : Type 0} (R : A → B → Type 0) (xs : List A) (ys : List B) (x : A) (y : B) → AllZip R xs ys → R x y
    → AllZip R (xs ++ x ∷ []) (ys ++ y ∷ [])
zip_more R [] [] x y all one = (one, tt)
zip_more R [] (b ∷ ys) x y all one = absurd all
zip_more R (a ∷ xs) [] x y all one = absurd all
zip_more R (a ∷ xs) (b ∷ ys) x y all one = (all.0, zip_more R xs ys x y all.1 one)

-- one pair more
pub pairs_more : (words : List (Bor Text)) (i : ℕ) (d : Bor Text) (ps : List Pair) (p : Pair) → i < length words
    → ArePairs (map (λ w. w.now) (take i words)) ps → IsPairOf (get_or words i d).now p
    → ArePairs (map (λ w. w.now) (take (i + 1) words)) (ps ++ p ∷ [])
pairs_more words i d ps p small all one = rw (map_more (λ w. w.now) words i d small) (zip_more IsPairOf _ ps _ p all one)

-- where all words are pairs, each is one
pub pair_at : (words : List (Bor Text)) (i : ℕ) (d : Bor Text) (ps : List Pair) → i < length words
    → ArePairs (map (λ w. w.now) words) ps → (p : Pair) × IsPairOf (get_or words i d).now p
pair_at [] i d ps small all = absurd (omega arith)
pair_at (w ∷ words) i d [] small all = absurd all
pair_at (w ∷ words) zero d (p ∷ ps) small all = (p, all.0)
pair_at (w ∷ words) (suc i) d (p ∷ ps) small all = pair_at words i d ps (omega arith) all.1
