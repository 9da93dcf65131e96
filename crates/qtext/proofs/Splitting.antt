-- The first part of a text.
use Rattle.std.proofs.Common.{◌≡◌, ℕ, ◌<◌, ◌≤◌, ◌+◌, Bool, true, false, cond, eqb, List, [], ◌∷◌, length, take, drop, Option, Some, None, ltb, refl, sym, ◌∙◌, arith}
use Rattle.std.specs.Prelude.{IsNone}
use Rattle.std.specs.Option.{option_map}
use Rattle.std.specs.List.{position_or_len}
use Rattle.std.proofs.lemmas.List.Splits.{slice_split_none, slice_split_first, length-slice_split}
use Rattle.std.proofs.lemmas.List.Sums.{fails_before_first}
use Rattle.std.proofs.lemmas.Bool.{ltb-false}
use borrow.Author.Tests.{ltb-true}
use Rattle.qtext.specs.Words.{parts, parts_after}

-- what `position` answers
found_by : (b : Bool) (p at : ℕ) → cond b (Some p) None ≡ Some at → (b ≡ true) × (at ≡ p)
found_by true p at e = (refl, cc)
found_by false p at e = absurd cc

none_by : (b : Bool) (p : ℕ) → IsNone (cond b (Some p) None) → b ≡ false
none_by true p e = absurd (cc e)
none_by false p e = refl

pub found_at : (p l at : ℕ) (r : Option ℕ) → r ≡ cond (ltb p l) (Some p) None → r ≡ Some at → (p < l) × (at ≡ p)
found_at p l at r e h = let f = found_by (ltb p l) p at (sym e ∙ h) in (ltb-true p l f.0, f.1)

pub none_at : (p l : ℕ) (r : Option ℕ) → r ≡ cond (ltb p l) (Some p) None → r ≡ None → l ≤ p
none_at p l r e h = ltb-false p l (none_by (ltb p l) p (rw (← e, h) refl))

-- a text with a separator in it, and one without
pub parts_at : (s : ℕ) (text : List ℕ) (at : ℕ) → position_or_len (λ b. eqb b s) text < length text → at ≡ position_or_len (λ b. eqb b s) text
    → parts s text ≡ take at text ∷ parts s (drop (at + 1) text)
parts_at s text at lt e = rw (e, slice_split_first (λ b. eqb b s) text 0 lt) refl

pub parts_none : (s : ℕ) (text : List ℕ) → length text ≤ position_or_len (λ b. eqb b s) text → parts s text ≡ text ∷ []
parts_none s text le = slice_split_none (λ b. eqb b s) text (λ k d m. fails_before_first (λ b. eqb b s) text k d (omega arith))

pub some_part : (s : ℕ) (text : List ℕ) → 0 < length (parts s text)
some_part s text = omega (arith, length-slice_split (λ b. eqb b s) text)

-- what the answer of `first_part` says, by what stands after the separator
pub only_part : {A : Type 0} (now : A → List ℕ) (s : ℕ) (text first : List ℕ) (after : Option A)
    → parts s text ≡ first ∷ parts_after s (option_map now after) → after ≡ None → parts s text ≡ first ∷ []
only_part now s text first after h e = rw e at h

pub next_part : {A : Type 0} (now : A → List ℕ) (s : ℕ) (text first : List ℕ) (after : Option A) (x : A)
    → parts s text ≡ first ∷ parts_after s (option_map now after) → after ≡ Some x
    → parts s text ≡ first ∷ parts s (now x)
next_part now s text first after x h e = rw e at h

pub left_parts : {A : Type 0} (now : A → List ℕ) (s : ℕ) (left : Option A) (rest : A) (first : List ℕ) (after : Option A)
    → left ≡ Some rest → parts s (now rest) ≡ first ∷ parts_after s (option_map now after)
    → parts_after s (option_map now left) ≡ first ∷ parts_after s (option_map now after)
left_parts now s left rest first after e h = rw e h

pub no_left : {A : Type 0} (now : A → List ℕ) (s : ℕ) (left : Option A) → left ≡ None → parts_after s (option_map now left) ≡ []
no_left now s left e = rw e refl

pub whole_part : {A : Type 0} (text first : List ℕ) (after : Option A) → (IsNone after → first ≡ text) → after ≡ None → first ≡ text
whole_part text first after h e = h (rw e refl)

-- what is left of a text that is taken part by part
abbrev pub size_of : Option (List ℕ) → ℕ
size_of None = 0
size_of (Some text) = length text + 1
