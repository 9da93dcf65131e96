-- What a line gains of what a reader shows.
use Rattle.std.proofs.Common.{◌≡◌, ◌≢◌, ◌⊎◌, inl, inr, ℕ, zero, suc, ◌+◌, ◌-◌, ◌<◌, eqb, false, List, [], ◌++◌}
use Rattle.std.proofs.Common.{length, length-append, take, drop, get_or, Option, Some, None, IfSome, All, sym, ap}
use Rattle.std.proofs.Common.{◌∙◌, ◌∷◌, subst, arith, append-nil, refl}
use Rattle.std.specs.Io.{StartsWith}
use Rattle.std.specs.Io.BufRead.{DropsThrough, drop_through, take_through}
use Rattle.std.specs.Io.KnownBytes.{Consumes, Keeps}
use Rattle.std.proofs.lemmas.List.Elements.{All-append, All-nil}
use Rattle.std.proofs.lemmas.List.{drop_at}
use Rattle.std.proofs.KnownBytes.{Consumes-kept, Consumes-nil, Consumes-trans, starts_with_rest}
use Rattle.std.proofs.BufReadLemmas.{take_through-append, drop_through-append, take_through-nil}
use Rattle.qtext_client.specs.BoundedLines.{IsLonger, IsOneLine, Passes, TakesLast, TakesMore}
use Rattle.qtext_client.proofs.FirstLines.{ended_line, open_line, taken_through, through_again, through_grows}

-- nothing was taken
pub takes_nothing : (old new : Option (List ℕ)) (line : List ℕ) → Keeps old new → TakesMore old new line line
takes_nothing old new line kept = ([], sym (append-nil line), All-nil (λ x. x ≢ 10), Consumes-kept old old new [] (Consumes-nil old) kept)

-- the shown part has no line end
pub takes_more : (old new : Option (List ℕ)) (shown before after : List ℕ) (end : ℕ) → end ≡ length (take_through 10 shown) → 0 < end
    → eqb (get_or shown (end - 1) 0) 10 ≡ false → after ≡ before ++ take end shown → Consumes old new (take end shown)
    → TakesMore old new before after
takes_more old new shown before after end is some goes_on is_after taken =
    let whole = open_line shown (end - 1) (omega (arith, is)) goes_on in
    let part : take end shown ≡ shown = ap (λ n. take n shown) is ∙ taken_through shown ∙ whole.0 in
    (take end shown, is_after, subst (All (λ x. x ≢ 10)) (sym part) whole.1, taken)

-- the shown part has the line's end
ended_part : (xs ys shown rest : List ℕ) (i : ℕ) → suc i ≡ length (take_through 10 shown) → get_or shown i 0 ≡ 10
    → xs ≡ shown ++ rest → xs ≡ take (suc i) shown ++ ys → (take (suc i) shown ≡ take_through 10 xs) × (ys ≡ drop_through 10 xs)
ended_part xs ys shown rest i is ends split taken =
    let line = ended_line shown rest i is ends in
    let part : take (suc i) shown ≡ take_through 10 shown = ap (λ n. take n shown) is ∙ taken_through shown in
    let size : length (take (suc i) shown) ≡ suc i = ap length part ∙ sym is in (
      part ∙ sym line.0 ∙ sym (ap (take_through 10) split),
      sym (ap (drop_through 10) split ∙ line.1 ∙ sym (ap (drop (suc i)) split) ∙ ap (drop (suc i)) taken
          ∙ drop_at (take (suc i) shown) ys (suc i) size),
    )

-- the shown part is what the reader had up to its first line end
last_of : (old new : Option (List ℕ)) (shown : List ℕ) (end : ℕ) → end ≡ length (take_through 10 shown)
    → (end ≡ 0) ⊎ (get_or shown (end - 1) 0 ≡ 10) → IfSome old (λ xs. StartsWith xs shown)
    → IfSome old (λ xs. length shown ≡ 0 → xs ≡ []) → Consumes old new (take end shown)
    → IfSome old (λ xs. take end shown ≡ take_through 10 xs) × DropsThrough old new 10
last_of None new shown end is ends front none taken = (tt, tt)
last_of (Some xs) None shown end is ends front none taken = absurd taken
last_of (Some xs) (Some ys) shown zero is ends front none taken =
    let empty : xs ≡ [] = none (ap length (take_through-nil 10 shown (sym is))) in
    (ap (take_through 10) (sym empty), ap Some (sym taken ∙ empty ∙ ap (drop_through 10) (sym empty)))
last_of (Some xs) (Some ys) shown (suc i) is ends front none taken =
    let back : suc i - 1 ≡ i = omega arith in
    let last : get_or shown i 0 ≡ 10 = elim ends [ inl e ↦ absurd (omega (arith, e)) | inr e ↦ subst (λ n. get_or shown n 0 ≡ 10) back e ] in
    let line = ended_part xs ys shown (drop (length shown) xs) i is last (starts_with_rest xs shown front) taken in
    (line.0, ap Some line.1)

-- the line gained that
gains : (old : Option (List ℕ)) (before after part : List ℕ) → after ≡ before ++ part → IfSome old (λ xs. part ≡ take_through 10 xs)
    → IfSome old (λ xs. after ≡ before ++ take_through 10 xs)
gains None before after part is line = tt
gains (Some xs) before after part is line = is ∙ ap (λ l. before ++ l) line

-- the shown part is the last of the line
pub takes_last : (old new : Option (List ℕ)) (shown before after : List ℕ) (end : ℕ) → end ≡ length (take_through 10 shown)
    → (end ≡ 0) ⊎ (get_or shown (end - 1) 0 ≡ 10) → after ≡ before ++ take end shown
    → IfSome old (λ xs. StartsWith xs shown) → IfSome old (λ xs. length shown ≡ 0 → xs ≡ []) → Consumes old new (take end shown)
    → TakesLast old new before after
takes_last old new shown before after end is ends is_after front none taken =
    let last = last_of old new shown end is ends front none taken in
    record {
      shown = shown;
      ends = is_after ∙ ap (λ l. before ++ l) (ap (λ n. take n shown) is ∙ taken_through shown);
      line = gains old before after (take end shown) is_after last.0;
      rest = last.1;
    }

-- nothing is shown, so nothing is left of the line
pub takes_end : (old new : Option (List ℕ)) (shown line : List ℕ) (end : ℕ) → end ≡ length (take_through 10 shown) → end ≡ 0
    → IfSome old (λ xs. StartsWith xs shown) → IfSome old (λ xs. length shown ≡ 0 → xs ≡ []) → Keeps old new
    → TakesLast old new line line
takes_end old new shown line end is ended front none kept =
    let nothing : take end shown ≡ [] = ap (λ n. take n shown) ended in
    takes_last old new shown line line end is (inl ended) (sym (append-nil line) ∙ ap (λ l. line ++ l) (sym nothing)) front none
    (subst (Consumes old new) (sym nothing) (Consumes-kept old old new [] (Consumes-nil old) kept))

-- with the shown part, the line has more than N bytes
pub longer : (n : ℕ) (old : Option (List ℕ)) (shown before : List ℕ) (end : ℕ) → end ≡ length (take_through 10 shown)
    → n < length before + end → IfSome old (λ xs. StartsWith xs shown) → IsLonger n old before
longer n None shown before end is long front = tt
longer n (Some xs) shown before end is long front =
    omega (arith, through_grows shown (drop (length shown) xs), ap (λ l. length (take_through 10 l)) (starts_with_rest xs shown front), is, long)

-- a line that has no line end yet, and what a reader has lost for it
module _ (old mid : Option (List ℕ)) (line : List ℕ) (goes_on : All (λ x. x ≢ 10) line) (lost : Consumes old mid line) where
  -- it goes on
  pub more_lost : (new : Option (List ℕ)) (after : List ℕ) → TakesMore mid new line after → All (λ x. x ≢ 10) after × Consumes old new after
  more_lost new after (part, is, none, taken) =
      rw is (All-append (λ x. x ≢ 10) line part goes_on none, Consumes-trans old mid new line part lost taken)

-- with its last part, it is the first line of all
pub line_read : (old mid new : Option (List ℕ)) (line after : List ℕ) → All (λ x. x ≢ 10) line → Consumes old mid line
    → TakesLast mid new line after → IfSome old (λ xs. after ≡ take_through 10 xs) × DropsThrough old new 10
line_read None mid new line after goes_on lost last = (tt, tt)
line_read (Some xs) None new line after goes_on lost last = absurd lost
line_read (Some xs) (Some ys) new line after goes_on lost last = (
  last.line ∙ sym (ap (take_through 10) lost ∙ take_through-append 10 line ys goes_on),
  last.rest ∙ ap Some (sym (ap (drop_through 10) lost ∙ drop_through-append 10 line ys goes_on)),
)

-- and it is one line
pub whole_line : (old new : Option (List ℕ)) (line after : List ℕ) → All (λ x. x ≢ 10) line → TakesLast old new line after
    → 0 < length after → IsOneLine after
whole_line old new line after goes_on last some =
    let one : take_through 10 (line ++ take_through 10 last.shown) ≡ line ++ take_through 10 last.shown =
    take_through-append 10 line (take_through 10 last.shown) goes_on ∙ ap (λ l. line ++ l) (through_again last.shown) in
    (ap (take_through 10) last.ends ∙ one ∙ sym last.ends, some)

-- what is passed over behind it is the rest of the first line
pub line_passed : (old mid new : Option (List ℕ)) (line : List ℕ) → All (λ x. x ≢ 10) line → Consumes old mid line
    → DropsThrough mid new 10 → DropsThrough old new 10
line_passed None mid new line goes_on lost passed = tt
line_passed (Some xs) None new line goes_on lost passed = absurd lost
line_passed (Some xs) (Some ys) new line goes_on lost passed =
    passed ∙ ap Some (sym (ap (drop_through 10) lost ∙ drop_through-append 10 line ys goes_on))

-- where it has more than N bytes, so has the first line of all
pub line_longer : (n : ℕ) (old mid : Option (List ℕ)) (line : List ℕ) → All (λ x. x ≢ 10) line → Consumes old mid line
    → IsLonger n mid line → IfSome old (λ xs. n < length (take_through 10 xs))
line_longer n None mid line goes_on lost long = tt
line_longer n (Some xs) None line goes_on lost long = absurd lost
line_longer n (Some xs) (Some ys) line goes_on lost long =
    omega (arith, ap length (ap (take_through 10) lost ∙ take_through-append 10 line ys goes_on), length-append line (take_through 10 ys), long)

-- a line of N bytes
line_of : (n : ℕ) → (text : List ℕ) × (take_through 10 text ≡ text) × (length text ≡ n)
line_of zero = ([], refl, refl)
line_of (suc n) = let more = line_of n in (0 ∷ more.0, ap (λ l. 0 ∷ l) more.1, ap suc more.2)

-- what was passed over was a line of more than N bytes
pub passed_over : (n : ℕ) (old new : Option (List ℕ)) → IfSome old (λ xs. n < length (take_through 10 xs)) → DropsThrough old new 10
    → (text : List ℕ) × Passes old new text × (n < length text)
passed_over n None new long rest =
    let line = line_of (suc n) in (
      line.0,
      record { one = (line.1, omega (arith, line.2)); first = tt; rest = tt },
      omega (arith, line.2),
    )
passed_over n (Some xs) new long rest = (
  take_through 10 xs,
  record { one = (through_again xs, omega (arith, long)); first = refl; rest = rest },
  long,
)

-- a line of no bytes is told at the end alone
pub at_end : (old : Option (List ℕ)) (after : List ℕ) → IfSome old (λ xs. after ≡ take_through 10 xs) → length after ≡ 0 → IfSome old (λ xs. xs ≡ [])
at_end None after read none = tt
at_end (Some xs) after read none = take_through-nil 10 xs (omega (arith, ap length read))
