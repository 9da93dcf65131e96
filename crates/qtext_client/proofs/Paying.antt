-- What turns were taken, and for how many bytes of a line that is passed over.
use Rattle.std.proofs.Common.{◌≡◌, ◌≢◌, ◌<◌, ◌≤◌, ◌+◌, ◌*◌, ◌/◌, ◌%◌, ℕ, All, List, [], ◌++◌, length, Option, Some, None, IfSome, refl, sym, ap, subst, ◌∙◌, arith, length-append}
use Rattle.std.specs.Io.BufRead.{take_through}
use Rattle.std.specs.Io.KnownBytes.{Consumes}
use Rattle.std.proofs.lemmas.List.Elements.{All-append, All-nil}
use Rattle.std.proofs.BufReadLemmas.{take_through-append}
use Rattle.std.proofs.KnownBytes.{Consumes-nil, Consumes-trans}
use Rattle.qtext_client.specs.BoundedLines.{PassesOver, PassesPart}
use Rattle.qtext_client.specs.declared.bounded_line.Passed.TheVariants as passed
use Rattle.qtext_client.specs.Turns.{HaveTaken}
use Rattle.qtext_client.specs.declared.turns.Turns.{Turns}
use Rattle.qtext_client.proofs.LineParts.{line_passed}

-- none was taken
none_taken : (turns : Option Turns) → HaveTaken 0 turns turns
none_taken None = refl
none_taken (Some turns) = (turns, refl, record { each = refl; until = λ _. omega arith })

-- one time behind another
both_last : (each many more until mid new : ℕ) → until + each * many ≤ mid → mid + each * more ≤ new → until + each * (many + more) ≤ new
both_last each many more until mid new first then = grind arith

-- more were taken behind so many
more_taken : (many more : ℕ) (old mid new : Option Turns) → HaveTaken many old mid → HaveTaken more mid new → HaveTaken (many + more) old new
more_taken many more None mid new none then = subst (λ m. HaveTaken more m new) none then
more_taken many more (Some old) mid new (between, is, first) then =
    let (turns, last, second) = subst (λ m. HaveTaken more m new) is then in (
      turns,
      last,
      record {
        each = second.each ∙ first.each;
        until = λ below.
            let later : between.until + old.each * more ≤ turns.until =
            subst (λ e. between.until + e * more ≤ turns.until) first.each (second.until below) in
            both_last old.each many more old.until between.until turns.until (first.until (omega (arith, later, below))) later;
      },
    )

-- a reader has lost this of a line of which N bytes were read before, and turns were taken for all but so many bytes
pub record HasPassed (n : ℕ) (old new : Option (List ℕ)) (before after : Option Turns) (left : ℕ) : Type 0 where
  pub text : List ℕ
  pub many : ℕ
  pub open_yet : All (λ x. x ≢ 10) text
  pub lost : Consumes old new text
  pub turns : HaveTaken many before after
  pub count : many * 1024 + left ≡ n + length text

-- at first
pub first_passed : (n : ℕ) (old : Option (List ℕ)) (before after : Option Turns) → HaveTaken (n / 1024) before after
    → HasPassed n old old before after (n % 1024)
first_passed n old before after turns = record {
  text = [];
  many = n / 1024;
  open_yet = All-nil (λ x. x ≢ 10);
  lost = Consumes-nil old;
  turns = turns;
  count = omega arith;
}

-- of fewer bytes than a KiB no turn is due
pub nothing_due : (left : ℕ) (turns : Option Turns) → left < 1024 → HaveTaken ((left + 0) / 1024) turns turns
nothing_due left turns few = let none : 0 ≡ (left + 0) / 1024 = omega (arith, few) in subst (λ m. HaveTaken m turns turns) none (none_taken turns)

-- of so many bytes and more all but a part of a KiB have taken their turns
kib_more : (many left len n size : ℕ) → many * 1024 + left ≡ n + size
    → (many + (left + len) / 1024) * 1024 + (left + len) % 1024 ≡ n + (size + len)
kib_more many left len n size is = omega (arith, is)

-- a part more
pub part_passed : (n : ℕ) (old mid new : Option (List ℕ)) (before between after : Option Turns) (left rest : ℕ)
    → HasPassed n old mid before between left → PassesPart left mid new between after (passed.More rest) → HasPassed n old new before after rest
part_passed n old mid new before between after left rest has (shown, (part, is, none, taken), turns, rest_is) = record {
  text = has.text ++ part;
  many = has.many + (left + length shown) / 1024;
  open_yet = All-append (λ x. x ≢ 10) has.text part has.open_yet none;
  lost = Consumes-trans old mid new has.text part has.lost taken;
  turns = more_taken has.many ((left + length shown) / 1024) before between after has.turns turns;
  count =
      ap (λ r. (has.many + (left + length shown) / 1024) * 1024 + r) rest_is
      ∙ kib_more has.many left (length shown) n (length has.text) has.count
      ∙ ap (λ m. n + m) (ap (λ m. length has.text + m) (ap length is) ∙ sym (length-append has.text part));
}

-- behind what was lost of it, the line has that and what is left
line_len : (old mid : Option (List ℕ)) (text part : List ℕ) → All (λ x. x ≢ 10) text → Consumes old mid text
    → IfSome mid (λ ys. part ≡ take_through 10 ys) → IfSome old (λ xs. length (take_through 10 xs) ≡ length text + length part)
line_len None mid text part goes_on lost is = tt
line_len (Some xs) None text part goes_on lost is = absurd lost
line_len (Some xs) (Some ys) text part goes_on lost is =
    ap length (ap (take_through 10) lost ∙ take_through-append 10 text ys goes_on ∙ ap (λ l. text ++ l) (sym is)) ∙ length-append text part

-- so many turns were taken for it
paid : (old : Option (List ℕ)) (size n many : ℕ) (before after : Option Turns) → IfSome old (λ xs. length (take_through 10 xs) ≡ size)
    → many ≡ (n + size) / 1024 → HaveTaken many before after
    → IfSome old (λ xs. HaveTaken ((n + length (take_through 10 xs)) / 1024) before after)
paid None size n many before after is all taken = tt
paid (Some xs) size n many before after is all taken =
    subst (λ m. HaveTaken m before after) (all ∙ ap (λ s. (n + s) / 1024) (sym is)) taken

-- with its last part all of it
pub all_passed : (n : ℕ) (old mid new : Option (List ℕ)) (before between after : Option Turns) (left : ℕ)
    → HasPassed n old mid before between left → PassesPart left mid new between after passed.Last → PassesOver n old new before after
all_passed n old mid new before between after left has (part, last, turns) = record {
  rest = line_passed old mid new has.text has.open_yet has.lost last.rest;
  turns =
      paid old (length has.text + length part) n (has.many + (left + length part) / 1024) before after
      (line_len old mid has.text part has.open_yet has.lost last.line)
      (let count = has.count in omega (arith, count))
      (more_taken has.many ((left + length part) / 1024) before between after has.turns turns);
}

-- the turns for a line of which this was read before are those for the first line of all
pub line_paid : (old mid : Option (List ℕ)) (line : List ℕ) (n : ℕ) (start before after : Option Turns) → All (λ x. x ≢ 10) line
    → Consumes old mid line → n ≡ length line → before ≡ start
    → IfSome mid (λ ys. HaveTaken ((n + length (take_through 10 ys)) / 1024) before after)
    → IfSome old (λ xs. HaveTaken (length (take_through 10 xs) / 1024) start after)
line_paid None mid line n start before after goes_on lost all same taken = tt
line_paid (Some xs) None line n start before after goes_on lost all same taken = absurd lost
line_paid (Some xs) (Some ys) line n start before after goes_on lost all same taken =
    let size = line_len (Some xs) (Some ys) line (take_through 10 ys) goes_on lost refl in
    subst (λ m. HaveTaken (m / 1024) start after) (ap (λ m. m + length (take_through 10 ys)) all ∙ sym size)
    (subst (λ b. HaveTaken ((n + length (take_through 10 ys)) / 1024) b after) same taken)
