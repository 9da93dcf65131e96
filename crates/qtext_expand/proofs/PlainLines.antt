-- Lines that stand by themselves.
use Rattle.std.proofs.Common.{◌≡◌, ℕ, ◌+◌, ◌≤◌, Bool, true, false, not, ◌||◌, ◌&&◌, eqb, ltb, List, [], ◌∷◌, ◌++◌, length, Ok, refl, sym, ap, ◌∙◌, arith}
use Rattle.std.specs.Prelude.{nat_lt}
use Rattle.std.specs.List.{list_all, list_any}
use Rattle.std.proofs.lemmas.Bool.{le-ltb}
use Rattle.std.proofs.lemmas.Bool.Decides.{nat_tests}
use Rattle.qplain.specs.declared.line.Line.{Line}
use Rattle.qtext.specs.declared.text_fault.TextKind.TheVariants.{BadByte, TooMany}
use Rattle.qtext.specs.declared.read_fault.ReadFault.{ReadFault}
use Rattle.qtext.specs.declared.read_fault.ReadFault.TheVariants.{Memory, Fault}
use Rattle.qtext.specs.Gives.{Fails}
use Rattle.qtext.specs.Words.{is_text_byte, parts}
use Rattle.qtext.proofs.Joining.{lacks, and_both, parts_first, parts_last, passes_weaker}
use Rattle.qtext.proofs.Splitting.{some_part}
use Rattle.qtext.proofs.StepsFound.{passed, step_found}
use Rattle.qtext.proofs.WordsAgain.{text_lacks_feed}
use Rattle.qtext_files.specs.RawLines.{RawLine, raw_lines_from}
use Rattle.qtext_files.specs.Scripts.{script_line_of, at_line}
use Rattle.qtext_files.proofs.RawLines.{in_line_found, more_lines}
use Rattle.qtext_expand.specs.Plain.{plain_line, plain_moment}

-- a line of this number, with its end
abbrev pub whole_line : ℕ → List ℕ → RawLine
whole_line n bytes = record { number = n; bytes = bytes; whole = true }

-- a line without a line feed, and what follows it
pub line_then : (n : ℕ) (line rest : List ℕ) → lacks 10 line ≡ true
    → raw_lines_from n (parts 10 (line ++ 10 ∷ rest)) ≡ whole_line n line ∷ raw_lines_from (n + 1) (parts 10 rest)
line_then n line rest lack =
    ap (raw_lines_from n) (parts_first 10 line rest lack) ∙ more_lines n line (parts 10 rest) (some_part 10 rest)

-- ---- a line with a line feed in it

or_false : (a b : Bool) → (a || b) ≡ false → (a ≡ false) × (b ≡ false)
or_false false b e = (refl, e)
or_false true b e = absurd (cc e)

not_of : (a : Bool) → a ≡ false → not a ≡ true
not_of a e = rw e refl

none_lacks : (xs : List ℕ) → list_any (λ y. eqb y 10) xs ≡ false → lacks 10 xs ≡ true
none_lacks [] e = refl
none_lacks (x ∷ xs) e =
    let k = or_false (eqb x 10) _ e in
    and_both (not (eqb x 10)) (lacks 10 xs) (not_of _ k.0) (none_lacks xs k.1)

feed_is_no_text : (x : ℕ) → eqb x 10 ≡ true → is_text_byte x ≡ false
feed_is_no_text x e = grind (arith, nat_tests)

and_false : (a b : Bool) → b ≡ false → (a && b) ≡ false
and_false true b e = e
and_false false b e = refl

no_text_by : (b : Bool) (x : ℕ) (xs : List ℕ) → eqb x 10 ≡ b → (b || list_any (λ y. eqb y 10) xs) ≡ true
    → (list_any (λ y. eqb y 10) xs ≡ true → list_all is_text_byte xs ≡ false) → list_all is_text_byte (x ∷ xs) ≡ false
no_text_by true x xs is e others = rw (feed_is_no_text x is) refl
no_text_by false x xs is e others = and_false (is_text_byte x) (list_all is_text_byte xs) (others e)

some_no_text : (xs : List ℕ) → list_any (λ y. eqb y 10) xs ≡ true → list_all is_text_byte xs ≡ false
some_no_text [] e = absurd (cc e)
some_no_text (x ∷ xs) e = no_text_by (eqb x 10) x xs refl e (some_no_text xs)

pub cut_is_no_text : (text first after : List ℕ) → parts 10 text ≡ first ∷ parts 10 after → list_all is_text_byte text ≡ false
cut_is_no_text text first after e = by (list_any (λ y. eqb y 10) text) refl
  where
    by : (b : Bool) → list_any (λ y. eqb y 10) text ≡ b → list_all is_text_byte text ≡ false
    by true some = some_no_text text some
    by false none =
        let one : first ∷ parts 10 after ≡ text ∷ [] = sym e ∙ parts_last 10 text (none_lacks text none) in
        absurd (omega (arith, ap length one, some_part 10 after))

-- ---- a line that was read by itself

pub moment_said : (bytes : List ℕ) (whole : Bool) (line : Line) → whole ≡ true
    → script_line_of (record { number = 1; bytes = bytes; whole = whole }) ≡ Ok line → plain_moment bytes ≡ Ok line.moment
unfolding plain_moment
moment_said bytes true line is e = rw e refl
moment_said bytes false line is e = absurd (cc is)

pub moment_fails : (bytes : List ℕ) (whole : Bool) (fault : ReadFault) → whole ≡ true
    → Fails fault (script_line_of (record { number = 1; bytes = bytes; whole = whole })) → Fails fault (plain_moment bytes)
unfolding plain_moment
moment_fails bytes true Memory is fails = tt
moment_fails bytes true (Fault kind) is fails = rw fails refl
moment_fails bytes false fault is fails = absurd (cc is)

-- ---- a plain line

-- the line is plain
abbrev pub IsPlain : List ℕ → Type 0
IsPlain bytes = (line : Line) × (plain_line bytes ≡ Ok line)

pub plain_found : (bytes : List ℕ) (moment : ℕ) → plain_moment bytes ≡ Ok moment → IsPlain bytes
unfolding plain_moment
plain_found bytes moment e = step_found (plain_line bytes) _ e λ line is e. (line, is)

pub plain_is_text : (bytes : List ℕ) (line : Line) → plain_line bytes ≡ Ok line → list_all is_text_byte bytes ≡ true
unfolding script_line_of
plain_is_text bytes line e = not_not (list_all is_text_byte bytes) (passed (not (list_all is_text_byte bytes)) _ BadByte line e).0
  where
    not_not : (b : Bool) → not b ≡ false → b ≡ true
    not_not true e = refl
    not_not false e = absurd (cc e)

pub plain_lacks : (bytes : List ℕ) (line : Line) → plain_line bytes ≡ Ok line → lacks 10 bytes ≡ true
plain_lacks bytes line e = passes_weaker is_text_byte (λ b. not (eqb b 10)) bytes text_lacks_feed (plain_is_text bytes line e)

-- at any number that a line may have
pub plain_at : (n : ℕ) (bytes : List ℕ) → n ≤ 65536 → script_line_of (whole_line n bytes) ≡ plain_line bytes
unfolding script_line_of
plain_at n bytes le = let few : ltb 65536 n ≡ false = le-ltb _ _ le in rw few refl

-- and a line that a script has
pub had : (n : ℕ) (bytes : List ℕ) (line : Line) → at_line (whole_line n bytes) ≡ Ok line → (n ≤ 65536) × (plain_line bytes ≡ Ok line)
unfolding at_line script_line_of
had n bytes line e =
    let near = passed (nat_lt 65536 n) _ TooMany line (in_line_found n (script_line_of (whole_line n bytes)) e) in
    (not_less near.0, near.1)
  where
    not_less : ltb 65536 n ≡ false → n ≤ 65536
    not_less e = grind (arith, nat_tests)
