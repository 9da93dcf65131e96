-- What is written out is a script, and a script is left as it is.
use Rattle.std.proofs.Common.{◌≡◌, ◌⊎◌, ℕ, ◌+◌, ◌≤◌, Bool, true, false, cond, not, eqb, ltb, List, [], ◌∷◌, ◌++◌, length, map, Result, Ok, Err, refl, sym, ap, ◌∙◌, arith, append_assoc, codes, inl, inr}
use Rattle.std.specs.Prelude.{nat_lt, IfOk, Option, Some, None}
use Rattle.std.specs.Global.{Global}
use Rattle.std.specs.declared.vec.Vec.{Vec}
use Rattle.std.specs.List.{AllByRecursion, join_with_byte, list_all}
use Rattle.std.specs.Str.{bytes_eq}
use Rattle.std.proofs.lemmas.Bool.{le-ltb}
use Rattle.std.proofs.lemmas.Bool.Decides.{nat_tests}
use Rattle.std.proofs.lemmas.List.{append-nil}
use Rattle.qplain.specs.Setups.{Setting}
use Rattle.qplain.specs.declared.line.Line.{Line}
use Rattle.qtext.specs.declared.text_fault.TextFault.{TextFault}
use Rattle.qtext.specs.declared.text_fault.TextKind.{TextKind}
use Rattle.qtext.specs.declared.text_fault.TextKind.TheVariants.{BadByte, Cut, TooMany}
use Rattle.qtext.specs.Reading.{each_of}
use Rattle.qtext.specs.Words.{is_text_byte, parts, words}
use Rattle.qtext.proofs.StepsFound.{joined, passed, same_ok, step_found}
use Rattle.qtext_read.specs.Callers.{caller_of}
use Rattle.qtext_files.specs.RawLines.{RawLine, raw_lines, raw_lines_from}
use Rattle.qtext_files.specs.Scripts.{at_line, script_line_of, script_of}
use Rattle.qtext_files.proofs.RawLines.{in_line_found, no_line, told_ok}
use Rattle.qtext.specs.TextFaults.{want_of_memory}
use Rattle.qtext_expand.specs.Expansions.{IsScript, expansion, expansion_from, line_expansion, unless_too_many}
use Rattle.qtext_expand.specs.FriendlyCalls.{calls_of}
use Rattle.qtext_expand.specs.FriendlyLines.{Written, as_caller, at_moment, at_told, call_lines, called, friendly_written, head_of_words, line_text, line_written, unless_plain, words_written}
use Rattle.qtext_expand.specs.FriendlyWords.{begins, ended, friendly_words}
use Rattle.qtext_expand.specs.GivesAs.{AreBytes, ReadsBytes}
use Rattle.qtext_expand.specs.Moments.{moment_in, timed}
use Rattle.qtext_expand.specs.Names.{caller_ids}
use Rattle.qtext_expand.specs.Plain.{each_judged, judged, plain_line, plain_moment}
use Rattle.qtext_expand.proofs.PlainLines.{IsPlain, had, line_then, plain_at, plain_found, plain_lacks, whole_line}

-- ---- the lines that are written are plain

judged_plain : (line out : List ℕ) → judged line ≡ Ok out → IsPlain out
unfolding judged
judged_plain line out e = step_found (plain_moment line) _ e λ moment is e. rw (← same_ok e) (plain_found line moment is)

each_plain : (lines outs : List (List ℕ)) → each_judged lines ≡ Ok outs → AllByRecursion IsPlain outs
unfolding each_of
each_plain [] outs e = rw (← same_ok e) tt
each_plain (l ∷ ls) outs e =
    step_found (judged l) _ e λ out is e.
    step_found (each_judged ls) _ e λ others are e.
    rw (← same_ok e) (judged_plain l out is, each_plain ls others are)

-- what is written is plain
abbrev ArePlain : Written → Type 0
ArePlain w = AllByRecursion IsPlain w.lines

call_plain : (s : Setting) (when : ℕ) (who : List ℕ) (ws : List (List ℕ)) (w : Written) → call_lines s when who ws ≡ Ok w → ArePlain w
unfolding call_lines
call_plain s when who ws w e =
    step_found (calls_of s (called s who (timed when ws).rest).rest) _ e λ calls are e.
    step_found (each_judged (map (line_text (head_of_words s when who ws)) calls)) _ e λ lines is e.
    rw (← same_ok e) (each_plain (map (line_text (head_of_words s when who ws)) calls) lines is)

as_plain : (s : Setting) (when : ℕ) (ws : List (List ℕ)) (w : Written) → as_caller s when ws ≡ Ok w → ArePlain w
unfolding as_caller
as_plain s when [] w e = absurd (cc e)
as_plain s when (c ∷ []) w e = step_found (caller_of (caller_ids s c)) _ e λ caller is e. rw (← same_ok e) tt
as_plain s when (c ∷ d ∷ ws) w e = absurd (cc e)

at_told_plain : (who : List ℕ) (moment : Option ℕ) (w : Written) → at_told who moment ≡ Ok w → ArePlain w
at_told_plain who None w e = absurd (cc e)
at_told_plain who (Some n) w e = rw (← same_ok e) tt

at_plain : (when : ℕ) (who : List ℕ) (ws : List (List ℕ)) (w : Written) → at_moment when who ws ≡ Ok w → ArePlain w
unfolding at_moment
at_plain when who [] w e = absurd (cc e)
at_plain when who (m ∷ []) w e = at_told_plain who (moment_in when m) w e
at_plain when who (m ∷ n ∷ ws) w e = absurd (cc e)

either : {A E : Type 0} (P : A → Type 0) (test : Bool) (one other : Result A E) (w : A) → cond test one other ≡ Ok w
    → (one ≡ Ok w → P w) → (other ≡ Ok w → P w) → P w
either P true one other w e f g = f e
either P false one other w e f g = g e

-- what words are written out as that do not tell who calls
abbrev as_at : Setting → ℕ → List ℕ → List (List ℕ) → List ℕ → List (List ℕ) → Result Written TextKind
as_at s when who words v ws = cond (bytes_eq v (codes "at")) (at_moment when who ws) (call_lines s when who words)

words_plain : (s : Setting) (when : ℕ) (who : List ℕ) (ws : List (List ℕ)) (w : Written) → words_written s when who ws ≡ Ok w → ArePlain w
unfolding words_written
words_plain s when who [] w e = rw (← same_ok e) tt
words_plain s when who (v ∷ ws) w e =
    either ArePlain (bytes_eq v (codes "as")) (as_caller s when ws) (as_at s when who (v ∷ ws) v ws) w e (as_plain s when ws w)
    (λ e. either ArePlain (bytes_eq v (codes "at")) (at_moment when who ws) (call_lines s when who (v ∷ ws)) w e
    (at_plain when who ws w) (call_plain s when who (v ∷ ws) w))

friendly_plain : (s : Setting) (when : ℕ) (who bytes : List ℕ) (w : Written) → friendly_written s when who bytes ≡ Ok w → ArePlain w
unfolding friendly_written
friendly_plain s when who bytes w e =
    either ArePlain (begins 35 bytes) _ _ w e (λ e. rw (← same_ok e) tt)
    (λ e. words_plain s when who (friendly_words (words bytes)) w (passed (not (list_all is_text_byte bytes)) _ BadByte w e).1)

unless_plain_plain : (moment : Result ℕ TextKind) (s : Setting) (when : ℕ) (who bytes : List ℕ) (w : Written) → plain_moment bytes ≡ moment
    → unless_plain moment s when who bytes ≡ Ok w → ArePlain w
unless_plain_plain (Ok moment) s when who bytes w is e = rw (← same_ok e) (plain_found bytes moment is, tt)
unless_plain_plain (Err kind) s when who bytes w is e = friendly_plain s when who bytes w e

line_plain : (s : Setting) (when : ℕ) (who : List ℕ) (whole : Bool) (bytes : List ℕ) (w : Written)
    → line_written s when who whole bytes ≡ Ok w → ArePlain w
unfolding line_written
line_plain s when who whole bytes w e =
    unless_plain_plain (plain_moment bytes) s when who bytes w refl (passed (not whole) _ Cut w e).1

-- and few enough
few_found : (before : ℕ) (w x : Written) → unless_too_many before w ≡ Ok x → (w ≡ x) × (before + length w.lines ≤ 65536)
few_found before w x e =
    let few = passed (nat_lt 65536 (before + length w.lines)) (Ok w) TooMany x e in
    (same_ok few.1, not_less (before + length w.lines) few.0)
  where
    not_less : (n : ℕ) → ltb 65536 n ≡ false → n ≤ 65536
    not_less n e = grind (arith, nat_tests)

expansion_plain : (s : Setting) (before when : ℕ) (who : List ℕ) (l : RawLine) (w : Written) → line_expansion s before when who l ≡ Ok w
    → ArePlain w × (before + length w.lines ≤ 65536)
unfolding line_expansion
expansion_plain s before when who l w e =
    step_found (line_written s when who l.whole l.bytes) (unless_too_many before) (in_line_found l.number _ e) λ x is e.
    let few = few_found before x w e in
    rw (← few.0) (line_plain s when who l.whole l.bytes x is, few.1)

-- ---- so they are a script

-- from this number on the text is read
abbrev IsReadFrom : ℕ → List ℕ → Type 0
IsReadFrom n text = (lines : List Line) × (each_of at_line (raw_lines_from n (parts 10 text)) ≡ Ok lines)

plain_then : (n : ℕ) (bytes rest : List ℕ) → n ≤ 65536 → IsPlain bytes → IsReadFrom (n + 1) rest → IsReadFrom n (bytes ++ 10 ∷ rest)
unfolding each_of at_line
plain_then n bytes rest le plain more =
    let is : at_line (whole_line n bytes) ≡ Ok plain.0 = told_ok n _ plain.0 (plain_at n bytes le ∙ plain.1) in
    (plain.0 ∷ more.0, ap (each_of at_line) (line_then n bytes rest (plain_lacks bytes plain.0 plain.1)) ∙ rw (is, more.1) refl)

lines_then : (n : ℕ) (lines : List (List ℕ)) (rest : List ℕ) → n + length lines ≤ 65537 → AllByRecursion IsPlain lines
    → IsReadFrom (n + length lines) rest → IsReadFrom n (ended lines ++ rest)
lines_then n [] rest le plain more = let same : n + length {A = List ℕ} [] ≡ n = omega arith in rw same at more
lines_then n (l ∷ ls) rest le plain more =
    let near : n ≤ 65536 = omega arith in
    let behind : n + 1 + length ls ≤ 65537 = omega arith in
    let so_many : n + length (l ∷ ls) ≡ n + 1 + length ls = omega arith in
    let others : IsReadFrom (n + 1) (ended ls ++ rest) = lines_then (n + 1) ls rest behind plain.1 (rw (← so_many) more) in
    rw (regroup l (ended ls) rest) (plain_then n l (ended ls ++ rest) near plain.0 others)
  where
    regroup : (a b c : List ℕ) → ((a ++ 10 ∷ []) ++ b) ++ c ≡ a ++ 10 ∷ (b ++ c)
    regroup a b c = append_assoc (a ++ 10 ∷ []) b c ∙ append_assoc a (10 ∷ []) (b ++ c)

read_from : (s : Setting) (before when : ℕ) (who : List ℕ) (ls : List RawLine) (text : List ℕ) → before ≤ 65536
    → expansion_from s before when who ls ≡ Ok text → IsReadFrom (before + 1) text
unfolding expansion_from each_of
read_from s before when who [] text le e = rw (← same_ok e) ([], ap (each_of at_line) (no_line (before + 1)))
read_from s before when who (l ∷ ls) text le e =
    step_found (line_expansion s before when who l) _ e λ w is e.
    step_found (expansion_from s (before + length w.lines) w.when w.who ls) _ e λ others are e.
    let plain = expansion_plain s before when who l w is in
    let more = read_from s (before + length w.lines) w.when w.who ls others plain.1 are in
    let at : before + length w.lines + 1 ≡ before + 1 + length w.lines = omega arith in
    let few : before + 1 + length w.lines ≤ 65537 = omega (arith, plain.1) in
    rw (← same_ok e) (lines_then (before + 1) w.lines others few plain.0 (rw (← at) more))

pub is_script : (s : Setting) (text out : List ℕ) → expansion s text ≡ Ok out → IsScript out
is_script s text out e = read_from s 0 0 [] (raw_lines text) out (omega arith) e

-- ---- and a script is left as it is

plain_written : (s : Setting) (when : ℕ) (who bytes : List ℕ) (line : Line) → plain_line bytes ≡ Ok line
    → line_written s when who true bytes ≡ Ok (record { when = line.moment; who = who; lines = bytes ∷ [] })
unfolding line_written plain_moment
plain_written s when who bytes line e = rw e refl

plain_expansion : (s : Setting) (before when : ℕ) (who bytes : List ℕ) (line : Line) → before + 1 ≤ 65536 → plain_line bytes ≡ Ok line
    → line_expansion s before when who (whole_line (before + 1) bytes)
    ≡ Ok (record { when = line.moment; who = who; lines = bytes ∷ [] })
unfolding line_expansion
plain_expansion s before when who bytes line le e =
    let few : ltb 65536 (before + 1) ≡ false = le-ltb _ _ le in
    rw (plain_written s when who bytes line e, few) refl

cut_is_none : (n : ℕ) (bytes : List ℕ) (line : Line) → at_line (record { number = n; bytes = bytes; whole = false }) ≡ Ok line → ⊥
unfolding at_line script_line_of
cut_is_none n bytes line e =
    let near = passed (nat_lt 65536 n) _ TooMany line (in_line_found n _ e) in
    cc near.1

unended : (n b : ℕ) (bs : List ℕ) → raw_lines_from n ((b ∷ bs) ∷ []) ≡ record { number = n; bytes = b ∷ bs; whole = false } ∷ []
unfolding raw_lines_from
unended n b bs = let some : eqb (length (b ∷ bs)) 0 ≡ false = grind (arith, nat_tests) in rw some refl

-- a text that is its lines, each with its end
same_from : (s : Setting) (before when : ℕ) (who : List ℕ) (ps : List (List ℕ)) (lines : List Line)
    → each_of at_line (raw_lines_from (before + 1) ps) ≡ Ok lines
    → expansion_from s before when who (raw_lines_from (before + 1) ps) ≡ Ok (join_with_byte 10 ps)
unfolding expansion_from each_of raw_lines_from
same_from s before when who [] lines e = refl
same_from s before when who (l ∷ []) lines e = by l e
  where
    by : (l : List ℕ) → each_of at_line (raw_lines_from (before + 1) (l ∷ [])) ≡ Ok lines
        → expansion_from s before when who (raw_lines_from (before + 1) (l ∷ [])) ≡ Ok (join_with_byte 10 (l ∷ []))
    by [] e = refl
    by (b ∷ bs) e = step_found (at_line (record { number = before + 1; bytes = b ∷ bs; whole = false })) _
        (rw (unended (before + 1) b bs) at e)
        λ line is e. absurd (cut_is_none (before + 1) (b ∷ bs) line is)
same_from s before when who (l ∷ m ∷ ps) lines e =
    step_found (at_line (whole_line (before + 1) l)) _ e λ line is e.
    step_found (each_of at_line (raw_lines_from (before + 1 + 1) (m ∷ ps))) _ e λ others are e.
    let plain = had (before + 1) l line is in
    let rest = same_from s (before + 1) line.moment who (m ∷ ps) others are in
    rw (plain_expansion s before when who l line plain.0 plain.1, rest) (ap okay (regroup l (join_with_byte 10 (m ∷ ps))))
  where
    okay : List ℕ → Result (List ℕ) TextFault
    okay text = Ok text

    regroup : (a b : List ℕ) → ((a ++ 10 ∷ []) ++ []) ++ b ≡ a ++ 10 ∷ b
    regroup a b = ap (λ (x : List ℕ). x ++ b) (append-nil (a ++ 10 ∷ [])) ∙ append_assoc a (10 ∷ []) b

pub is_same : (s : Setting) (text : List ℕ) (lines : List Line) → script_of text ≡ Ok lines → expansion s text ≡ Ok text
is_same s text lines e = same_from s 0 0 [] (parts 10 text) lines e ∙ ap okay (joined 10 text (parts 10 text) refl)
  where
    okay : List ℕ → Result (List ℕ) TextFault
    okay text = Ok text

-- ---- what was answered

pub script_of_answer : (s : Setting) (text : List ℕ) (r : Result (Vec ℕ Global) TextFault) → ReadsBytes r (expansion s text) → IfOk r (λ v. IsScript v.items)
script_of_answer s text (Ok v) e = is_script s text v.items e
script_of_answer s text (Err fault) e = tt

pub same_of_answer : (s : Setting) (text : List ℕ) (lines : List Line) (r : Result (Vec ℕ Global) TextFault) → ReadsBytes r (expansion s text)
    → script_of text ≡ Ok lines → AreBytes r text ⊎ (r ≡ Err want_of_memory)
same_of_answer s text lines (Ok v) e h = inl (same_ok (sym e ∙ is_same s text lines h))
same_of_answer s text lines (Err fault) (inl e) h = inr (ap failed e)
  where
    failed : TextFault → Result (Vec ℕ Global) TextFault
    failed f = Err f
same_of_answer s text lines (Err fault) (inr e) h =
    let same : Err fault ≡ Ok text = sym e ∙ is_same s text lines h in absurd (cc same)
