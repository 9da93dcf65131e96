-- A worker's own entries as its history grows, and what its receipts stand for beside them.
use Rattle.std.proofs.Common.{◌≡◌, ◌<◌, ◌≤◌, ℕ, suc, ◌+◌, ◌==◌, true, false, cond, List, [], ◌∷◌, ◌++◌, length, filter, slice_get, Some, Result, refl, sym, ap, subst, ◌∙◌, append-nil, append_assoc, arith}
use Rattle.std.specs.List.{enumerate_from}
use mathlib.Core.List.{IsPrefix}
use Rattle.qplain.specs.declared.call_fault.CallFault.{CallFault}
use Rattle.qplain.specs.declared.entry.Entry.{Entry}
use Rattle.qplain.specs.declared.line.Line.{Line}
use Rattle.qplain.specs.declared.receipt.Receipt.{Receipt}
use Rattle.qplain.specs.Journal.{entries_of}
use Rattle.qplain.specs.Transcripts.{journaled_line, journaled_lines}
use Rattle.qplain_laws.proofs.Playing.{own-one_more}
use Rattle.qshare_history.proofs.Prefixes.{prefix_shorter}
use Rattle.qshare.specs.Calls.{IsAt}
use Rattle.qrun_worker.specs.Work.{IsSubsequence}
use Rattle.qrun_worker.proofs.Subsequences.{among_more, one_more_among}

-- the worker's entries, numbered from here
abbrev pub numbered : ℕ → ℕ → List Entry → List (ℕ × Entry)
numbered n worker es = filter (λ e. e.1.worker == worker) (enumerate_from n es)

numbered-append : (n worker : ℕ) (xs ys : List Entry) → numbered n worker (xs ++ ys) ≡ numbered n worker xs ++ numbered (n + length xs) worker ys
numbered-append n worker [] ys = let place : n ≡ n + 0 = omega arith in ap (λ k. numbered k worker ys) place
numbered-append n worker (x ∷ xs) ys =
    let place : n + 1 + length xs ≡ n + suc (length xs) = omega arith in
    let rest : numbered (n + 1) worker (xs ++ ys) ≡ numbered (n + 1) worker xs ++ numbered (n + suc (length xs)) worker ys =
    numbered-append (n + 1) worker xs ys ∙ ap (λ k. numbered (n + 1) worker xs ++ numbered k worker ys) place in
    elim (x.worker == worker) as (λ b. cond b ((n, x) ∷ numbered (n + 1) worker (xs ++ ys)) (numbered (n + 1) worker (xs ++ ys))
    ≡ cond b ((n, x) ∷ numbered (n + 1) worker xs) (numbered (n + 1) worker xs) ++ numbered (n + suc (length xs)) worker ys) [
      | true ↦ ap (λ es. (n, x) ∷ es) rest
      | false ↦ rest
    ]

-- what is told stays among the worker's own entries as these grow
pub own_grown : (worker : ℕ) (old new : List Entry) (told : List (ℕ × Entry)) → IsPrefix old new → IsSubsequence told (entries_of old worker)
    → IsSubsequence told (entries_of new worker)
own_grown worker old new told more own =
    let parts : entries_of new worker ≡ entries_of old worker ++ numbered (1 + length old) worker more.0 =
    ap (λ j. entries_of j worker) (sym more.1) ∙ numbered-append 1 worker old more.0 in
    subst (IsSubsequence told) (sym parts) (among_more told (entries_of old worker) (numbered (1 + length old) worker more.0) own)

-- and so does one more, which stands after all that was seen
pub own_told : (worker : ℕ) (old new : List Entry) (told : List (ℕ × Entry)) (place : ℕ) (e : Entry) → IsPrefix old new → IsAt new place e
    → length old < place → e.worker ≡ worker → IsSubsequence told (entries_of old worker)
    → IsSubsequence (told ++ (place, e) ∷ []) (entries_of new worker)
own_told worker old new told place e more at later own among =
    let before = at.0 in
    let low : length old ≤ length before = omega (arith, later, at.3) in
    let first : IsPrefix old before = prefix_shorter old before new more (e ∷ at.1, sym at.2) low in
    let here : IsSubsequence (told ++ (length before + 1, e) ∷ []) (entries_of (before ++ e ∷ []) worker) =
    subst (IsSubsequence (told ++ (length before + 1, e) ∷ [])) (sym (own-one_more before e worker own))
    (one_more_among told (entries_of before worker) (length before + 1, e) (own_grown worker old before told first among)) in
    let all : IsPrefix (before ++ e ∷ []) new = (at.1, append_assoc before (e ∷ []) at.1 ∙ sym at.2) in
    subst (λ k. IsSubsequence (told ++ (k, e) ∷ []) (entries_of new worker)) (sym at.3)
    (own_grown worker (before ++ e ∷ []) new (told ++ (length before + 1, e) ∷ []) all here)

-- no answer stands for nothing
pub none_answered : (worker : ℕ) (lines : List Line) → journaled_lines worker lines [] ≡ []
unfolding journaled_lines
none_answered worker [] = refl
none_answered worker (line ∷ lines) = refl

-- one more answer stands for what it does beside its line
pub one_more_answered : (worker : ℕ) (lines : List Line) (answers : List (Result Receipt CallFault)) (line : Line)
    (answer : Result Receipt CallFault) → slice_get lines (length answers) ≡ Some line
    → journaled_lines worker lines (answers ++ answer ∷ []) ≡ journaled_lines worker lines answers ++ journaled_line worker line answer
unfolding journaled_lines
one_more_answered worker [] answers line answer at = absurd cc
one_more_answered worker (l ∷ lines) [] line answer at =
    let same : l ≡ line = cc in
    ap (λ rest. journaled_line worker l answer ++ rest) (none_answered worker lines) ∙ append-nil (journaled_line worker l answer)
    ∙ ap (λ x. journaled_line worker x answer) same
one_more_answered worker (l ∷ lines) (a ∷ answers) line answer at =
    ap (λ rest. journaled_line worker l a ++ rest) (one_more_answered worker lines answers line answer at)
    ∙ sym (append_assoc (journaled_line worker l a) (journaled_lines worker lines answers) (journaled_line worker line answer))
