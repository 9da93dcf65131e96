use Rattle.std.proofs.Common.{◌≡◌, ◌≤◌, ℕ, Bor, List, length, map, take, nat_lt, false, rules, sym, ap, ◌∙◌}
use Rattle.std.proofs.lemmas.Bool.{le-ltb}
use Rattle.std.proofs.lemmas.List.{length-map}
use Rattle.std.specs.List.{take-map}
use Rattle.qtext_read.specs.Journaled.{counted_call_of, journaled_call_of}
use Rattle.qtext_read.proofs.journaled.counted_call_of.Goals as goal

-- as many words as are counted
enough : (words : List (Bor (List ℕ))) (count : ℕ) → count ≤ length words → nat_lt (length (map (λ word. word.now) words)) count ≡ false
enough words count le = rw (length-map words (λ word. word.now)) (le-ltb _ _ le)

-- the first of them, seen as bytes
first : (words part : List (Bor (List ℕ))) (count : ℕ) → part ≡ take count words
    → take count (map (λ word. word.now) words) ≡ map (λ word. word.now) part
first words part count is = take-map (λ word. word.now) count words ∙ ap (map (λ word. word.now)) (sym is)

pub returns-in_err-call-clause-call : goal.returns-in_err-call-clause-call
unfolding counted_call_of journaled_call_of
returns-in_err-call-clause-call c =
    let cut = c.in-Some.ensures.cases in
    rw (enough c.args.behind.now c.args.count cut.0, first c.args.behind.now c.in-Some.arguments.now c.args.count cut.1)
    (search rules)

pub returns-clause-call : goal.returns-clause-call
unfolding counted_call_of journaled_call_of
returns-clause-call c =
    let cut = c.in-Some.ensures.cases in
    rw (
      enough c.args.behind.now c.args.count cut.0,
      first c.args.behind.now c.in-Some.arguments.now c.args.count cut.1,
      c.in_ok-call.ensures,
    ) (search rules)

pub returns-then-not-in_one_case-clause-call : goal.returns-then-not-in_one_case-clause-call
unfolding counted_call_of journaled_call_of
returns-then-not-in_one_case-clause-call c =
    let cut = c.in-Some.ensures.cases in
    rw (
      enough c.args.behind.now c.args.count cut.0,
      first c.args.behind.now c.in-Some.arguments.now c.args.count cut.1,
      c.in_ok-call.ensures,
    ) (search rules)
