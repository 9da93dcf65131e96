-- Receipts counted: where all workers together have as many as the journal has entries, each has all of its own.
use Rattle.std.proofs.Common.{◌≡◌, ◌<◌, ◌≤◌, ℕ, suc, ◌+◌, ◌==◌, Bool, true, false, cond, List, [], ◌∷◌, length, map, sum_by, All, Contains, refl, sym, ap, subst, ◌∙◌, arith, tests}
use Rattle.std.proofs.lemmas.List.Elements.{All-cons, All-head, All-nil, All-tail}
use Rattle.std.proofs.lemmas.List.Sums.{sum_by-cons}
use mathlib.Core.List.{IsPrefix}
use Rattle.qplain.specs.declared.entry.Entry.{Entry}
use Rattle.qplain.specs.declared.line.Line.{Line}
use Rattle.qplain.specs.declared.transcript.Transcript.{Transcript}
use Rattle.qplain.specs.Journal.{entries_of}
use Rattle.qplain.specs.Transcripts.{Belongs, journaled_lines}
use Rattle.qshare_history.specs.Shares.{HandedIn}
use Rattle.qaudit_checks.specs.Gathered.{IsGathered}
use Rattle.qrun.specs.Told.{AreTold, AreToldFrom}
use Rattle.qrun_worker.specs.Work.{IsSubsequence}
use Rattle.qrun_worker.proofs.Owning.{numbered, own_grown}
use Rattle.qrun_worker.proofs.Subsequences.{all_among, among_length}

abbrev one_if : Bool → ℕ
one_if b = cond b 1 0

-- how many transcripts are this worker's
abbrev owners : ℕ → List Transcript → ℕ
owners worker ts = sum_by (λ t. one_if (worker == t.worker)) ts

-- how many entries are of a transcript's worker
abbrev owned : ℕ → List Entry → Transcript → ℕ
owned n journal t = length (numbered n t.worker journal)

-- ---- transcripts of the workers from one number on

-- none is of a worker before it
none_before : (worker : ℕ) (scripts : List (List Line)) (shares : List HandedIn) (ts : List Transcript) (k : ℕ) → AreToldFrom worker scripts shares ts
    → k < worker → owners k ts ≡ 0
unfolding AreToldFrom
none_before worker [] [] [] k told less = refl
none_before worker (l ∷ scripts) (s ∷ shares) (t ∷ ts) k told less =
    let other : (k == t.worker) ≡ false = grind (arith, tests, less, told.0.worker_is) in
    let rest = none_before (worker + 1) scripts shares ts k told.1 (omega (arith, less)) in
    omega (arith, sum_by-cons (λ (t : Transcript). one_if (k == t.worker)) t ts, ap one_if other, rest)
none_before worker [] (s ∷ shares) ts k told less = absurd told
none_before worker [] [] (t ∷ ts) k told less = absurd told
none_before worker (l ∷ scripts) [] ts k told less = absurd told
none_before worker (l ∷ scripts) (s ∷ shares) [] k told less = absurd told

-- and no two are of one worker
at_most_one : (worker : ℕ) (scripts : List (List Line)) (shares : List HandedIn) (ts : List Transcript) (k : ℕ) → AreToldFrom worker scripts shares ts
    → owners k ts ≤ 1
unfolding AreToldFrom
at_most_one worker [] [] [] k told = omega arith
at_most_one worker (l ∷ scripts) (s ∷ shares) (t ∷ ts) k told =
    by (k == t.worker) refl (none_before (worker + 1) scripts shares ts k told.1) (at_most_one (worker + 1) scripts shares ts k told.1)
  where
    parts : owners k (t ∷ ts) ≡ one_if (k == t.worker) + owners k ts
    parts = sum_by-cons (λ (t : Transcript). one_if (k == t.worker)) t ts

    by : (b : Bool) → (k == t.worker) ≡ b → (k < worker + 1 → owners k ts ≡ 0) → owners k ts ≤ 1 → owners k (t ∷ ts) ≤ 1
    by true is none few =
        let next : k < worker + 1 = grind (arith, tests, is, told.0.worker_is) in
        omega (arith, parts, ap one_if is, none next)
    by false is none few = omega (arith, parts, ap one_if is, few)
at_most_one worker [] (s ∷ shares) ts k told = absurd told
at_most_one worker [] [] (t ∷ ts) k told = absurd told
at_most_one worker (l ∷ scripts) [] ts k told = absurd told
at_most_one worker (l ∷ scripts) (s ∷ shares) [] k told = absurd told

-- a worker who has one is among their workers
has_one : (k : ℕ) (ts : List Transcript) → 0 < owners k ts → Contains (map (λ t. t.worker) ts) k
has_one k [] some = absurd (omega (arith, some))
has_one k (t ∷ ts) some = by (k == t.worker) refl (has_one k ts)
  where
    parts : owners k (t ∷ ts) ≡ one_if (k == t.worker) + owners k ts
    parts = sum_by-cons (λ (t : Transcript). one_if (k == t.worker)) t ts

    by : (b : Bool) → (k == t.worker) ≡ b → (0 < owners k ts → Contains (map (λ t. t.worker) ts) k)
        → Contains (map (λ t. t.worker) (t ∷ ts)) k
    by true is behind = let same : t.worker ≡ k = grind (arith, tests, is) in (0, omega arith, same)
    by false is behind =
        let rest = behind (omega (arith, some, parts, ap one_if is)) in
        (suc rest.0, omega (arith, rest.1), rest.2)

-- ---- entries

-- one entry more is one more of its worker's
owned-cons : (n : ℕ) (e : Entry) (journal : List Entry) (t : Transcript) → owned n (e ∷ journal) t ≡ one_if (e.worker == t.worker) + owned (n + 1) journal t
owned-cons n e journal t =
    elim (e.worker == t.worker) as (λ b. length (cond b ((n, e) ∷ numbered (n + 1) t.worker journal) (numbered (n + 1) t.worker journal))
    ≡ one_if b + owned (n + 1) journal t) [
      | true ↦ omega arith
      | false ↦ omega arith
    ]

all-cons : (n : ℕ) (e : Entry) (journal : List Entry) (ts : List Transcript)
    → sum_by (owned n (e ∷ journal)) ts ≡ owners e.worker ts + sum_by (owned (n + 1) journal) ts
all-cons n e journal [] = refl
all-cons n e journal (t ∷ ts) =
    omega (
      arith,
      sum_by-cons (owned n (e ∷ journal)) t ts,
      owned-cons n e journal t,
      all-cons n e journal ts,
      sum_by-cons (λ (t : Transcript). one_if (e.worker == t.worker)) t ts,
      sum_by-cons (owned (n + 1) journal) t ts,
    )

none_owned : (n : ℕ) (ts : List Transcript) → sum_by (owned n []) ts ≡ 0
none_owned n [] = refl
none_owned n (t ∷ ts) = omega (arith, sum_by-cons (owned n []) t ts, none_owned n ts)

-- where no worker has two transcripts, all workers' entries are no more than the journal's, and where they are as many,
-- each entry is of a worker who has one
belong_by : (n : ℕ) (journal : List Entry) (ts : List Transcript) → ((k : ℕ) → owners k ts ≤ 1)
    → (sum_by (owned n journal) ts ≤ length journal) × (length journal ≤ sum_by (owned n journal) ts → All (Belongs ts) journal)
belong_by n [] ts one = (omega (arith, none_owned n ts), λ many. All-nil (Belongs ts))
belong_by n (e ∷ journal) ts one =
    let rest = belong_by (n + 1) journal ts one in
    let parts = all-cons n e journal ts in
    let few : owners e.worker ts ≤ 1 = one e.worker in (
      omega (arith, parts, few, rest.0),
      λ many. All-cons (Belongs ts) e journal (has_one e.worker ts (omega (arith, many, parts, few, rest.0)))
          (rest.1 (omega (arith, many, parts, few, rest.0))),
    )

-- ---- receipts

-- the receipts of a transcript are its worker's own entries
abbrev AreOwn : List Entry → Transcript → Type 0
AreOwn journal t = journaled_lines t.worker t.lines t.answers ≡ entries_of journal t.worker

-- workers have counted no more calls than entries are theirs, and where these are as many, their receipts are all of them
own_by : (worker : ℕ) (scripts : List (List Line)) (shares : List HandedIn) (ts : List Transcript) (journal : List Entry)
    → AreToldFrom worker scripts shares ts → All (λ s. IsPrefix s.seen journal) shares
    → (sum_by (λ s. s.tally.calls) shares ≤ sum_by (owned 1 journal) ts)
    × (sum_by (owned 1 journal) ts ≤ sum_by (λ s. s.tally.calls) shares → All (AreOwn journal) ts)
unfolding AreToldFrom
own_by worker [] [] [] journal told seen = (omega arith, λ many. All-nil (AreOwn journal))
own_by worker (lines ∷ scripts) (s ∷ shares) (t ∷ ts) journal told seen =
    let one = told.0 in
    let Seen : HandedIn → Type 0 = λ s. IsPrefix s.seen journal in
    let calls : HandedIn → ℕ = λ s. s.tally.calls in
    let receipts = journaled_lines t.worker t.lines t.answers in
    let same : journaled_lines worker lines t.answers ≡ receipts = rw (one.worker_is, one.lines_are) refl in
    let among : IsSubsequence receipts (entries_of journal t.worker) =
    subst (λ w. IsSubsequence receipts (entries_of journal w)) (sym one.worker_is)
    (subst (λ told. IsSubsequence told (entries_of journal worker)) same
    (own_grown worker s.seen journal (journaled_lines worker lines t.answers) (All-head Seen s shares seen) one.work.are.own)) in
    let few = among_length receipts (entries_of journal t.worker) among in
    let many : calls s ≡ length receipts = one.work.are.counted ∙ ap length same in
    let rest = own_by (worker + 1) scripts shares ts journal told.1 (All-tail Seen s shares seen) in
    let all = sum_by-cons calls s shares in
    let owns = sum_by-cons (owned 1 journal) t ts in (
      omega (arith, few, many, rest.0, all, owns),
      λ more. All-cons (AreOwn journal) t ts (all_among receipts (entries_of journal t.worker) among (omega (arith, more, few, many, rest.0, all, owns)))
          (rest.1 (omega (arith, more, few, many, rest.0, all, owns))),
    )
own_by worker [] (s ∷ shares) ts journal told seen = absurd told
own_by worker [] [] (t ∷ ts) journal told seen = absurd told
own_by worker (l ∷ scripts) [] ts journal told seen = absurd told
own_by worker (l ∷ scripts) (s ∷ shares) [] journal told seen = absurd told

-- so where the calls that workers have counted are the journal's length, journal and transcripts tell the same
pub all_gathered : (scripts : List (List Line)) (shares : List HandedIn) (ts : List Transcript) (journal : List Entry)
    → AreTold scripts shares ts → All (λ s. IsPrefix s.seen journal) shares → sum_by (λ s. s.tally.calls) shares ≡ length journal
    → IsGathered journal ts
all_gathered scripts shares ts journal told seen counted =
    let own = own_by 1 scripts shares ts journal told seen in
    let belong = belong_by 1 journal ts (λ k. at_most_one 1 scripts shares ts k told) in
    record { own = own.1 (omega (arith, counted, belong.0)); belong = belong.1 (omega (arith, counted, own.0)) }
