-- When lines fail because the journal is full: only where it is, and never in a run, whose scripts are too short and too few.
use Rattle.std.proofs.Common.{◌≡◌, ℕ, zero, suc, ◌+◌, ◌*◌, ◌<◌, ◌≤◌, List, [], ◌∷◌, length, sum_by, slice_index_or, All, Result, Ok, Err, arith}
use Rattle.std.proofs.lemmas.List.Elements.{All-cons, All-head, All-nil, All-tail}
use Rattle.std.proofs.lemmas.List.Sums.{sum_by-cons}
use mathlib.Core.List.{IsPrefix}
use Rattle.qplain.specs.declared.bounds.TheConstants.{MAX_ENTRIES, MAX_LINES}
use Rattle.qplain.specs.declared.call_fault.CallFault.{CallFault}
use Rattle.qplain.specs.declared.call_fault.CallFault.TheVariants.{JournalFull}
use Rattle.qplain.specs.declared.entry.Entry.{Entry}
use Rattle.qplain.specs.declared.line.Line.{Line}
use Rattle.qplain.specs.declared.receipt.Receipt.{Receipt}
use Rattle.qplain.specs.declared.transcript.Transcript.{Transcript}
use Rattle.qplain.specs.Transcripts.{journaled_lines}
use Rattle.qshare_history.specs.Shares.{HandedIn}
use Rattle.qshare_history.proofs.Prefixes.{prefix_length}
use Rattle.qrun_replay.specs.Runs.{FailsOnlyAtFull, IsNeverFull, lines_of}
use Rattle.qrun.specs.Told.{AreAllTold, AreShort, AreToldFrom}
use Rattle.std.proofs.lemmas.List.{length-map}

abbrev calls_of : HandedIn → ℕ
calls_of s = s.tally.calls

abbrev IsShort : List Line → Type 0
IsShort lines = length lines ≤ MAX_LINES

-- receipts are no more than answers
receipts_few : (worker : ℕ) (lines : List Line) (answers : List (Result Receipt CallFault))
    → length (journaled_lines worker lines answers) ≤ length answers
unfolding journaled_lines
receipts_few worker (line ∷ lines) (Ok r ∷ answers) = let rest = receipts_few worker lines answers in omega (arith, rest)
receipts_few worker (line ∷ lines) (Err fault ∷ answers) = let rest = receipts_few worker lines answers in omega (arith, rest)
receipts_few worker [] answers = omega arith
receipts_few worker (line ∷ lines) [] = omega arith

-- and fewer, where a line failed
receipts_fewer : (worker : ℕ) (lines : List Line) (answers : List (Result Receipt CallFault)) (k : ℕ) (d : Result Receipt CallFault)
    (fault : CallFault) → k < length answers → slice_index_or answers k d ≡ Err fault
    → length (journaled_lines worker lines answers) < length answers
unfolding journaled_lines
receipts_fewer worker lines [] k d fault less is = absurd (omega (arith, less))
receipts_fewer worker [] (answer ∷ answers) k d fault less is = omega arith
receipts_fewer worker (line ∷ lines) (Ok r ∷ answers) zero d fault less is = absurd (cc is)
receipts_fewer worker (line ∷ lines) (Ok r ∷ answers) (suc k) d fault less is =
    let rest = receipts_fewer worker lines answers k d fault (omega (arith, less)) is in omega (arith, rest)
receipts_fewer worker (line ∷ lines) (Err other ∷ answers) k d fault less is =
    let rest = receipts_few worker lines answers in omega (arith, rest)

-- workers count no more calls than short scripts may have lines
calls_few : (worker : ℕ) (scripts : List (List Line)) (shares : List HandedIn) (ts : List Transcript)
    → AreToldFrom worker scripts shares ts → AreShort scripts → sum_by calls_of shares ≤ MAX_LINES * length scripts
unfolding AreToldFrom
calls_few worker [] [] [] told short = omega arith
calls_few worker (lines ∷ scripts) (s ∷ shares) (t ∷ ts) told short =
    let own = receipts_few worker lines t.answers in
    let few = All-head IsShort lines scripts short in
    let rest = calls_few (worker + 1) scripts shares ts told.1 (All-tail IsShort lines scripts short) in
    omega (arith, sum_by-cons calls_of s shares, told.0.work.are.counted, own, told.0.work.each, few, rest)
calls_few worker [] (s ∷ shares) ts told short = absurd told
calls_few worker [] [] (t ∷ ts) told short = absurd told
calls_few worker (lines ∷ scripts) [] ts told short = absurd told
calls_few worker (lines ∷ scripts) (s ∷ shares) [] told short = absurd told

-- so no answer tells of a full journal, whose entries these workers and others have counted
never_from : (worker : ℕ) (scripts : List (List Line)) (shares : List HandedIn) (ts : List Transcript) (journal : List Entry) (others : ℕ)
    → AreToldFrom worker scripts shares ts → AreShort scripts → All (λ s. IsPrefix s.seen journal) shares
    → others + sum_by calls_of shares ≡ length journal → others + MAX_LINES * length scripts ≤ MAX_ENTRIES → All IsNeverFull ts
unfolding AreToldFrom
never_from worker [] [] [] journal others told short seen counted room = All-nil IsNeverFull
never_from worker (lines ∷ scripts) (s ∷ shares) (t ∷ ts) journal others told short seen counted room =
    let one = told.0.work in
    let Seen : HandedIn → Type 0 = λ s. IsPrefix s.seen journal in
    let parts = sum_by-cons calls_of s shares in
    let own = receipts_few worker lines t.answers in
    let low = All-head IsShort lines scripts short in
    let shorter = All-tail IsShort lines scripts short in
    let rest = calls_few (worker + 1) scripts shares ts told.1 shorter in
    All-cons IsNeverFull t ts
    (λ k d less full.
    let fewer = receipts_fewer worker lines t.answers k d JournalFull less full in
    let behind = one.are.full k d less full in
    let long = prefix_length s.seen journal (All-head Seen s shares seen) in
    omega (arith, fewer, behind, long, one.are.counted, one.each, low, parts, rest, counted, room))
    (never_from (worker + 1) scripts shares ts journal (others + calls_of s) told.1 shorter (All-tail Seen s shares seen)
    (omega (arith, parts, counted)) (omega (arith, one.are.counted, own, one.each, low, room)))
never_from worker [] (s ∷ shares) ts journal others told short seen counted room = absurd told
never_from worker [] [] (t ∷ ts) journal others told short seen counted room = absurd told
never_from worker (lines ∷ scripts) [] ts journal others told short seen counted room = absurd told
never_from worker (lines ∷ scripts) (s ∷ shares) [] journal others told short seen counted room = absurd told

-- no line of a run of so many workers fails so, where their scripts are short
pub never_full : (journal : List Entry) (ts : List Transcript) → AreAllTold journal ts → AreShort (lines_of ts) → All IsNeverFull ts
never_full journal ts all short =
    let many = length-map ts (λ (t : Transcript). t.lines) in
    never_from 1 (lines_of ts) all.told.shares ts journal 0 all.told.told short all.told.seen (omega (arith, all.told.counted))
    (omega (arith, many, all.workers.1))

-- and none of any workers, but where the journal is full that begins with what each of them has seen
full_from : (worker : ℕ) (scripts : List (List Line)) (shares : List HandedIn) (ts : List Transcript) (journal : List Entry)
    → AreToldFrom worker scripts shares ts → All (λ s. IsPrefix s.seen journal) shares → length journal ≤ MAX_ENTRIES
    → All (FailsOnlyAtFull journal) ts
unfolding AreToldFrom
full_from worker [] [] [] journal told seen few = All-nil (FailsOnlyAtFull journal)
full_from worker (lines ∷ scripts) (s ∷ shares) (t ∷ ts) journal told seen few =
    let Seen : HandedIn → Type 0 = λ s. IsPrefix s.seen journal in
    let long = prefix_length s.seen journal (All-head Seen s shares seen) in
    All-cons (FailsOnlyAtFull journal) t ts
    (λ k d less full. let behind = told.0.work.are.full k d less full in omega (arith, behind, long, few))
    (full_from (worker + 1) scripts shares ts journal told.1 (All-tail Seen s shares seen) few)
full_from worker [] (s ∷ shares) ts journal told seen few = absurd told
full_from worker [] [] (t ∷ ts) journal told seen few = absurd told
full_from worker (lines ∷ scripts) [] ts journal told seen few = absurd told
full_from worker (lines ∷ scripts) (s ∷ shares) [] journal told seen few = absurd told

pub only_at_full : (journal : List Entry) (ts : List Transcript) → AreAllTold journal ts → All (FailsOnlyAtFull journal) ts
only_at_full journal ts all =
    full_from 1 (lines_of ts) all.told.shares ts journal all.told.told all.told.seen all.few
