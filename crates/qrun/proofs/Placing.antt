-- What was told stands in the journal that those who were told have seen a beginning of.
use Rattle.std.proofs.Common.{◌≡◌, ℕ, zero, suc, ◌+◌, ◌-◌, List, [], ◌∷◌, ◌++◌, length, map, All, slice_get, Some, Result, Ok, Err, ⊎_elim, refl, sym, ap, subst, ◌∙◌, arith}
use Rattle.std.proofs.lemmas.List.Elements.{All-cons, All-head, All-nil, All-tail, All-weaker}
use mathlib.Core.List.{IsPrefix}
use Rattle.qplain.specs.declared.call_fault.CallFault.{CallFault}
use Rattle.qplain.specs.declared.entry.Entry.{Entry}
use Rattle.qplain.specs.declared.line.Line.{Line}
use Rattle.qplain.specs.declared.receipt.Receipt.{Receipt}
use Rattle.qplain.specs.declared.transcript.Transcript.{Transcript}
use Rattle.qplain.specs.Journal.{entries_of, entry_of}
use Rattle.qplain.specs.Transcripts.{journaled_lines}
use Rattle.qshare_history.specs.Shares.{HandedIn}
use Rattle.qrun_replay.specs.declared.answered.Answered.{Answered}
use Rattle.qrun_replay.specs.declared.failed_line.FailedLine.{FailedLine}
use Rattle.qrun_replay.specs.Placed.{answer_at, answer_in, HoldsPlace, HoldsPlaces, line_at, line_in, transcript_from}
use Rattle.qrun_replay.proofs.Placing.{own_stand, place_there, Stands}
use Rattle.qrun_worker.specs.Work.{IsSubsequence, stands_of}
use Rattle.qrun.specs.Told.{AreAllPlaced, AreAllTold, AreTold, AreToldFrom, IsTold, placed_of}

-- what holds of each of these holds of those that stand among them
among_all : {X : Type 0} (P : X → Type 0) (xs ys : List X) → IsSubsequence xs ys → All P ys → All P xs
unfolding IsSubsequence
among_all P [] ys among all = All-nil P
among_all P (x ∷ xs) [] among all = absurd among
among_all P (x ∷ xs) (y ∷ ys) among all =
    ⊎_elim
    (λ (t : (x ≡ y) × IsSubsequence xs ys).
    All-cons P x xs (subst P (sym t.0) (All-head P y ys all)) (among_all P xs ys t.1 (All-tail P y ys all)))
    (λ (t : IsSubsequence (x ∷ xs) ys). among_all P (x ∷ xs) ys t (All-tail P y ys all)) among

-- who is there stays there as a list goes on
get_longer : {X : Type 0} (xs rest : List X) (i : ℕ) (x : X) → slice_get xs i ≡ Some x → slice_get (xs ++ rest) i ≡ Some x
get_longer [] rest i x there = absurd cc
get_longer (y ∷ xs) rest zero x there = there
get_longer (y ∷ xs) rest (suc i) x there = get_longer xs rest i x there

-- an entry stands where it stood as a journal goes on
stands_longer : (old new : List Entry) → IsPrefix old new → (x : ℕ × Entry) → Stands old x → Stands new x
stands_longer old new more x stands =
    (stands.0, subst (λ es. slice_get es (x.0 - 1) ≡ Some x.1) more.1 (get_longer old more.0 (x.0 - 1) x.1 stands.1))

-- lines and answers that a journal has at these places
abbrev AreSeenAt : List Entry → List Line → List (Result Receipt CallFault) → Type 0
AreSeenAt journal lines answers = (map (line_in journal) (stands_of lines answers) ≡ lines)
    × (map (answer_in journal) (stands_of lines answers) ≡ answers) × All (HoldsPlace journal) (stands_of lines answers)

-- answers whose receipts stand in a journal are there at their places, and so are their lines
placed_again : (worker : ℕ) (journal : List Entry) (lines : List Line) (answers : List (Result Receipt CallFault))
    → length answers ≡ length lines → All (Stands journal) (journaled_lines worker lines answers) → AreSeenAt journal lines answers
unfolding journaled_lines stands_of
placed_again worker journal [] [] each stand = (refl, refl, All-nil (HoldsPlace journal))
placed_again worker journal (line ∷ lines) (Ok r ∷ answers) each stand =
    let x : ℕ × Entry = (r.place, entry_of worker line r.reply) in
    let rest = journaled_lines worker lines answers in
    let here = All-head (Stands journal) x rest stand in
    let behind = placed_again worker journal lines answers (omega (arith, each)) (All-tail (Stands journal) x rest stand) in (
      ap (λ e. line_at e ∷ map (line_in journal) (stands_of lines answers)) here.1 ∙ ap (λ ls. line ∷ ls) behind.0,
      ap (λ e. answer_at r.place e ∷ map (answer_in journal) (stands_of lines answers)) here.1 ∙ ap (λ told. Ok r ∷ told) behind.1,
      All-cons (HoldsPlace journal) (Ok r.place) (stands_of lines answers) (place_there journal x here) behind.2,
    )
placed_again worker journal (line ∷ lines) (Err fault ∷ answers) each stand =
    let behind = placed_again worker journal lines answers (omega (arith, each)) stand in
    let failed : FailedLine = record { line = line; fault = fault } in (
      ap (λ ls. line ∷ ls) behind.0,
      ap (λ told. Err fault ∷ told) behind.1,
      All-cons (HoldsPlace journal) (Err failed) (stands_of lines answers) tt behind.2,
    )
placed_again worker journal [] (answer ∷ answers) each stand = absurd (omega (arith, each))
placed_again worker journal (line ∷ lines) [] each stand = absurd (omega (arith, each))

-- so a worker's transcript is given back by its places
one_again : (worker : ℕ) (lines : List Line) (share : HandedIn) (t : Transcript) (journal : List Entry) → IsTold worker lines share t
    → IsPrefix share.seen journal → (transcript_from journal (placed_of t) ≡ t) × HoldsPlaces journal (placed_of t)
one_again worker lines share t journal told seen =
    let own = entries_of share.seen worker in
    let stand = All-weaker (Stands share.seen) (Stands journal) (stands_longer share.seen journal seen) own (own_stand share.seen worker) in
    let back = placed_again worker journal lines t.answers told.work.each
    (among_all (Stands journal) (journaled_lines worker lines t.answers) own told.work.are.own stand) in
    let whole = subst (λ ls. AreSeenAt journal ls t.answers) (sym told.lines_are) back in
    ((λ i. record { worker = t.worker; lines = whole.0 i; answers = whole.1 i }), whole.2)

-- and so are those of all workers
again_from : (worker : ℕ) (scripts : List (List Line)) (shares : List HandedIn) (ts : List Transcript) (journal : List Entry)
    → AreToldFrom worker scripts shares ts → All (λ s. IsPrefix s.seen journal) shares
    → (map (transcript_from journal) (map placed_of ts) ≡ ts) × All (HoldsPlaces journal) (map placed_of ts)
unfolding AreToldFrom
again_from worker [] [] [] journal told seen = (refl, All-nil (HoldsPlaces journal))
again_from worker (lines ∷ scripts) (share ∷ shares) (t ∷ ts) journal told seen =
    let Seen : HandedIn → Type 0 = λ s. IsPrefix s.seen journal in
    let one = one_again worker lines share t journal told.0 (All-head Seen share shares seen) in
    let rest = again_from (worker + 1) scripts shares ts journal told.1 (All-tail Seen share shares seen) in
    (rw (one.0, rest.0) refl, All-cons (HoldsPlaces journal) (placed_of t) (map placed_of ts) one.1 rest.1)
again_from worker [] (share ∷ shares) ts journal told seen = absurd told
again_from worker [] [] (t ∷ ts) journal told seen = absurd told
again_from worker (lines ∷ scripts) [] ts journal told seen = absurd told
again_from worker (lines ∷ scripts) (share ∷ shares) [] journal told seen = absurd told

-- what was told of a journal is told by its places
pub all_placed : (scripts : List (List Line)) (own : List HandedIn) (all : List Answered) (ts : List Transcript) (journal : List Entry)
    → all ≡ map placed_of ts → AreTold scripts own ts → All (λ s. IsPrefix s.seen journal) own → AreAllTold journal ts
    → AreAllPlaced journal all × (map (transcript_from journal) all ≡ ts)
all_placed scripts own all ts journal is told seen whole =
    let again = again_from 1 scripts own ts journal told seen in
    let same : map (transcript_from journal) all ≡ ts = ap (map (transcript_from journal)) is ∙ again.0 in (
      record {
        places = subst (All (HoldsPlaces journal)) (sym is) again.1;
        told = subst (AreAllTold journal) (sym same) whole;
      },
      same,
    )
