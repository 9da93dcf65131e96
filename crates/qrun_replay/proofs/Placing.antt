-- What a journal has at the places of its own entries.
use Rattle.std.proofs.Common.{◌≡◌, ℕ, zero, suc, ◌+◌, ◌-◌, ◌<◌, ◌≤◌, ◌==◌, List, [], ◌∷◌, length, map, All, get_or, slice_get, Some, Result, Ok, refl, sym, ap, subst, ◌∙◌, arith}
use Rattle.std.proofs.lemmas.List.{get_or-map, length-map}
use Rattle.std.proofs.lemmas.List.Elements.{All-cons, All-filter, All-head, All-map, All-nil, All-tail, All-weaker}
use Rattle.std.proofs.lemmas.Option.{slice_get-get_or, slice_get_within}
use Rattle.std.specs.List.{enumerate_from}
use Rattle.qplain.specs.declared.call_fault.CallFault.{CallFault}
use Rattle.qplain.specs.declared.entry.Entry.{Entry}
use Rattle.qplain.specs.declared.receipt.Receipt.{Receipt}
use Rattle.qplain.specs.Journal.{entries_of}
use Rattle.qplain.specs.declared.line.Line.{Line}
use Rattle.qplain.specs.declared.transcript.Transcript.{Transcript}
use Rattle.qrun_replay.specs.declared.answered.Answered.{Answered}
use Rattle.qrun_replay.specs.declared.failed_line.FailedLine.{FailedLine}
use Rattle.qrun_replay.specs.Placed.{answer_at, answer_in, HoldsPlace, HoldsPlaces, line_at, line_in, line_of_entry, transcript_from}
use Rattle.qrun_replay.specs.Replays.{answer_of, answered_in, transcript_in}

-- an entry stands at its place
abbrev pub Stands : List Entry → ℕ × Entry → Type 0
Stands journal x = (0 < x.0) × (slice_get journal (x.0 - 1) ≡ Some x.1)

-- an entry stands among these, which are numbered from here
abbrev StandsFrom : ℕ → List Entry → ℕ × Entry → Type 0
StandsFrom n es x = (k : ℕ) × (x.0 ≡ n + k) × (slice_get es k ≡ Some x.1)

each_numbered : (n : ℕ) (es : List Entry) → All (StandsFrom n es) (enumerate_from n es)
each_numbered n [] = All-nil (StandsFrom n [])
each_numbered n (e ∷ es) =
    All-cons (StandsFrom n (e ∷ es)) (n, e) (enumerate_from (n + 1) es) (zero, omega arith, refl)
    (All-weaker (StandsFrom (n + 1) es) (StandsFrom n (e ∷ es)) (λ x at. (suc at.0, omega (arith, at.1), at.2)) (enumerate_from (n + 1) es)
    (each_numbered (n + 1) es))

-- each of a worker's own entries stands at its place
pub own_stand : (journal : List Entry) (worker : ℕ) → All (Stands journal) (entries_of journal worker)
own_stand journal worker =
    All-filter (λ (e : ℕ × Entry). e.1.worker == worker) (Stands journal) (enumerate_from 1 journal)
    (All-weaker (StandsFrom 1 journal) (Stands journal)
    (λ x at.
    let place : at.0 ≡ x.0 - 1 = omega (arith, at.1) in
    (omega (arith, at.1), subst (λ k. slice_get journal k ≡ Some x.1) place at.2))
    (enumerate_from 1 journal) (each_numbered 1 journal))

-- where an entry stands there is one
pub place_there : (journal : List Entry) (x : ℕ × Entry) → Stands journal x → HoldsPlace journal (Ok x.0)
place_there journal x stands =
    let less : x.0 - 1 < length journal = slice_get_within journal (x.0 - 1) x.1 stands.1 in
    (stands.0, omega (arith, less, stands.0))

-- the journal has a place for each of a worker's own entries
pub own_places : (journal : List Entry) (worker : ℕ) → HoldsPlaces journal (answered_in journal worker)
own_places journal worker =
    let own = entries_of journal worker in
    All-map (HoldsPlace journal) (λ (x : ℕ × Entry). Ok x.0) own
    (All-weaker (Stands journal) (λ (x : ℕ × Entry). HoldsPlace journal (Ok x.0)) (place_there journal) own (own_stand journal worker))

-- and there are their answers
answers_seen : (journal : List Entry) (own : List (ℕ × Entry)) → All (Stands journal) own
    → map (answer_in journal) (map (λ (x : ℕ × Entry). Ok x.0) own) ≡ map answer_of own
answers_seen journal [] each = refl
answers_seen journal ((place, e) ∷ own) each =
    let here = All-head (Stands journal) (place, e) own each in
    ap (λ at. answer_at place at ∷ map (answer_in journal) (map (λ (x : ℕ × Entry). Ok x.0) own)) here.1
    ∙ ap (λ rest. answer_of (place, e) ∷ rest) (answers_seen journal own (All-tail (Stands journal) (place, e) own each))

-- and their lines
lines_seen : (journal : List Entry) (own : List (ℕ × Entry)) → All (Stands journal) own
    → map (line_in journal) (map (λ (x : ℕ × Entry). Ok x.0) own) ≡ map (λ (x : ℕ × Entry). line_of_entry x.1) own
lines_seen journal [] each = refl
lines_seen journal ((place, e) ∷ own) each =
    let here = All-head (Stands journal) (place, e) own each in
    ap (λ at. line_at at ∷ map (line_in journal) (map (λ (x : ℕ × Entry). Ok x.0) own)) here.1
    ∙ ap (λ rest. line_of_entry e ∷ rest) (lines_seen journal own (All-tail (Stands journal) (place, e) own each))

-- so a worker's own entries, seen in the journal, are its transcript
transcript_seen : (journal : List Entry) (worker : ℕ) → transcript_from journal (answered_in journal worker) ≡ transcript_in journal worker
transcript_seen journal worker =
    let own = entries_of journal worker in
    let stand = own_stand journal worker in
    rw (lines_seen journal own stand, answers_seen journal own stand) refl

-- those of all these workers
pub transcripts_seen : (journal : List Entry) (workers : List ℕ)
    → map (transcript_from journal) (map (answered_in journal) workers) ≡ map (transcript_in journal) workers
transcripts_seen journal [] = refl
transcripts_seen journal (worker ∷ workers) = rw (transcript_seen journal worker, transcripts_seen journal workers) refl

pub all_places : (journal : List Entry) (workers : List ℕ) → All (HoldsPlaces journal) (map (answered_in journal) workers)
all_places journal workers = All-map (HoldsPlaces journal) (answered_in journal) workers (λ k d less. own_places journal (get_or workers k d))

-- the answer to the line of this index, and the line
pub answer_there : (journal : List Entry) (stands : List (Result ℕ FailedLine)) (i : ℕ) (stand : Result ℕ FailedLine)
    (default : Result Receipt CallFault) → i < length stands → stand ≡ get_or stands i stand
    → get_or (map (answer_in journal) stands) i default ≡ answer_in journal stand
answer_there journal stands i stand default less is =
    get_or-map (answer_in journal) stands i stand default less ∙ ap (answer_in journal) (sym is)

pub line_there : (journal : List Entry) (stands : List (Result ℕ FailedLine)) (i : ℕ) (stand : Result ℕ FailedLine) (default : Line)
    → i < length stands → stand ≡ get_or stands i stand → get_or (map (line_in journal) stands) i default ≡ line_in journal stand
line_there journal stands i stand default less is =
    get_or-map (line_in journal) stands i stand default less ∙ ap (line_in journal) (sym is)

module _ (journal : List Entry) (place : ℕ) (e d : Entry) (there : (0 < place) × (place ≤ length journal))
    (is : e ≡ get_or journal (place - 1) d) where
  stands_there : slice_get journal (place - 1) ≡ Some e
  stands_there =
      let less : place - 1 < length journal = omega (arith, there.0, there.1) in
      slice_get-get_or journal (place - 1) d less ∙ ap (λ x. Some x) (sym is)

  -- are those of the entry there
  pub answer_of_entry : answer_in journal (Ok place) ≡ Ok (record { place = place; reply = e.reply })
  answer_of_entry = ap (answer_at place) stands_there

  pub line_of_place : line_in journal (Ok place) ≡ line_of_entry e
  line_of_place = ap line_at stands_there

-- where the journal has an entry at each place, it has one at this
pub holds_there : (journal : List Entry) (stands : List (Result ℕ FailedLine)) (i : ℕ) (stand : Result ℕ FailedLine) → i < length stands
    → All (HoldsPlace journal) stands → stand ≡ get_or stands i stand → HoldsPlace journal stand
holds_there journal stands i stand less all is = subst (HoldsPlace journal) (sym is) (all i stand less)

-- a line of a transcript is one of those whose answers stand somewhere
module _ (journal : List Entry) (a : Answered) (t : Transcript) (i : ℕ) (is : transcript_from journal a ≡ t) where
  pub low_answer : i < length t.answers → i < length a.places.stands
  low_answer less = subst (λ n. i < n) (ap (λ u. length u.answers) (sym is) ∙ length-map a.places.stands (answer_in journal)) less

  pub low_line : i < length t.lines → i < length a.places.stands
  low_line less = subst (λ n. i < n) (ap (λ u. length u.lines) (sym is) ∙ length-map a.places.stands (line_in journal)) less
