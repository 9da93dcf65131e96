-- Transcripts put together one after the other, and what all of them say.
use Rattle.std.proofs.Common.{◌≡◌, ℕ, suc, ◌+◌, ◌<◌, ◌≤◌, ◌==◌, ◌||◌, true, false, Bool, List, [], ◌∷◌, length, map, sum_by, All, Result, refl, sym, ap, subst, ◌∙◌, arith, tests}
use Rattle.std.proofs.lemmas.List.Elements.{All-cons, All-contains, All-head, All-nil, All-tail}
use Rattle.std.specs.List.{list_any, AllByRecursion, IsDistinct}
use mathlib.Core.List.{IsPrefix}
use Rattle.qplain.specs.declared.board.Board.{Board}
use Rattle.qplain.specs.declared.entry.Entry.{Entry}
use Rattle.qplain.specs.declared.line.Line.{Line}
use Rattle.qplain.specs.declared.look_fault.LookFault.{LookFault}
use Rattle.qplain.specs.declared.transcript.Transcript.{Transcript}
use Rattle.qplain.specs.Journal.{entries_of}
use Rattle.qplain.specs.Transcripts.{Belongs, journaled_lines}
use Rattle.qplain.specs.declared.edition.Edition.TheVariants.{Two}
use Rattle.qshare_history.specs.Shares.{AreThere, HandedIn}
use Rattle.qrun_replay.specs.Runs.{AreTranscriptsOf, FailsOnlyAtFull, IsLeftByWorkers, IsServiceOf, lines_of}
use Rattle.qplain.specs.Setups.{Setting}
use Rattle.qplain.specs.State.{State}
use Rattle.qaudit_checks.specs.LawfulBoards.{AreLawful, boards_in}
use Rattle.qrun_replay.specs.declared.outcome.Outcome.{Outcome}
use Rattle.qrun_replay.specs.Left.{IsLeftOf, IsOneOf}
use Rattle.qrun_replay.proofs.Coming.{left_by_workers}
use Rattle.qplain.specs.declared.bounds.TheConstants.{MAX_ENTRIES}
use Rattle.qshare.specs.declared.opening.TheConstants.{MAX_SEATS}
use Rattle.qrun.specs.Told.{AreAllTold, AreTold, AreToldFrom}
use Rattle.qrun.proofs.Counting.{all_gathered}
use Rattle.qrun.proofs.NeverFull.{only_at_full}

-- there are as many shares and transcripts as scripts
pub as_many : (worker : ℕ) (scripts : List (List Line)) (shares : List HandedIn) (ts : List Transcript) → AreToldFrom worker scripts shares ts
    → (length shares ≡ length scripts) × (length ts ≡ length scripts)
unfolding AreToldFrom
as_many worker [] [] [] told = (refl, refl)
as_many worker (l ∷ scripts) (s ∷ shares) (t ∷ ts) told =
    let rest = as_many (worker + 1) scripts shares ts told.1 in (ap suc rest.0, ap suc rest.1)
as_many worker [] (s ∷ shares) ts told = absurd told
as_many worker [] [] (t ∷ ts) told = absurd told
as_many worker (l ∷ scripts) [] ts told = absurd told
as_many worker (l ∷ scripts) (s ∷ shares) [] told = absurd told

-- a share is there where it is the first, or among those after it
one_there : (k worker : ℕ) (s : HandedIn) (shares : List HandedIn) → s.worker ≡ worker → worker ≤ k
    → (worker + 1 ≤ k → list_any (λ s. s.worker == k) shares ≡ true) → (b : Bool) → (s.worker == k) ≡ b
    → list_any (λ s. s.worker == k) (s ∷ shares) ≡ true
one_there k worker s shares own from behind true is =
    subst (λ (b : Bool). (b || list_any (λ (x : HandedIn). x.worker == k) shares) ≡ true) (sym is) refl
one_there k worker s shares own from behind false is =
    let other : (worker == k) ≡ false = ap (λ w. w == k) (sym own) ∙ is in
    let later : worker + 1 ≤ k = grind (arith, tests, from, other) in
    subst (λ (b : Bool). (b || list_any (λ (x : HandedIn). x.worker == k) shares) ≡ true) (sym is) (behind later)

-- the shares of all workers are there
there_from : (worker : ℕ) (scripts : List (List Line)) (shares : List HandedIn) (ts : List Transcript) → AreToldFrom worker scripts shares ts
    → (k : ℕ) → worker ≤ k → k < worker + length scripts → list_any (λ s. s.worker == k) shares ≡ true
unfolding AreToldFrom
there_from worker [] [] [] told k from less = absurd (omega (arith, from, less))
there_from worker (l ∷ scripts) (s ∷ shares) (t ∷ ts) told k from less =
    one_there k worker s shares told.0.work.worker_is from
    (λ later. there_from (worker + 1) scripts shares ts told.1 k later (omega (arith, less))) (s.worker == k) refl
there_from worker [] (s ∷ shares) ts told k from less = absurd told
there_from worker [] [] (t ∷ ts) told k from less = absurd told
there_from worker (l ∷ scripts) [] ts told k from less = absurd told
there_from worker (l ∷ scripts) (s ∷ shares) [] told k from less = absurd told

pub all_there : (scripts : List (List Line)) (shares : List HandedIn) (ts : List Transcript) → AreTold scripts shares ts → AreThere shares (length scripts)
all_there scripts shares ts told k positive few = there_from 1 scripts shares ts told k positive (omega (arith, few))

-- the transcripts are those of the scripts, where their receipts stand for the workers' own entries
pub transcripts_from : (worker : ℕ) (scripts : List (List Line)) (shares : List HandedIn) (ts : List Transcript) (journal : List Entry)
    → AreToldFrom worker scripts shares ts
    → All (λ t. journaled_lines t.worker t.lines t.answers ≡ entries_of journal t.worker) ts
    → AreTranscriptsOf worker scripts journal ts
unfolding AreToldFrom AreTranscriptsOf
transcripts_from worker [] [] [] journal told own = tt
transcripts_from worker (lines ∷ scripts) (s ∷ shares) (t ∷ ts) journal told own =
    let one = told.0 in
    let mine : journaled_lines t.worker t.lines t.answers ≡ entries_of journal t.worker =
    All-head (λ (t : Transcript). journaled_lines t.worker t.lines t.answers ≡ entries_of journal t.worker) t ts own in (
      record {
        worker_is = one.worker_is;
        lines_are = one.lines_are;
        each = one.work.each;
        own = rw (sym one.worker_is, sym one.lines_are) mine;
      },
      transcripts_from (worker + 1) scripts shares ts journal told.1
          (All-tail (λ (t : Transcript). journaled_lines t.worker t.lines t.answers ≡ entries_of journal t.worker) t ts own),
    )
transcripts_from worker [] (s ∷ shares) ts journal told own = absurd told
transcripts_from worker [] [] (t ∷ ts) journal told own = absurd told
transcripts_from worker (l ∷ scripts) [] ts journal told own = absurd told
transcripts_from worker (l ∷ scripts) (s ∷ shares) [] journal told own = absurd told

-- the scripts are the transcripts' lines
pub lines_told : (worker : ℕ) (scripts : List (List Line)) (shares : List HandedIn) (ts : List Transcript) → AreToldFrom worker scripts shares ts
    → lines_of ts ≡ scripts
unfolding AreToldFrom
lines_told worker [] [] [] told = refl
lines_told worker (l ∷ scripts) (s ∷ shares) (t ∷ ts) told =
    rw (told.0.lines_are, lines_told (worker + 1) scripts shares ts told.1) refl
lines_told worker [] (s ∷ shares) ts told = absurd told
lines_told worker [] [] (t ∷ ts) told = absurd told
lines_told worker (l ∷ scripts) [] ts told = absurd told
lines_told worker (l ∷ scripts) (s ∷ shares) [] told = absurd told

-- each line is answered
pub each_told : (worker : ℕ) (scripts : List (List Line)) (shares : List HandedIn) (ts : List Transcript) → AreToldFrom worker scripts shares ts
    → All (λ t. length t.answers ≡ length t.lines) ts
unfolding AreToldFrom
each_told worker [] [] [] told = All-nil (λ (t : Transcript). length t.answers ≡ length t.lines)
each_told worker (l ∷ scripts) (s ∷ shares) (t ∷ ts) told =
    All-cons (λ (t : Transcript). length t.answers ≡ length t.lines) t ts (told.0.work.each ∙ ap length (sym told.0.lines_are))
    (each_told (worker + 1) scripts shares ts told.1)
each_told worker [] (s ∷ shares) ts told = absurd told
each_told worker [] [] (t ∷ ts) told = absurd told
each_told worker (l ∷ scripts) [] ts told = absurd told
each_told worker (l ∷ scripts) (s ∷ shares) [] told = absurd told

-- who comes earlier is none of these
none_earlier : (earlier worker : ℕ) (scripts : List (List Line)) (shares : List HandedIn) (ts : List Transcript) → AreToldFrom worker scripts shares ts
    → earlier < worker → AllByRecursion (λ t. (earlier == t.worker) ≡ false) ts
unfolding AreToldFrom
none_earlier earlier worker [] [] [] told less = tt
none_earlier earlier worker (l ∷ scripts) (s ∷ shares) (t ∷ ts) told less =
    let own : t.worker ≡ worker = told.0.worker_is in
    let other : (earlier == t.worker) ≡ false = grind (arith, tests, own, less) in
    (other, none_earlier earlier (worker + 1) scripts shares ts told.1 (omega (arith, less)))
none_earlier earlier worker [] (s ∷ shares) ts told less = absurd told
none_earlier earlier worker [] [] (t ∷ ts) told less = absurd told
none_earlier earlier worker (l ∷ scripts) [] ts told less = absurd told
none_earlier earlier worker (l ∷ scripts) (s ∷ shares) [] told less = absurd told

-- each transcript is of another worker
pub apart_told : (worker : ℕ) (scripts : List (List Line)) (shares : List HandedIn) (ts : List Transcript) → AreToldFrom worker scripts shares ts
    → IsDistinct (λ one other. one.worker == other.worker) ts
unfolding AreToldFrom IsDistinct
apart_told worker [] [] [] told = tt
apart_told worker (l ∷ scripts) (s ∷ shares) (t ∷ ts) told =
    let own : t.worker ≡ worker = told.0.worker_is in (
      none_earlier t.worker (worker + 1) scripts shares ts told.1 (omega (arith, own)),
      apart_told (worker + 1) scripts shares ts told.1,
    )
apart_told worker [] (s ∷ shares) ts told = absurd told
apart_told worker [] [] (t ∷ ts) told = absurd told
apart_told worker (l ∷ scripts) [] ts told = absurd told
apart_told worker (l ∷ scripts) (s ∷ shares) [] told = absurd told

-- the workers' numbers are within these bounds
within_told : (low high worker : ℕ) (scripts : List (List Line)) (shares : List HandedIn) (ts : List Transcript) → AreToldFrom worker scripts shares ts
    → low ≤ worker → worker + length scripts ≤ high → All (λ w. (low ≤ w) × (w < high)) (map (λ t. t.worker) ts)
unfolding AreToldFrom
within_told low high worker [] [] [] told from most = All-nil (λ w. (low ≤ w) × (w < high))
within_told low high worker (l ∷ scripts) (s ∷ shares) (t ∷ ts) told from most =
    let own : t.worker ≡ worker = told.0.worker_is in
    All-cons (λ w. (low ≤ w) × (w < high)) t.worker (map (λ t. t.worker) ts) (omega (arith, own, from), omega (arith, own, most))
    (within_told low high (worker + 1) scripts shares ts told.1 (omega (arith, from)) (omega (arith, most)))
within_told low high worker [] (s ∷ shares) ts told from most = absurd told
within_told low high worker [] [] (t ∷ ts) told from most = absurd told
within_told low high worker (l ∷ scripts) [] ts told from most = absurd told
within_told low high worker (l ∷ scripts) (s ∷ shares) [] told from most = absurd told

-- an entry that belongs to one of them is of one of N workers
pub one_of : (scripts : List (List Line)) (shares : List HandedIn) (ts : List Transcript) (journal : List Entry) → AreTold scripts shares ts
    → All (Belongs ts) journal → All (IsOneOf (length ts)) journal
one_of scripts shares ts journal told belong k d less =
    let many : length ts ≡ length scripts = (as_many 1 scripts shares ts told).1 in
    let within = All-contains (λ w. (1 ≤ w) × (w < 1 + length scripts)) (map (λ t. t.worker) ts) _
    (within_told 1 (1 + length scripts) 1 scripts shares ts told (omega arith) (omega arith)) (belong k d less) in
    (omega (arith, within.0), omega (arith, within.1, many))

-- what is told of all workers, who have counted each entry of this journal
pub all_told : (scripts : List (List Line)) (own : List HandedIn) (ts : List Transcript) (journal : List Entry)
    → (0 < length scripts) × (length scripts ≤ MAX_SEATS) → AreTold scripts own ts → All (λ s. IsPrefix s.seen journal) own
    → sum_by (λ s. s.tally.calls) own ≡ length journal → length journal ≤ MAX_ENTRIES → AreAllTold journal ts
all_told scripts own ts journal some told seen counted few = record {
  workers = rw (as_many 1 scripts own ts told).1 some;
  told = record {
    shares = own;
    told = subst (λ ls. AreTold ls own ts) (sym (lines_told 1 scripts own ts told)) told;
    seen = seen;
    counted = counted;
  };
  few = few;
  gathered = all_gathered scripts own ts journal told seen counted;
}

-- what is left of a store whose journal was checked against what was told, and against what looks were given
pub gathered_told : (setting : Setting) (S : State) (journal : List Entry) (ts : List Transcript) (looks : List (Result Board LookFault))
    (workers : ℕ) (o : Outcome) → setting.edition ≡ Two → AreAllTold journal ts → AreLawful S journal (boards_in looks)
    → workers ≡ length ts → IsLeftOf setting S journal workers ts looks o → IsServiceOf setting S o
gathered_told setting S journal ts looks workers o edition all lawful many left =
    let shares = all.told.shares in
    let journal_is : o.journal.entries ≡ journal = ap (λ j. j.entries) left.journal_is in
    record {
      left = subst (λ xs. IsLeftByWorkers setting S (lines_of xs) o) (sym left.transcripts_are)
          (left_by_workers setting S (lines_of ts) journal workers ts looks o edition left
          (many ∙ (as_many 1 (lines_of ts) shares ts all.told.told).1)
          (transcripts_from 1 (lines_of ts) shares ts journal all.told.told all.gathered.own) all.gathered.belong lawful);
      full = subst (λ xs. All (FailsOnlyAtFull o.journal.entries) xs) (sym left.transcripts_are)
          (subst (λ es. All (FailsOnlyAtFull es) ts) (sym journal_is) (only_at_full journal ts all));
    }
