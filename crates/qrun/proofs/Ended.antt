-- What workers have done, told as transcripts, and what they leave.
use Rattle.std.proofs.Common.{◌≡◌, ℕ, zero, suc, ◌+◌, ◌<◌, ◌≤◌, ◌==◌, List, [], ◌∷◌, ◌++◌, length, map, sum_by, slice_index_or, All, Option, Result, option_map, refl, sym, ap, subst, ◌∙◌, arith}
use Rattle.std.proofs.lemmas.List.{get_or-map, length-map, nil_from_length}
use Rattle.std.proofs.lemmas.List.Elements.{All-cons, All-nil}
use Rattle.std.proofs.lemmas.List.Sums.{sum_by-append}
use mathlib.Core.List.{IsPrefix}
use Rattle.qplain.specs.declared.bounds.TheConstants.{MAX_ENTRIES}
use Rattle.qplain.specs.declared.board.Board.{Board}
use Rattle.qplain.specs.declared.entry.Entry.{Entry}
use Rattle.qplain.specs.declared.line.Line.{Line}
use Rattle.qplain.specs.declared.look_fault.LookFault.{LookFault}
use Rattle.qplain.specs.declared.transcript.Transcript.{Transcript}
use Rattle.qplain.specs.Setups.{Setting}
use Rattle.qplain.specs.State.{State}
use Rattle.qaudit_checks.specs.LawfulBoards.{AreLawful, boards_in}
use Rattle.qshare_history.specs.Shares.{AreThere, HandedIn}
use Rattle.qshare.specs.Seats.{Seated}
use Rattle.qrun_replay.specs.declared.outcome.Outcome.{Outcome}
use Rattle.qrun_replay.specs.declared.answered.Answered.{Answered}
use Rattle.qrun_replay.specs.Placed.{transcript_from}
use Rattle.qrun_replay.specs.Runs.{IsLeftByWorkers, IsNeverFull, IsOutcomeOf, IsServiceOf, lines_of}
use Rattle.qrun_client.specs.Clients.{Talk}
use Rattle.qrun_worker.specs.Scripts.{Playing, has_still, owed_of}
use Rattle.qrun_worker.specs.Work.{ArePlayed, IsNewClient, IsPlayed, Prepared, Worked}
use Rattle.qrun.specs.Crews.{ArePlaying, HasEnded, IsStaff, new_client}
use Rattle.qrun.specs.declared.observer.Observer.{Observer}
use Rattle.qrun.specs.Monitors.{Sight}
use Rattle.qrun.specs.Observers.{HasSeatIn, IsObservedBy, Observed, looks_wanted, seat_in}
use Rattle.qrun.specs.Serving.{CanServe, IsOfClients, IsTranscriptOf}
use Rattle.qrun.specs.Told.{AreAllPlaced, AreAllTold, AreShort, AreTold, AreToldFrom, answered_of, placed_of}
use Rattle.qrun.specs.Watching.{IsWatchOf, Watched, looks_in, seats_for, shares_in, watcher_for}
use Rattle.qrun.proofs.Attending.{clients_in}
use Rattle.qrun.proofs.Observing.{kept_by, watched_by}
use Rattle.qrun.proofs.Naming.{scripts_fit, watcher_fits}
use Rattle.qrun.proofs.NeverFull.{never_full}
use Rattle.qrun.proofs.Placing.{all_placed}
use Rattle.qrun.proofs.Told.{all_there, all_told}
use Rattle.qrun.proofs.Watched.{all_behind, all_front, idle_by, lawful_by, there_by}

-- there is a seat for each client, and for who looks
pub staff_fits : (setting : Setting) (clients parts : ℕ) (free : List Seated) (observer : Option Seated)
    → IsStaff setting clients parts free observer → (clients ≤ parts) × HasSeatIn parts observer
staff_fits setting clients parts free observer staff = (
  omega (arith, staff.parts_are, scripts_fit clients staff.monitors),
  subst (HasSeatIn parts) (sym staff.observer_is)
      (subst (λ n. HasSeatIn n (watcher_for clients staff.monitors)) (sym staff.parts_are) (watcher_fits clients staff.monitors)),
)

-- what came of each client, in their order
abbrev AllTell : {C Left : Type 0} → (C → Talk Left) → List C → List Transcript → List Left → Type 0
AllTell {C} {Left} talk clients ts left = (k : ℕ) (c : C) (t : Transcript) (l : Left) → k < length clients
    → IsTranscriptOf (talk (slice_index_or clients k c)) (slice_index_or ts k t) (slice_index_or left k l)

one_more_tells : {C Left : Type 0} (talk : C → Talk Left) (client : C) (clients : List C) (told : Transcript) (ts : List Transcript)
    (last : Left) (left : List Left) → IsTranscriptOf (talk client) told last → AllTell talk clients ts left
    → AllTell talk (client ∷ clients) (told ∷ ts) (last ∷ left)
one_more_tells talk client clients told ts last left one rest zero c t l less = one
one_more_tells talk client clients told ts last left one rest (suc k) c t l less = rest k c t l (omega (arith, less))

-- worker by worker, from this number on, who have played their clients: their transcripts, of which the places were
-- told, and which tell what came of each
pub record AreDoneFrom {C Left : Type 0} (talk : C → Talk Left) (worker : ℕ) (clients : List C) (works : List (Worked Left)) : Type 0 where
  pub ts : List Transcript
  pub placed : map answered_of works ≡ map placed_of ts
  pub told : AreToldFrom worker (lines_of ts) (map (λ w. w.share) works) ts
  pub many : length ts ≡ length clients
  pub as_many : length works ≡ length clients
  pub tell : AllTell talk clients ts (map (λ w. w.left) works)

done_from : {C Left : Type 0} (talk : C → Talk Left) (worker : ℕ) (clients : List C) (works : List (Worked Left)) → length works ≡ length clients
    → ((k : ℕ) (c : C) (w : Worked Left) → k < length clients
    → IsPlayed (worker + k) (talk (slice_index_or clients k c)) (slice_index_or works k w)) → AreDoneFrom talk worker clients works
unfolding AreToldFrom
done_from talk worker [] [] many each =
    record { ts = []; placed = refl; told = tt; many = refl; as_many = refl; tell = λ k c t l less. absurd (omega (arith, less)) }
done_from {C} {Left} talk worker (c ∷ clients) (w ∷ works) many each =
    let one : IsPlayed worker (talk c) w = subst (λ n. IsPlayed n (talk c) w) (omega arith) (each 0 c w (omega arith)) in
    let t : Transcript = record { worker = w.share.worker; lines = one.lines; answers = one.answers } in
    let rest : AreDoneFrom talk (worker + 1) clients works = done_from talk (worker + 1) clients works (omega (arith, many))
    (λ k d v less. subst (λ n. IsPlayed n (talk (slice_index_or clients k d)) (slice_index_or works k v)) (omega arith)
    (each (suc k) d v (omega (arith, less)))) in
    record {
      ts = t ∷ rest.ts;
      placed = (λ i. record { worker = w.share.worker; places = one.placed i } ∷ rest.placed i);
      told = (record { worker_is = one.work.worker_is; lines_are = refl; work = one.work }, rest.told);
      many = ap suc rest.many;
      as_many = many;
      tell = one_more_tells talk c clients t rest.ts w.left (map (λ (x : Worked Left). x.left) works) one.talked rest.tell;
    }
done_from talk worker [] (w ∷ works) many each = absurd (omega (arith, many))
done_from talk worker (c ∷ clients) [] many each = absurd (omega (arith, many))

-- so have all workers, who have played the clients of these
all_done : {C Left : Type 0} (talk : C → Talk Left) (clients : List C) (workers : List (Prepared C)) (works : List (Worked Left))
    → clients_in workers ≡ clients → ArePlayed (λ (p : Prepared C). talk p.client) workers works → AreDoneFrom talk 1 clients works
all_done {C} talk clients workers works is played =
    let of : (p : Prepared C) → C = λ p. p.client in
    let many : length workers ≡ length clients = sym (length-map workers of) ∙ ap length is in
    done_from talk 1 clients works (played.many ∙ many)
    (λ k c w less.
    let p : Prepared C = record { worker = 0; client = c } in
    let low : k < length workers = omega (arith, less, many) in
    let at : (slice_index_or workers k p).client ≡ slice_index_or clients k c =
    sym (get_or-map of workers k p c low) ∙ ap (λ cs. slice_index_or cs k c) is in
    subst (λ n. IsPlayed n (talk (slice_index_or clients k c)) (slice_index_or works k w)) (omega arith)
    (subst (λ x. IsPlayed (k + 1) (talk x) (slice_index_or works k w)) at (played.each k p w low)))

-- what the threads of a store have handed in: who has played, and the shares of all seats, of which the last is of who
-- looks, from whom N looks were kept
pub record IsHandedIn {C Left : Type 0} (talk : C → Talk Left) (setting : Setting) (begun : State) (seats looks : ℕ)
    (clients : List C) (works : List (Worked Left)) (own shares : List HandedIn) (watch : Option Watched) : Type 0 where
  pub monitors : ℕ
  pub can : CanServe setting (length clients) monitors
  pub seats_are : seats ≡ seats_for (length clients) monitors
  pub done : AreDoneFrom talk 1 clients works
  pub own_is : own ≡ map (λ w. w.share) works
  pub looked : IsWatchOf begun looks (watcher_for (length clients) monitors) watch
  pub kept : length (looks_in watch) ≡ looks
  pub parts : shares ≡ own ++ shares_in watch

-- so it is where these clients were played, and the boards shown to this observer
pub handed_in_by : {C Left T M W : Type 0} (talk : C → Talk Left) (sees : M → Sight W) (setting : Setting) (S : State)
    (clients : List C) (seats : ℕ) (free : List Seated) (observer : Option (Observer T M W)) (workers : List (Prepared C)) (works : List (Worked Left))
    (own shares : List HandedIn) (observed : Option (Observed W)) (watch : Option Watched)
    → IsStaff setting (length clients) seats free (option_map seat_in observer) → clients_in workers ≡ clients
    → ArePlayed (λ (p : Prepared C). talk p.client) workers works × IsObservedBy sees S observer observed
    → own ≡ map (λ w. w.share) works → watch ≡ option_map (λ o. o.watch) observed → shares ≡ own ++ shares_in watch
    → IsHandedIn talk setting S seats (looks_wanted observer) clients works own shares watch
handed_in_by talk sees setting S clients seats free observer workers works own shares observed watch staff is threads own_is watch_is parts =
    let many = looks_wanted observer in
    record {
      monitors = staff.monitors;
      can = staff.can;
      seats_are = staff.parts_are;
      done = all_done talk clients workers works is threads.0;
      own_is = own_is;
      looked = subst (IsWatchOf S many (watcher_for (length clients) staff.monitors)) (sym watch_is)
          (subst (λ o. IsWatchOf S many o (option_map (λ x. x.watch) observed)) staff.observer_is
          (watched_by sees S observer observed threads.1));
      kept = ap (λ (w : Option Watched). length (looks_in w)) watch_is ∙ kept_by sees S observer observed threads.1;
      parts = parts;
    }

module _ {C Left : Type 0} (talk : C → Talk Left) (setting : Setting) (S : State) (seats looks : ℕ) (all_clients : List C) (works : List (Worked Left))
    (own shares : List HandedIn) (watch : Option Watched) (at : IsHandedIn talk setting S seats looks all_clients works own shares watch) where
  abbrev clients : ℕ
  clients = length all_clients

  abbrev ts : List Transcript
  ts = at.done.ts

  told : AreTold (lines_of ts) own ts
  told = subst (λ xs. AreTold (lines_of ts) xs ts) (sym at.own_is) at.done.told

  many : length (lines_of ts) ≡ clients
  many = length-map ts (λ (t : Transcript). t.lines) ∙ at.done.many

  -- the shares are those of all seats
  pub all_shares_there : AreThere shares seats
  all_shares_there =
      let there = there_by S clients looks own watch (at.monitors == 0) (subst (AreThere own) many (all_there (lines_of ts) own ts told)) at.looked in
      subst (AreThere shares) (sym at.seats_are) (subst (λ xs. AreThere xs (seats_for clients at.monitors)) (sym at.parts) there)

  module _ (journal : List Entry) (seen : All (λ s. IsPrefix s.seen journal) shares) where
    abbrev Seen : HandedIn → Type 0
    Seen s = IsPrefix s.seen journal

    own_seen : All Seen own
    own_seen = all_front Seen own (shares_in watch) (subst (All Seen) at.parts seen)

    -- no board was looked at that is not the journal's
    pub looks_lawful : (given : List (Result Board LookFault)) → given ≡ looks_in watch → AreLawful S journal (boards_in given)
    looks_lawful given is =
        subst (λ ls. AreLawful S journal (boards_in ls)) (sym is)
        (lawful_by S clients looks watch journal (at.monitors == 0) at.looked
        (all_behind Seen own (shares_in watch) (subst (All Seen) at.parts seen)))

    module _ (counted : sum_by (λ s. s.tally.calls) shares ≡ length journal) (few : length journal ≤ MAX_ENTRIES) where
      -- the workers have told of this journal, each of whose entries was counted
      whole : AreAllTold journal ts
      whole =
          let calls : HandedIn → ℕ = λ s. s.tally.calls in
          let fits = scripts_fit clients at.monitors in
          let idle = idle_by S clients looks watch (at.monitors == 0) at.looked in
          all_told (lines_of ts) own ts journal (omega (arith, many, at.can.some), omega (arith, many, at.can.few, fits)) told own_seen
          (omega (arith, counted, ap (sum_by calls) at.parts, sum_by-append calls own (shares_in watch), idle)) few

      -- and so they have by the places of their answers
      pub works_placed : (answered : List Answered) → answered ≡ map answered_of works
          → AreAllPlaced journal answered × (map (transcript_from journal) answered ≡ ts)
      works_placed answered is =
          all_placed (lines_of ts) own answered ts journal (is ∙ at.done.placed) told own_seen whole

      -- this is what they leave
      pub has_ended : (left : List Left) (given : List (Result Board LookFault)) (o : Outcome) → IsServiceOf setting S o → o.transcripts ≡ ts
          → left ≡ map (λ w. w.left) works → given ≡ looks_in watch → o.boards ≡ given → HasEnded talk setting S all_clients looks left o
      has_ended left given o service transcripts left_is given_is boards = record {
        outcome = service;
        never = λ short. subst (All IsNeverFull) (sym transcripts)
            (never_full journal ts whole (subst (λ xs. AreShort (lines_of xs)) transcripts short));
        many = ap length transcripts ∙ at.done.many;
        left_are = ap length left_is ∙ length-map works (λ (w : Worked Left). w.left) ∙ at.done.as_many;
        each = rw (transcripts, left_is) at.done.tell;
        looks_are = ap length (boards ∙ given_is) ∙ at.kept;
      }

-- where no look was kept the outcome is of these clients
pub of_clients : {C Left : Type 0} (talk : C → Talk Left) (setting : Setting) (S : State) (clients : List C) (left : List Left) (o : Outcome)
    → HasEnded talk setting S clients 0 left o → IsOfClients talk clients left o
of_clients talk setting S these left o ended = record {
  many = ended.many;
  left_are = ended.left_are;
  each = ended.each;
  boards = nil_from_length o.boards ended.looks_are;
}

-- ---- scripts

-- transcripts that are of these lines, one after the other
same_lines : (scripts : List (List Line)) (ts : List Transcript) → length ts ≡ length scripts
    → ((k : ℕ) (t : Transcript) (lines : List Line) → k < length scripts → (slice_index_or ts k t).lines ≡ slice_index_or scripts k lines)
    → lines_of ts ≡ scripts
same_lines [] [] many each = refl
same_lines (lines ∷ scripts) (t ∷ ts) many each =
    rw (each 0 t lines (omega arith), same_lines scripts ts (omega (arith, many)) (λ k u ls less. each (suc k) u ls (omega (arith, less)))) refl
same_lines [] (t ∷ ts) many each = absurd (omega (arith, many))
same_lines (lines ∷ scripts) [] many each = absurd (omega (arith, many))

-- the clients of scripts have handed out nothing
pub all_new : (scripts : List (List Line)) (clients : List Playing) → ArePlaying scripts clients
    → All (λ c. IsNewClient (owed_of c.is_owed c.lines) c.stands) clients
all_new scripts these are =
    subst (λ cs. All (λ (c : Playing). IsNewClient (owed_of c.is_owed c.lines) c.stands) cs) (sym are.clients_are) (from scripts)
  where
    New : Playing → Type 0
    New c = IsNewClient (owed_of c.is_owed c.lines) c.stands

    from : (ls : List (List Line)) → All New (map new_client ls)
    from [] = All-nil New
    from (lines ∷ ls) = All-cons New (new_client lines) (map new_client ls) (refl, refl) (from ls)

-- what the clients of scripts leave is the outcome of the run of these
scripts_ended : (setting : Setting) (S : State) (scripts : List (List Line)) (clients : List Playing) (looks : ℕ) (left : List (Unit {0})) (o : Outcome)
    → ArePlaying scripts clients → HasEnded (λ (c : Playing). has_still c.lines) setting S clients looks left o → IsOutcomeOf setting S scripts o
scripts_ended setting S scripts these looks left o are ended =
    let as_many : length these ≡ length scripts = ap length are.clients_are ∙ length-map scripts new_client in
    let lines : lines_of o.transcripts ≡ scripts = same_lines scripts o.transcripts (ended.many ∙ as_many)
    (λ k t ls less. ended.each k (new_client ls) t tt (omega (arith, less, as_many))
    ∙ ap (λ cs. (slice_index_or cs k (new_client ls)).lines) are.clients_are
    ∙ ap (λ c. c.lines) (get_or-map new_client scripts k ls (new_client ls) less)) in
    record {
      left = subst (λ ls. IsLeftByWorkers setting S ls o) lines ended.outcome.left;
      never_full = ended.never (subst AreShort (sym lines) are.short);
    }

-- so it is told of a run whose crew they are
pub run_ended : (setup : Setting) (S : State) (scripts : List (List Line)) (these crew : List Playing) (looks : ℕ) (left : List (Unit {0}))
    (o : Outcome) → ArePlaying scripts these → crew ≡ these
    → HasEnded (λ (c : Playing). has_still c.lines) setup S crew looks left o → IsOutcomeOf setup S scripts o
run_ended setup S scripts these crew looks left o are same ended =
    scripts_ended setup S scripts these looks left o are
    (subst (λ cs. HasEnded (λ (c : Playing). has_still c.lines) setup S cs looks left o) same ended)
