-- The journal has of each client what it may write, and within its share.
use Rattle.std.proofs.Common.{◌≡◌, inl, inr, ◌+◌, ◌<◌, ◌≤◌, ◌==◌, ℕ, zero, suc, Bool, true, false, List, [], ◌∷◌, All, Option, Some, None, Result, Ok, Err, map, filter, take, get_or, length, ◌++◌, refl, sym, subst, ◌∙◌, arith, tests}
use Rattle.std.specs.Prelude.{slice_get, slice_index_or, sum_by}
use Rattle.std.specs.List.{enumerate_from}
use Rattle.std.proofs.lemmas.List.{map-append, map_more}
use Rattle.std.proofs.lemmas.List.Elements.{All-cons, All-head, All-nil, All-tail}
use Rattle.std.proofs.lemmas.List.Sums.{sum_by-cons}
use Rattle.qplain.specs.Journal.{entries_of, entry_of}
use Rattle.qplain.specs.Setups.{Setting}
use Rattle.qplain.specs.State.{State}
use Rattle.qplain.specs.Transcripts.{journaled_lines}
use Rattle.qplain.specs.declared.call_fault.CallFault.{CallFault}
use Rattle.qplain.specs.declared.entry.Entry.{Entry}
use Rattle.qplain.specs.declared.line.Line.{Line}
use Rattle.qplain.specs.declared.receipt.Receipt.{Receipt}
use Rattle.qplain.specs.declared.transcript.Transcript.{Transcript}
use Rattle.qrun.specs.Serving.{IsOfClients}
use Rattle.qrun_replay.specs.Placed.{line_of_entry}
use Rattle.qrun_replay.specs.Runs.{AreTranscriptsOf, IsServiceOf, IsTranscriptOf, lines_of}
use Rattle.qrun_replay.specs.declared.outcome.Outcome.{Outcome}
use Rattle.qrun_worker.specs.Work.{IsNewClient}
use Rattle.qtext_client.specs.Conversations.{GoesOnBehindOwed, Progress, TalksOn, comes_to, had_behind}
use Rattle.qtext_client.specs.Terms.{IsSpent, MayWrite, StaysWithin, bytes_answered, bytes_called, allowance_after}
use Rattle.qtext_client.specs.declared.connection.EndedClient.{EndedClient}
use Rattle.qtext_client.specs.declared.terms.Allowance.{Allowance}
use Rattle.qtext_client.proofs.Bound.{bound_lines}
use Rattle.qtool.specs.ClientNames.{terms_of_client}
use Rattle.qtool.specs.Terms.{AreKept, AreWithin, ClientTerms, bytes_held}

-- the entries that stand for lines of which something holds
journaled_all : (P : Line → Type 0) (worker : ℕ) (lines : List Line) (answers : List (Result Receipt CallFault)) → All P lines
    → All (λ x. P (line_of_entry x.1)) (journaled_lines worker lines answers)
unfolding journaled_lines
journaled_all P worker (line ∷ lines) (Ok receipt ∷ answers) all =
    All-cons (λ x. P (line_of_entry x.1)) (receipt.place, entry_of worker line receipt.reply) (journaled_lines worker lines answers)
    (All-head P line lines all) (journaled_all P worker lines answers (All-tail P line lines all))
journaled_all P worker (line ∷ lines) (Err fault ∷ answers) all = journaled_all P worker lines answers (All-tail P line lines all)
journaled_all P worker [] answers all = All-nil (λ x. P (line_of_entry x.1))
journaled_all P worker (line ∷ lines) [] all = All-nil (λ x. P (line_of_entry x.1))

-- of an entry of a journal this holds where it is the worker's
abbrev IfOwn : (Line → Type 0) → ℕ → Entry → Type 0
IfOwn P worker e = e.worker ≡ worker → P (line_of_entry e)

-- and of an entry with its place
abbrev OfPlaced : (Line → Type 0) → ℕ × Entry → Type 0
OfPlaced P x = P (line_of_entry x.1)

-- a worker's own entries, from this place on
abbrev own_from : ℕ → ℕ → List Entry → List (ℕ × Entry)
own_from worker n journal = filter (λ x. x.1.worker == worker) (enumerate_from n journal)

-- one entry more, which is the worker's or not
own_one : (P : Line → Type 0) (n worker : ℕ) (e : Entry) (journal : List Entry) (b : Bool) → (e.worker == worker) ≡ b
    → All (OfPlaced P) (own_from worker n (e ∷ journal))
    → (All (OfPlaced P) (own_from worker (n + 1) journal) → All (IfOwn P worker) journal) → All (IfOwn P worker) (e ∷ journal)
own_one P n worker e journal true is all later =
    let kept : All (OfPlaced P) ((n, e) ∷ own_from worker (n + 1) journal) = rw is at all in
    All-cons (IfOwn P worker) e journal (λ own. All-head (OfPlaced P) (n, e) (own_from worker (n + 1) journal) kept)
    (later (All-tail (OfPlaced P) (n, e) (own_from worker (n + 1) journal) kept))
own_one P n worker e journal false is all later =
    All-cons (IfOwn P worker) e journal (λ own. let mine : (e.worker == worker) ≡ true = grind (arith, tests, own) in absurd cc)
    (later (rw is at all))

-- what holds of a worker's own entries holds of those of the journal that are its
own_all : (P : Line → Type 0) (n worker : ℕ) (journal : List Entry) → All (OfPlaced P) (own_from worker n journal)
    → All (IfOwn P worker) journal
own_all P n worker [] all = All-nil (IfOwn P worker)
own_all P n worker (e ∷ journal) all = own_one P n worker e journal (e.worker == worker) refl all (own_all P (n + 1) worker journal)

-- the transcript of each worker
transcript_at : (first : ℕ) (journal : List Entry) (ts : List Transcript) → AreTranscriptsOf first (lines_of ts) journal ts
    → (k : ℕ) (t : Transcript) → k < length ts
    → IsTranscriptOf (first + k) (slice_index_or ts k t).lines journal (slice_index_or ts k t)
unfolding AreTranscriptsOf
transcript_at first journal [] are k t less = absurd (omega arith)
transcript_at first journal (x ∷ ts) are zero t less =
    let same : first ≡ first + 0 = omega arith in
    subst (λ w. IsTranscriptOf w x.lines journal x) same are.0
transcript_at first journal (x ∷ ts) are (suc k) t less =
    let same : (first + 1) + k ≡ first + suc k = omega arith in
    subst (λ w. IsTranscriptOf w (slice_index_or ts k t).lines journal (slice_index_or ts k t)) same
    (transcript_at (first + 1) journal ts are.1 k t (omega arith))

-- what is not nothing is something
positive : (n : ℕ) → (n ≡ 0 → ⊥) → 0 < n
positive zero some = absurd (some refl)
positive (suc n) some = omega arith

-- what is left where a line may be answered
some_left : (share : Allowance) → (IsSpent (Some share) → ⊥) → (0 < share.calls) × (0 < share.bytes)
some_left share some = (positive share.calls (λ none. some (inl none)), positive share.bytes (λ none. some (inr none)))

-- lines that were answered within a share have no more entries than it allows
few_entries : (worker : ℕ) (share : Allowance) (lines : List Line) (answers : List (Result Receipt CallFault))
    → StaysWithin (Some share) lines answers → length (journaled_lines worker lines answers) ≤ share.calls
unfolding journaled_lines StaysWithin
few_entries worker share [] answers within = omega arith
few_entries worker share (line ∷ lines) [] within = omega arith
few_entries worker share (line ∷ lines) (Ok receipt ∷ answers) within =
    let some = some_left share within.0 in
    let later = few_entries worker (allowance_after share line.call (Ok receipt)) lines answers within.1 in
    omega (arith, some.0, later)
few_entries worker share (line ∷ lines) (Err fault ∷ answers) within =
    let later = few_entries worker (allowance_after share line.call (Err fault)) lines answers within.1 in
    omega (arith, later)

-- and before each of these they hold less than it allows
small_before : (worker : ℕ) (share : Allowance) (lines : List Line) (answers : List (Result Receipt CallFault)) (n : ℕ)
    → StaysWithin (Some share) lines answers → n < length (journaled_lines worker lines answers)
    → sum_by (λ x. bytes_held x.1) (take n (journaled_lines worker lines answers)) < share.bytes
unfolding journaled_lines StaysWithin
small_before worker share [] answers n within less = absurd (omega arith)
small_before worker share (line ∷ lines) [] n within less = absurd (omega arith)
small_before worker share (line ∷ lines) (Ok receipt ∷ answers) zero within less = (some_left share within.0).1
small_before worker share (line ∷ lines) (Ok receipt ∷ answers) (suc n) within less =
    let later = small_before worker (allowance_after share line.call (Ok receipt)) lines answers n within.1 (omega (arith, less)) in
    let held : ℕ × Entry → ℕ = λ x. bytes_held x.1 in
    let entry : ℕ × Entry = (receipt.place, entry_of worker line receipt.reply) in
    let split : sum_by held (take (suc n) (journaled_lines worker (line ∷ lines) (Ok receipt ∷ answers)))
    ≡ (bytes_called line.call + bytes_answered (Ok receipt)) + sum_by held (take n (journaled_lines worker lines answers))
    = sum_by-cons held entry (take n (journaled_lines worker lines answers)) in
    omega (arith, later, split)
small_before worker share (line ∷ lines) (Err fault ∷ answers) n within less =
    let later = small_before worker (allowance_after share line.call (Err fault)) lines answers n within.1 less in
    omega (arith, later)

-- the entries of lines that were answered within a share
within_entries : (worker : ℕ) (share : Option Allowance) (lines : List Line) (answers : List (Result Receipt CallFault))
    → StaysWithin share lines answers → AreWithin share (journaled_lines worker lines answers)
within_entries worker None lines answers within = tt
within_entries worker (Some share) lines answers within =
    (few_entries worker share lines answers within, λ n less. small_before worker share lines answers n within less)

-- a client that is served on these terms
record Served (clients : List Progress) (k : ℕ) (t : ClientTerms) : Type 0 where
  client : Progress
  less : k < length clients
  at : slice_index_or clients k client ≡ client
  is : terms_of_client client ≡ t

served_at : (clients : List Progress) (k : ℕ) (t : ClientTerms) → slice_get (map terms_of_client clients) k ≡ Some t → Served clients k t
served_at [] k t is = absurd cc
served_at (c ∷ clients) zero t is = record { client = c; less = omega arith; at = refl; is = cc }
served_at (c ∷ clients) (suc k) t is =
    let later = served_at clients k t is in
    record { client = later.client; less = omega (arith, later.less); at = later.at; is = later.is }

-- some element of a list that has one
some_of : {X : Type 0} (xs : List X) → 0 < length xs → X
some_of [] less = absurd (omega arith)
some_of (x ∷ xs) less = x

module _ {S : Type 0} (clocked : Bool) (took : S → Option (List ℕ)) (clients : List Progress) (left : List (EndedClient S)) (setting : Setting)
    (begun : State) (o : Outcome) (service : IsServiceOf setting begun o) (of : IsOfClients (comes_to clocked took) clients left o)
    (new : All (λ c. IsNewClient c.owed c.stands) clients) where
  -- the lines of a client are those that it may write, answered within its share
  its_lines : (k : ℕ) (p : ClientTerms) (b : Served clients k p) (t : Transcript) (l : EndedClient S)
      → All (MayWrite p.bound) (slice_index_or o.transcripts k t).lines
      × StaysWithin p.share (slice_index_or o.transcripts k t).lines (slice_index_or o.transcripts k t).answers
  its_lines k terms b t l =
      let p = b.client in
      let told = slice_index_or o.transcripts k t in
      let gone = slice_index_or left k l in
      let talk = subst (λ c. comes_to clocked took c told.lines told.answers gone) b.at (of.each k p t l b.less) in
      let none : p.owed ≡ None = (subst (λ c. IsNewClient c.owed c.stands) b.at (new k p b.less)).0 in
      let had = had_behind p told.lines told.answers in
      let goes : TalksOn p.stops clocked p.bound p.share had p.wire (took gone.streams) gone.end [] told.lines told.answers =
      subst (λ o. GoesOnBehindOwed clocked o (λ share. TalksOn p.stops clocked p.bound share had p.wire (took gone.streams) gone.end) p.share told.lines
      told.answers) none talk in (
        subst (λ terms. All (MayWrite terms.bound) told.lines) b.is
            (bound_lines clocked p.bound had p.wire.hears told.lines told.answers gone.end goes.talk),
        subst (λ terms. StaysWithin terms.share told.lines told.answers) b.is goes.within,
      )

  -- so are its entries
  pub keeps_terms : (terms : List ClientTerms) → map terms_of_client clients ≡ terms → AreKept terms o.journal.entries
  keeps_terms terms same k p at =
      let b = served_at clients k p (rw (← same) at at) in
      let some_left : 0 < length left = omega (arith, of.left_are, b.less) in
      let some_told : 0 < length o.transcripts = omega (arith, of.many, b.less) in
      let t = some_of o.transcripts some_told in
      let told = slice_index_or o.transcripts k t in
      let journal = o.journal.entries in
      let is = transcript_at 1 journal o.transcripts service.left.transcripts k t (omega (arith, of.many, b.less)) in
      let (may, within) = its_lines k p b t (some_of left some_left) in
      let P : Line → Type 0 = MayWrite p.bound in
      let own = journaled_all P (1 + k) told.lines told.answers may in
      let place : 1 + k ≡ k + 1 = omega arith in
      record {
        may = subst (λ w. All (λ e. e.worker ≡ w → P (line_of_entry e)) journal) place
            (own_all P 1 (1 + k) journal (subst (All (λ x. P (line_of_entry x.1))) is.own own));
        within = subst (λ w. AreWithin p.share (entries_of journal w)) place
            (subst (AreWithin p.share) is.own (within_entries (1 + k) p.share told.lines told.answers within));
      }

-- one client more, served on the terms of its names
pub served_more : {X : Type 0} (terms_in : X → ClientTerms) (clients : List Progress) (names : List X) (i : ℕ) (d : X) (client : Progress)
    → i < length names → map terms_of_client clients ≡ map terms_in (take i names) → terms_of_client client ≡ terms_in (get_or names i d)
    → map terms_of_client (clients ++ client ∷ []) ≡ map terms_in (take (i + 1) names)
served_more terms_in clients names i d client less so one =
    map-append terms_of_client clients (client ∷ []) ∙ (λ j. so j ++ one j ∷ []) ∙ sym (map_more terms_in names i d less)
