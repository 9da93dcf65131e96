-- The journal of a service of one client, which its lines decide.
use Rattle.std.proofs.Common.{◌≡◌, ℕ, zero, suc, ◌+◌, ◌<◌, ◌==◌, true, List, [], ◌∷◌, ◌++◌, length, map, filter, slice_index_or, All, Result, Ok, Err, refl, sym, ap, subst, ◌∙◌, append-nil, length-append, arith, tests}
use Rattle.std.specs.List.{Contains, enumerate_from}
use Rattle.std.proofs.lemmas.List.{length-map, nil_from_length}
use Rattle.std.proofs.lemmas.List.Elements.{All-head, All-tail}
use mathlib.Core.List.{IsPrefix}
use Rattle.qplain.specs.declared.call_fault.CallFault.{CallFault}
use Rattle.qplain.specs.declared.entry.Entry.{Entry}
use Rattle.qplain.specs.declared.line.Line.{Line}
use Rattle.qplain.specs.declared.receipt.Receipt.{Receipt}
use Rattle.qplain.specs.Setups.{Setting}
use Rattle.qplain.specs.declared.reply.Reply.{Reply}
use Rattle.qplain.specs.State.{State}
use Rattle.qplain.specs.Step.{step}
use Rattle.qplain.specs.Journal.{IsLegal, play, played, tally_of}
use Rattle.qplain.specs.Transcripts.{journaled_lines}
use Rattle.qrun_replay.specs.declared.outcome.Outcome.{Outcome}
use Rattle.qrun_replay.specs.Placed.{line_of_entry}
use Rattle.qrun_replay.specs.Replays.{granted_lines}
use Rattle.qrun_replay.specs.Runs.{AreTranscriptsOf, IsTranscriptOf, lines_of}
use Rattle.qtool_runs.specs.Replicas.{AreAlike, IsHostOf}

-- the lines of the entries that a worker's receipts stand for
granted_again : (worker : ℕ) (lines : List Line) (answers : List (Result Receipt CallFault))
    → map (λ x. line_of_entry x.1) (journaled_lines worker lines answers) ≡ granted_lines lines answers
unfolding journaled_lines granted_lines
granted_again worker (line ∷ lines) (Ok receipt ∷ answers) = ap (λ rest. line ∷ rest) (granted_again worker lines answers)
granted_again worker (line ∷ lines) (Err fault ∷ answers) = granted_again worker lines answers
granted_again worker [] answers = refl
granted_again worker (line ∷ lines) [] = refl

-- of one worker's entries all are its own
abbrev Own : ℕ → Entry → Type 0
Own worker e = e.worker ≡ worker

own_lines : (n worker : ℕ) (journal : List Entry) → All (Own worker) journal
    → map (λ x. line_of_entry x.1) (filter (λ x. x.1.worker == worker) (enumerate_from n journal)) ≡ map line_of_entry journal
own_lines n worker [] own = refl
own_lines n worker (e ∷ journal) own =
    let is : e.worker ≡ worker = All-head (Own worker) e journal own in
    let mine : (e.worker == worker) ≡ true = grind (arith, tests, is) in
    rw mine (ap (λ rest. line_of_entry e ∷ rest) (own_lines (n + 1) worker journal (All-tail (Own worker) e journal own)))

-- the reply of the plain machine to a line
abbrev reply_to : State → Line → Reply
reply_to S l = (step S l.cred l.moment l.call).1

-- two entries of one worker for one line are the same, where each reply is the plain machine's
same_entry : (S : State) (e f : Entry) → f.worker ≡ e.worker → line_of_entry f ≡ line_of_entry e → e.reply ≡ (played S e).1
    → f.reply ≡ (played S f).1 → e ≡ f
same_entry S e f worker line one other =
    let reply : e.reply ≡ f.reply = one ∙ sym (ap (reply_to S) line) ∙ sym other in
    λ i. record {
      worker = sym worker i;
      cred = (sym line i).cred;
      moment = (sym line i).moment;
      call = (sym line i).call;
      reply = reply i;
    }

-- so of two legal journals of one worker that whose lines begin those of the other begins the other
begins : (S : State) (worker : ℕ) (es fs : List Entry) (later : List Line) → IsLegal S es → IsLegal S fs → All (Own worker) es
    → All (Own worker) fs → map line_of_entry fs ≡ map line_of_entry es ++ later → IsPrefix es fs
begins S worker [] fs later one other mine its lines = (fs, refl)
begins S worker (e ∷ es) [] later one other mine its lines = absurd cc
begins S worker (e ∷ es) (f ∷ fs) later one other mine its lines =
    let line : line_of_entry f ≡ line_of_entry e = cc in
    let rest : map line_of_entry fs ≡ map line_of_entry es ++ later = cc in
    let same = same_entry S e f (All-head (Own worker) f fs its ∙ sym (All-head (Own worker) e es mine)) line one.0 other.0 in
    let more = begins (played S e).0 worker es fs later one.1 (subst (λ x. IsLegal (played S x).0 fs) (sym same) other.1)
    (All-tail (Own worker) e es mine) (All-tail (Own worker) f fs its) rest in
    (more.0, λ i. same i ∷ more.1 i)

module _ (setting : Setting) (S : State) (lines : List Line) (o : Outcome) (host : IsHostOf setting S lines o) where
  -- the one transcript
  its_transcript : IsTranscriptOf 1 host.transcript.lines o.journal.entries host.transcript
  unfolding AreTranscriptsOf
  its_transcript =
      (subst (λ ts. AreTranscriptsOf 1 (lines_of ts) o.journal.entries ts) host.alone host.service.left.transcripts).0

  -- all entries are the one worker's
  its_entries : All (Own 1) o.journal.entries
  its_entries k d less =
      let of : (at : ℕ) × _ × _ = subst (λ ts. Contains (map (λ t. t.worker) ts) (slice_index_or o.journal.entries k d).worker) host.alone
      (host.service.left.belong k d less) in
      alone_in of.0 of.1 of.2
    where
      alone_in : (at : ℕ) {w : ℕ} → at < 1 → slice_index_or (host.transcript.worker ∷ []) at w ≡ w → w ≡ 1
      alone_in zero low is = sym is ∙ its_transcript.worker_is
      alone_in (suc at) low is = absurd (omega (arith, low))

  -- their lines are those that have not failed
  its_lines : map line_of_entry o.journal.entries ≡ lines
  its_lines =
      sym (own_lines 1 1 o.journal.entries its_entries) ∙ ap (map (λ x. line_of_entry x.1)) (sym its_transcript.own)
      ∙ granted_again 1 host.transcript.lines host.transcript.answers ∙ host.granted

  -- there is one worker
  its_workers : o.journal.workers ≡ 1
  its_workers = host.service.left.workers ∙ ap (λ ts. length (lines_of ts)) host.alone

pub begin_alike : (setting : Setting) (S : State) (lines later : List Line) (a b : Outcome) → IsHostOf setting S lines a → IsHostOf setting S (lines ++ later) b
    → IsPrefix a.journal.entries b.journal.entries
begin_alike setting S lines later a b one other =
    begins S 1 a.journal.entries b.journal.entries later one.service.left.legal other.service.left.legal
    (its_entries setting S lines a one) (its_entries setting S (lines ++ later) b other)
    (its_lines setting S (lines ++ later) b other ∙ ap (λ ls. ls ++ later) (sym (its_lines setting S lines a one)))

pub are_alike : (setting : Setting) (S : State) (lines : List Line) (a b : Outcome) → IsHostOf setting S lines a → IsHostOf setting S lines b → AreAlike a b
are_alike setting S lines a b one other =
    let es = a.journal.entries in
    let fs = b.journal.entries in
    let prefix = begin_alike setting S lines [] a b one (subst (λ ls. IsHostOf setting S ls b) (sym (append-nil lines)) other) in
    let many : length es ≡ length fs =
    sym (length-map es line_of_entry) ∙ ap length (its_lines setting S lines a one ∙ sym (its_lines setting S lines b other)) ∙ length-map fs line_of_entry in
    let none : prefix.0 ≡ [] = nil_from_length prefix.0 (omega (arith, many, ap length prefix.1, length-append es prefix.0)) in
    let entries : es ≡ fs = sym (append-nil es) ∙ ap (λ rest. es ++ rest) (sym none) ∙ prefix.1 in
    let left = one.service.left in
    let right = other.service.left in
    let store : a.store.state ≡ b.store.state = left.store ∙ ap (play S) entries ∙ sym right.store in
    record {
      journal = λ i. record {
        edition = (left.edition.1 ∙ sym right.edition.1) i;
        workers = (its_workers setting S lines a one ∙ sym (its_workers setting S lines b other)) i;
        entries = entries i;
      };
      tallies = left.tallies ∙ ap tally_of entries ∙ sym right.tallies;
      store = store;
    }
