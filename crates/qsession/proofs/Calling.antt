-- From what a call came to, to what a caller of another language is told of it.
use Rattle.std.proofs.Common.{◌≡◌, inl, inr, ℕ, ◌<◌, ◌≤◌, Bool, true, false, All, List, ◌∷◌, Option, Some, None, Result, Ok, Err, IfOk, IsErr, refl, sym, ap, subst, ◌∙◌, arith, lit<}
use Rattle.std.proofs.lemmas.List.Elements.{All-head, All-tail}
use Rattle.qrules.specs.declared.kind.Kind.{Kind as WhoseKind}
use Rattle.qrules.specs.declared.kind.Kind.TheVariants.{User, Group, Project}
use Rattle.qrules.specs.declared.over.Over.{Over}
use Rattle.qrules.specs.declared.over.Over.TheVariants.{InodeHard, InodeSoft, BlockHard, BlockSoft}
use Rattle.qplain.specs.declared.call.Call.{Call}
use Rattle.qplain.specs.declared.call.Call.TheVariants.{Stat as AskStat, Quota as AskQuota}
use Rattle.qplain.specs.declared.line.Line.{Line}
use Rattle.qplain.specs.declared.refusal.Refusal.{Refusal}
use Rattle.qplain.specs.declared.refusal.Refusal.TheVariants.{EINVAL, ENAMETOOLONG, ENOENT, ENOTDIR, EEXIST, ENOSPC, EDQUOT, EISDIR, EACCES}
use Rattle.qplain.specs.declared.refusal.Refusal.TheVariants.{EFBIG, EPERM, EMLINK, ENOTEMPTY, EBUSY, ESRCH}
use Rattle.qplain.specs.declared.reply.Reply.{Reply}
use Rattle.qplain.specs.declared.reply.Reply.TheVariants.{Done, Bytes, Stat, Quota, Refused}
use Rattle.qplain.specs.Calls.{paths_of}
use Rattle.qplain.specs.Paths.{ArePathBytes}
use Rattle.qplain.specs.State.{State}
use Rattle.qsession.specs.declared.caller.Caller.{Caller as BroughtCaller}
use Rattle.qsession.specs.declared.caller.Context.{Context}
use Rattle.qsession.specs.declared.fault.Fault.{Fault}
use Rattle.qsession.specs.declared.fault.Fault.TheVariants.{Closed, Memory, Path, Caller, Open, Room, JournalFull, Kind, NoJournal}
use Rattle.qsession.specs.declared.fault.Fault.TheVariants.{Line as NoLine}
use Rattle.qsession.specs.Answers.{ChangesAreDone, QuotasTellRecords, StatsTellNumbers, is_change, tells_done, tells_quota, tells_stat}
use Rattle.qsession.specs.Brought.{HasBadPath, IsCauseOfPath}
use Rattle.qsession.specs.Called.{IsAnswered, IsCalled, IsCalledIn, IsCause, IsReplyTo, IsStepOf, IsToldStep, code_of}
use Rattle.qsession.specs.Codes.{FAULTS, over_code, refusal_code, reply_code}
use Rattle.qsession.specs.Faults.{fault_code}
use Rattle.qsession.specs.Holdings.{Holding}
use Rattle.qsession.specs.Requests.{line_in}
use Rattle.qsession.specs.Steps.{stepped}

-- where each reply to the line's call passes a test, the one that was given does
pub passes : (test : Reply → Bool) (old new : Option Holding) (line : Line) (answer : Result Reply Fault)
    → ((S : State) → test (stepped S line).1 ≡ true) → IfOk answer (IsStepOf old new line) → IfOk answer (λ reply. test reply ≡ true)
passes test (Some old) (Some new) line (Ok reply) each is = ap test is.reply_is ∙ each old.state
passes test (Some old) None line (Ok reply) each is = absurd is
passes test None new line (Ok reply) each is = absurd is
passes test old new line (Err fault) each is = tt

-- ---- an answer is one of its call's kind

module _ (old new : Option Holding) (context : Context) (answer : Result Reply Fault) where
  -- that of a call which changes something
  pub answers_done : (call : Call) → ChangesAreDone → is_change call ≡ true → IsAnswered old new context call answer
      → IfOk answer (λ reply. tells_done reply ≡ true)
  answers_done call each change answered =
      let line = line_in context call in
      passes tells_done old new line answer (λ S. each S line.cred line.moment call change) answered.ok

  -- that of a stat
  pub answers_stat : (path : List ℕ) → StatsTellNumbers → IsAnswered old new context (AskStat path) answer
      → IfOk answer (λ reply. tells_stat reply ≡ true)
  answers_stat path each answered =
      let line = line_in context (AskStat path) in
      passes tells_stat old new line answer (λ S. each S line.cred line.moment path) answered.ok

  -- that of a question for a quota
  pub answers_quota : (kind : WhoseKind) (id : ℕ) → QuotasTellRecords → IsAnswered old new context (AskQuota kind id) answer
      → IfOk answer (λ reply. tells_quota reply ≡ true)
  answers_quota kind id each answered =
      let line = line_in context (AskQuota kind id) in
      passes tells_quota old new line answer (λ S. each S line.cred line.moment kind id) answered.ok

-- ---- a fault of what is brought to a call

absurd_of : (n m : ℕ) → n < m → m ≤ n → ⊥
absurd_of n m below above = omega arith

-- each fault has a number from 64 on
fault_high : (f : Fault) → FAULTS ≤ fault_code f
fault_high Closed = lit< tt
fault_high Memory = lit< tt
fault_high Path = lit< tt
fault_high Caller = lit< tt
fault_high Open = lit< tt
fault_high Room = lit< tt
fault_high NoLine = lit< tt
fault_high JournalFull = lit< tt
fault_high Kind = lit< tt
fault_high NoJournal = lit< tt

low_fault : (fault : Fault) (number : ℕ) → number ≡ fault_code fault → number < FAULTS → ⊥
low_fault fault number is below = absurd_of (fault_code fault) FAULTS (subst (λ (n : ℕ). n < FAULTS) is below) (fault_high fault)

-- each reply has a number below 64
over_low : (kind : WhoseKind) (over : Over) → over_code kind over < FAULTS
over_low User InodeHard = lit< tt
over_low User InodeSoft = lit< tt
over_low User BlockHard = lit< tt
over_low User BlockSoft = lit< tt
over_low Group InodeHard = lit< tt
over_low Group InodeSoft = lit< tt
over_low Group BlockHard = lit< tt
over_low Group BlockSoft = lit< tt
over_low Project InodeHard = lit< tt
over_low Project InodeSoft = lit< tt
over_low Project BlockHard = lit< tt
over_low Project BlockSoft = lit< tt

refusal_low : (refusal : Refusal) → refusal_code refusal < FAULTS
refusal_low (EDQUOT kind over) = over_low kind over
refusal_low EINVAL = lit< tt
refusal_low ENAMETOOLONG = lit< tt
refusal_low ENOENT = lit< tt
refusal_low ENOTDIR = lit< tt
refusal_low EEXIST = lit< tt
refusal_low ENOSPC = lit< tt
refusal_low EISDIR = lit< tt
refusal_low EACCES = lit< tt
refusal_low EFBIG = lit< tt
refusal_low EPERM = lit< tt
refusal_low EMLINK = lit< tt
refusal_low ENOTEMPTY = lit< tt
refusal_low EBUSY = lit< tt
refusal_low ESRCH = lit< tt

reply_low : (reply : Reply) → reply_code reply < FAULTS
reply_low (Refused refusal) = refusal_low refusal
reply_low (Done number change) = lit< tt
reply_low (Bytes bytes) = lit< tt
reply_low (Stat stat) = lit< tt
reply_low (Quota quota) = lit< tt

-- a reply is no fault
no_err : (reply : Reply) → IsErr {T = Reply} {E = Fault} (Ok reply) → ⊥
no_err reply is = let none : false ≡ true = is in absurd (cc)

-- a step is told by the number of its reply
told_step : (old new : Option Holding) (line : Line) (reply : Reply) → IsStepOf old new line reply → IsToldStep old new line (reply_code reply)
told_step (Some old) (Some new) line reply is = (ap Some is.held, ap reply_code is.reply_is)
told_step (Some old) None line reply is = absurd is
told_step None new line reply is = absurd is

-- ---- an answer to a call

module _ (old : Option Holding) (caller : BroughtCaller) (moment : ℕ) (call : Call) (number : ℕ) where
  path_cause : (fault : Fault) (path : List ℕ) → IsCauseOfPath path fault → ((ArePathBytes path → ⊥) → HasBadPath call)
      → IsCause old caller call fault
  path_cause Closed path cause bad = absurd cause
  path_cause Memory path cause bad = tt
  path_cause Path path cause bad = bad cause
  path_cause Caller path cause bad = absurd cause
  path_cause Open path cause bad = absurd cause
  path_cause Room path cause bad = absurd cause
  path_cause NoLine path cause bad = absurd cause
  path_cause JournalFull path cause bad = absurd cause
  path_cause Kind path cause bad = absurd cause
  path_cause NoJournal path cause bad = absurd cause

  -- a fault that has its cause changes nothing
  pub faulted : (fault : Fault) → number ≡ fault_code fault → IsCause old caller call fault → IsCalled old old caller moment call number
  faulted fault is cause =
      let high : FAULTS ≤ number = subst (λ (n : ℕ). FAULTS ≤ n) (sym is) (fault_high fault) in
      record {
        told = λ below. absurd (low_fault fault number is below);
        fault = λ above. refl;
        cause = λ above. (fault, is, cause);
        full = λ full. high;
        path = λ bad. high;
        groups = λ many. high;
      }

  -- want of memory may come to any call
  pub memory_faulted : (fault : Fault) → fault ≡ Memory → number ≡ fault_code fault → IsCalled old old caller moment call number
  memory_faulted fault own is = faulted Memory (is ∙ ap fault_code own) tt

  -- so may a path that was not taken
  pub path_faulted : (path : List ℕ) (rest : List (List ℕ)) (fault : Fault) → paths_of call ≡ path ∷ rest → IsCauseOfPath path fault
      → number ≡ fault_code fault → IsCalled old old caller moment call number
  path_faulted path rest fault paths cause is =
      faulted fault is (path_cause fault path cause (λ bad all.
      bad (All-head ArePathBytes path rest (subst (λ ps. All ArePathBytes ps) paths all))))

  -- and a second one
  pub second_faulted : (first path : List ℕ) (rest : List (List ℕ)) (fault : Fault) → paths_of call ≡ first ∷ path ∷ rest
      → IsCauseOfPath path fault → number ≡ fault_code fault → IsCalled old old caller moment call number
  second_faulted first path rest fault paths cause is =
      faulted fault is (path_cause fault path cause (λ bad all.
      bad (All-head ArePathBytes path rest (All-tail ArePathBytes first (path ∷ rest) (subst (λ ps. All ArePathBytes ps) paths all)))))

-- what an answer came to is told by its number
pub called : (old new : Option Holding) (context : Context) (call : Call) (answer : Result Reply Fault) (number : ℕ)
    → number ≡ code_of answer → IsAnswered old new context call answer → IsCalledIn old new context call number
called old new context call (Ok reply) number is answered =
    let line = line_in context call in
    let step = told_step old new line reply answered.ok in
    let below : number < FAULTS = subst (λ (n : ℕ). n < FAULTS) (sym is) (reply_low reply) in
    record {
      told = λ low. subst (λ (n : ℕ). IsToldStep old new line n) (sym is) step;
      fault = λ above. absurd (absurd_of number FAULTS below above);
      cause = λ above. absurd (absurd_of number FAULTS below above);
      full = λ f. absurd (no_err reply (answered.full f));
      path = λ bad. absurd (no_err reply (answered.brought (inr bad)));
      groups = λ many. absurd (no_err reply (answered.brought (inl many)));
    }
called old new context call (Err fault) number is answered =
    subst (λ (n : Option Holding). IsCalledIn old n context call number) (sym answered.err)
    (faulted old context.caller.now context.moment call number fault is answered.cause)

-- and is not told as granted
pub not_granted : (old : Option Holding) (line : Line) (reply : Reply) (fault : Fault) (number : ℕ) → number ≡ fault_code fault → number ≡ 0
    → IsReplyTo old line reply
not_granted old line reply fault number is zero =
    absurd (low_fault fault number is (subst (λ (n : ℕ). n < FAULTS) (sym zero) (lit< tt)))

-- nor with any bytes
pub no_bytes : (fault : Fault) (number len room : ℕ) → number ≡ fault_code fault → number ≡ 0 → len ≤ room
no_bytes fault number len room is zero = absurd (low_fault fault number is (subst (λ (n : ℕ). n < FAULTS) (sym zero) (lit< tt)))

-- what the calls of a session that tell a number are proved by
pub ruleset told_of_answers = (called, answers_done, answers_stat, answers_quota, path_faulted, not_granted)

-- what exports are proved by which make a path of bytes before they call
pub ruleset told_of_paths = (path_faulted, not_granted)
