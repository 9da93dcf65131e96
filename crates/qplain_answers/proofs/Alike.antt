-- A step of a call that names no project is the same without projects, where none of them has a limit.
use Rattle.std.proofs.Common.{◌≡◌, ℕ, ◌+◌, ◌-◌, ◌==◌, Bool, true, false, not, ◌&&◌, ◌||◌, nat_le, nat_lt, cond, List, [], ◌∷◌, map, filter, All, Option, Some, None, refl, sym, ap, subst, ◌∙◌, tests, arith}
use Rattle.std.specs.Option.{option_or}
use Rattle.std.specs.List.{AllByRecursion}
use Rattle.std.proofs.lemmas.List.Elements.{All-map, All-weaker, recursion_from_All}
use Rattle.qrules.specs.declared.kind.Kind.{Kind}
use Rattle.qrules.specs.declared.limits.Limits.{Limits}
use Rattle.qrules.specs.declared.over.Over.{Over}
use Rattle.qrules.specs.Kinds.{is_same_kind}
use Rattle.qrules.specs.Sort.{Inodes, Blocks, amount_of, hard_limit, soft_limit, is_over}
use Rattle.qrules.specs.Account.{Account}
use Rattle.qrules.specs.Charge.{first_fault, has_ended, hard_fault, soft_fault}
use Rattle.qrules.specs.Grace.{end_after}
use Rattle.qplain.specs.declared.bounds.TheConstants.{MAX_NUMBER}
use Rattle.qplain.specs.declared.call.Call.{Call}
use Rattle.qplain.specs.declared.call.Call.TheVariants.{Create, Mkdir, Write, Truncate, Read, Stat as AskStat, Link, Unlink, Rmdir, Rename, Chown, SetQuota, SetGrace, Quota as AskQuota}
use Rattle.qplain.specs.declared.refusal.Refusal.{Refusal}
use Rattle.qplain.specs.declared.refusal.Refusal.TheVariants.{ENOSPC}
use Rattle.qplain.specs.declared.reply.Reply.{Reply}
use Rattle.qplain.specs.declared.reply.Reply.TheVariants.{Done}
use Rattle.qplain.specs.Caller.{Caller, is_superuser}
use Rattle.qplain.specs.State.{Holder, State}
use Rattle.qplain.specs.Use.{account_of, use_of}
use Rattle.qplain.specs.Decision.{ends_after, fault_of_holder, first_refusal, refusal_between, with_ends_of}
use Rattle.qplain.specs.Known.{is_holder}
use Rattle.qplain.specs.Attempt.{Attempt, Refuse, Answer, Becomes}
use Rattle.qplain.specs.Quotas.{relimited}
use Rattle.qplain.specs.Calls.{attempt}
use Rattle.qplain.specs.Step.{change_between, settle, settled, step}
use Rattle.qplain_laws.proofs.Answering.{MayBecome, TellsNone, attempt-none}
use Rattle.qplain_answers.specs.WithoutProjects.{HasUnlimitedProjects, ProjectsChangeNothing, is_project, names_project, unlimited, without_projects}
use Rattle.qplain_answers.proofs.Entries.{filter-staying, first-staying, stays}
use Rattle.qplain_answers.proofs.Looks.{total-same, use-same}
use Rattle.qplain_answers.proofs.Attempts.{forgets}
use Rattle.qplain_answers.proofs.Calls.{attempt-same}

-- ---- decisions

not-true : (b : Bool) → not b ≡ true → b ≡ false
not-true true e = cc
not-true false e = refl

not-false : (b : Bool) → not b ≡ false → b ≡ true
not-false true e = refl
not-false false e = cc

-- a record of a holder that is no project
account-same : (S : State) (h : Holder) → stays h ≡ true → account_of (without_projects S) h ≡ account_of S h
account-same S h is = (λ i. record (account_of S h) {
  blocks = use-same S h.kind h.id Blocks (not-true (is_project h.kind) is) i;
  inodes = use-same S h.kind h.id Inodes (not-true (is_project h.kind) is) i;
})

-- where nothing is over a limit, nothing is in the way
none-over : (kept : Bool) (hard soft : Over) → ◌≡◌ {A = Option Over} (cond kept None (cond false (Some hard) (cond false (Some soft) None))) None
none-over true hard soft = refl
none-over false hard soft = refl

-- of an account without limits no sort has a fault
unlimited-fault : (a : Account) (moment blocks inodes : ℕ) → a.limits ≡ unlimited → first_fault a moment blocks inodes ≡ None
unlimited-fault a moment blocks inodes free =
    (λ i. option_or
    (cond (nat_le inodes a.inodes) None (cond (is_over inodes (hard_limit Inodes (free i))) (Some (hard_fault Inodes))
    (cond (is_over inodes (soft_limit Inodes (free i)) && has_ended a.inode_end moment) (Some (soft_fault Inodes)) None)))
    (cond (nat_le blocks a.blocks) None (cond (is_over (amount_of Blocks blocks) (hard_limit Blocks (free i))) (Some (hard_fault Blocks))
    (cond (is_over (amount_of Blocks blocks) (soft_limit Blocks (free i)) && has_ended a.block_end moment) (Some (soft_fault Blocks)) None))))
    ∙ (λ i. option_or (none-over (nat_le inodes a.inodes) (hard_fault Inodes) (soft_fault Inodes) i)
    (none-over (nat_le blocks a.blocks) (hard_fault Blocks) (soft_fault Blocks) i))

module _ (S U : State) (moment : ℕ) where
  -- the fault of a holder that is no project
  fault-same : (h : Holder) → stays h ≡ true → fault_of_holder (without_projects S) (without_projects U) moment h ≡ fault_of_holder S U moment h
  fault-same h is =
      let other : is_project h.kind ≡ false = not-true (is_project h.kind) is in
      (λ i. first_fault (account-same S h is i) moment (use-same U h.kind h.id Blocks other i) (use-same U h.kind h.id Inodes other i))

  -- a project without limits has none
  free-faults : (hs : List Holder) → AllByRecursion (λ h. is_project h.kind ≡ true → h.limits ≡ unlimited) hs
      → AllByRecursion (λ h. stays h ≡ false → fault_of_holder S U moment h ≡ None) hs
  free-faults [] free = tt
  free-faults (h ∷ hs) free = (
    (λ goes. unlimited-fault (account_of S h) moment (use_of U h.kind h.id Blocks) (use_of U h.kind h.id Inodes)
        (free.0 (not-false (is_project h.kind) goes))),
    free-faults hs free.1,
  )

  between-same : (cred : Caller) → HasUnlimitedProjects S
      → refusal_between (without_projects S) (without_projects U) cred moment ≡ refusal_between S U cred moment
  between-same cred free =
      let all = recursion_from_All (λ h. is_project h.kind ≡ true → h.limits ≡ unlimited) S.holders free in
      let first : first_refusal (fault_of_holder (without_projects S) (without_projects U) moment) (filter stays S.holders)
      ≡ first_refusal (fault_of_holder S U moment) S.holders =
      first-staying (fault_of_holder S U moment) (fault_of_holder (without_projects S) (without_projects U) moment) fault-same S.holders
      (free-faults S.holders all) in
      (λ i. cond
      (nat_lt U.size (total-same U Blocks i) || nat_lt U.most_inodes (total-same U Inodes i) || nat_lt (MAX_NUMBER + 1) U.next)
      (Some ENOSPC) (cond (is_superuser cred) None (first i)))

  change-same : change_between (without_projects S) (without_projects U) ≡ change_between S U
  change-same = (λ i. record {
    blocks_charged = total-same U Blocks i - total-same S Blocks i;
    blocks_released = total-same S Blocks i - total-same U Blocks i;
    inodes_charged = total-same U Inodes i - total-same S Inodes i;
    inodes_released = total-same S Inodes i - total-same U Inodes i;
  })

-- the ends that then stand
ends-same : (U : State) (moment : ℕ) → ends_after (without_projects U) moment ≡ without_projects (ends_after U moment)
ends-same U moment = (λ i. record (without_projects U) {
  holders = filter-staying (with_ends_of U moment) (with_ends_of (without_projects U) moment) (λ h. refl) with-same U.holders i;
})
  where
    with-same : (h : Holder) → stays h ≡ true → with_ends_of (without_projects U) moment h ≡ with_ends_of U moment h
    with-same h is = (λ i. record h {
      block_end = end_after Blocks (account-same U h is i) U.graces moment;
      inode_end = end_after Inodes (account-same U h is i) U.graces moment;
    })

-- ---- steps

-- the state of a step without its projects, and its reply
abbrev forgotten : State × Reply → State × Reply
forgotten left = (without_projects left.0, left.1)

settled-same : (S U : State) (number moment : ℕ) (o : Option Refusal)
    → settled (without_projects S) (without_projects U) number moment o ≡ forgotten (settled S U number moment o)
settled-same S U number moment (Some r) = refl
settled-same S U number moment None = (λ i. (ends-same U moment i, Done number (change-same S U moment i)))

settle-same : (S : State) (cred : Caller) (moment : ℕ) → HasUnlimitedProjects S → (a : Attempt)
    → settle (without_projects S) cred moment (forgets a) ≡ forgotten (settle S cred moment a)
settle-same S cred moment free (Refuse r) = refl
settle-same S cred moment free (Answer reply) = refl
settle-same S cred moment free (Becomes U number) =
    ap (settled (without_projects S) (without_projects U) number moment) (between-same S U moment cred free)
    ∙ settled-same S U number moment (refusal_between S U cred moment)

-- a step is the same without projects
step-same : (S : State) (cred : Caller) (moment : ℕ) (call : Call) → HasUnlimitedProjects S → names_project call ≡ false
    → step (without_projects S) cred moment call ≡ forgotten (step S cred moment call)
step-same S cred moment call free other =
    ap (settle (without_projects S) cred moment) (attempt-same S cred moment call other)
    ∙ settle-same S cred moment free (attempt S cred moment call)

-- ---- limits stay

-- the holder is no project, or has no limit
abbrev pub IsFree : Holder → Type 0
IsFree h = is_project h.kind ≡ true → h.limits ≡ unlimited

limited-free : (kind : Kind) (id : ℕ) (limits : Limits) → is_project kind ≡ false → (h : Holder) → IsFree h
    → IsFree (cond (is_holder kind id h) (relimited limits h) h)
limited-free kind id limits other h free = by (is_holder kind id h) refl
  where
    by : (b : Bool) → is_holder kind id h ≡ b → IsFree (cond b (relimited limits h) h)
    by true is = λ project. absurd (clash project is)
      where
        clash : is_project h.kind ≡ true → (is_same_kind kind h.kind && id == h.id) ≡ true → ⊥
        clash project is = grind (arith, tests, other, project, is)
    by false is = free

free-map : (f : Holder → Holder) → ((h : Holder) → IsFree h → IsFree (f h)) → (hs : List Holder) → All IsFree hs → All IsFree (map f hs)
free-map f keeps hs free = All-map IsFree f hs (All-weaker IsFree (λ h. IsFree (f h)) keeps hs free)

-- so they are in the plain result of a call that names no project
free-result : (S U : State) (call : Call) → names_project call ≡ false → MayBecome S call U → HasUnlimitedProjects S → HasUnlimitedProjects U
free-result S U (Create path) other may free = subst (All IsFree) (sym may.holders) free
free-result S U (Mkdir path) other may free = subst (All IsFree) (sym may.holders) free
free-result S U (Write path off bytes) other may free = subst (All IsFree) (sym may.holders) free
free-result S U (Truncate path size) other may free = subst (All IsFree) (sym may.holders) free
free-result S U (Read path off len) other may free = absurd may
free-result S U (AskStat path) other may free = absurd may
free-result S U (Link from to) other may free = subst HasUnlimitedProjects (sym may) free
free-result S U (Unlink path) other may free = subst (All IsFree) (sym may.settings.holders) free
free-result S U (Rmdir path) other may free = subst (All IsFree) (sym may.settings.holders) free
free-result S U (Rename from to) other may free = subst (All IsFree) (sym may.settings.holders) free
free-result S U (Chown path uid gid project) other may free = subst (All IsFree) (sym may.0.holders) free
free-result S U (SetQuota kind id limits) other may free =
    subst HasUnlimitedProjects (sym may)
    (free-map (λ h. cond (is_holder kind id h) (relimited limits h) h) (limited-free kind id limits other) S.holders free)
free-result S U (SetGrace graces) other may free = subst HasUnlimitedProjects (sym may) free
free-result S U (AskQuota kind id) other may free = absurd may

settled-free : (S U : State) (number moment : ℕ) (o : Option Refusal) → HasUnlimitedProjects S → HasUnlimitedProjects U
    → HasUnlimitedProjects (settled S U number moment o).0
settled-free S U number moment (Some r) free result = free
settled-free S U number moment None free result = free-map (with_ends_of U moment) (λ h is. is) U.holders result

settle-free : (S : State) (cred : Caller) (moment : ℕ) (call : Call) → names_project call ≡ false → HasUnlimitedProjects S → (a : Attempt)
    → TellsNone (MayBecome S call) a → HasUnlimitedProjects (settle S cred moment a).0
settle-free S cred moment call other free (Refuse r) tells = free
settle-free S cred moment call other free (Answer reply) tells = free
settle-free S cred moment call other free (Becomes U number) tells =
    settled-free S U number moment (refusal_between S U cred moment) free (free-result S U call other tells.none free)

step-free : (S : State) (cred : Caller) (moment : ℕ) (call : Call) → names_project call ≡ false → HasUnlimitedProjects S
    → HasUnlimitedProjects (step S cred moment call).0
step-free S cred moment call other free =
    settle-free S cred moment call other free (attempt S cred moment call) (attempt-none S cred moment call)

-- ---- the law

pub projects_change_nothing : ProjectsChangeNothing
projects_change_nothing S T cred moment call alike free free_too other =
    let same : forgotten (step S cred moment call) ≡ forgotten (step T cred moment call) =
    sym (step-same S cred moment call free other) ∙ ap (λ U. step U cred moment call) alike ∙ step-same T cred moment call free_too other in
    record {
      replies = ap (λ left. left.1) same;
      states = ap (λ left. left.0) same;
      one = step-free S cred moment call other free;
      other = step-free T cred moment call other free_too;
    }
