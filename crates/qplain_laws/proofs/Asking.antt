-- A call that only asks leaves the state, and no quota is in the superuser's way.
use Rattle.std.proofs.Common.{◌≡◌, ◌≢◌, ℕ, Bool, true, false, cond, Some, None, refl, sym, ap, ◌∙◌}
use Rattle.qrules.specs.declared.kind.Kind.{Kind}
use Rattle.qrules.specs.declared.over.Over.{Over}
use Rattle.qplain.specs.declared.call.Call.{Call}
use Rattle.qplain.specs.declared.call.Call.TheVariants.{Create, Mkdir, Write, Truncate, Read, Stat as AskStat, Link, Unlink, Rmdir, Rename, Chown, SetQuota, SetGrace, Quota as AskQuota}
use Rattle.qplain.specs.declared.refusal.Refusal.{Refusal}
use Rattle.qplain.specs.declared.refusal.Refusal.TheVariants.{EDQUOT, ENOSPC}
use Rattle.qplain.specs.declared.reply.Reply.{Reply}
use Rattle.qplain.specs.declared.reply.Reply.TheVariants.{Refused}
use Rattle.qplain.specs.Caller.{Caller, is_superuser}
use Rattle.qplain.specs.State.{State}
use Rattle.qplain.specs.Decision.{fault_of_holder, first_refusal, is_too_full, refusal_between}
use Rattle.qplain.specs.Attempt.{Attempt, Refuse, Answer, Becomes}
use Rattle.qplain.specs.Calls.{attempt}
use Rattle.qplain.specs.Step.{settle, settled}
use Rattle.qplain_laws.specs.Changes.{AskingChangesNothing, SuperuserMeetsNoQuota, only_asks}
use Rattle.qplain_laws.specs.Laws.{is_for_limits}
use Rattle.qplain_laws.proofs.Answering.{MayBecome, TellsNone, attempt-none, is_refused}

-- ---- calls that ask

-- no call that only asks has a plain result
no-result : (S T : State) (call : Call) → only_asks call ≡ true → MayBecome S call T → ⊥
no-result S T (Read path off len) asks may = may
no-result S T (AskStat path) asks may = may
no-result S T (AskQuota kind id) asks may = may
no-result S T (Create path) asks may = cc
no-result S T (Mkdir path) asks may = cc
no-result S T (Write path off bytes) asks may = cc
no-result S T (Truncate path size) asks may = cc
no-result S T (Link from to) asks may = cc
no-result S T (Unlink path) asks may = cc
no-result S T (Rmdir path) asks may = cc
no-result S T (Rename from to) asks may = cc
no-result S T (Chown path uid gid project) asks may = cc
no-result S T (SetQuota kind id limits) asks may = cc
no-result S T (SetGrace graces) asks may = cc

settle-asked : (S : State) (cred : Caller) (moment : ℕ) (call : Call) → only_asks call ≡ true → (a : Attempt) → TellsNone (MayBecome S call) a
    → (settle S cred moment a).0 ≡ S
settle-asked S cred moment call asks (Refuse r) tells = refl
settle-asked S cred moment call asks (Answer reply) tells = refl
settle-asked S cred moment call asks (Becomes T number) tells = absurd (no-result S T call asks tells.none)

pub asking_changes_nothing : AskingChangesNothing
asking_changes_nothing S cred moment call asks =
    settle-asked S cred moment call asks (attempt S cred moment call) (attempt-none S cred moment call)

-- ---- the superuser

-- a reply that is not refused is no refusal
not-refused : (reply : Reply) (r : Refusal) → is_refused reply ≡ false → reply ≢ Refused r
not-refused reply r granted is = let yes : is_refused reply ≡ true = ap is_refused is in cc

-- nor is one that is refused for no limit
not-for_quota : (r : Refusal) (kind : Kind) (over : Over) → is_for_limits r ≡ false → Refused r ≢ Refused (EDQUOT kind over)
not-for_quota r kind over plain is =
    let same : r ≡ EDQUOT kind over = cc in
    let yes : is_for_limits r ≡ true = ap is_for_limits same in
    cc

settled-passed : (S T : State) (number moment : ℕ) (kind : Kind) (over : Over) (full : Bool)
    → (settled S T number moment (cond full (Some ENOSPC) None)).1 ≢ Refused (EDQUOT kind over)
settled-passed S T number moment kind over true is = cc
settled-passed S T number moment kind over false is = cc

-- whatever an attempt comes to, the superuser meets no quota
settle-passed : (S : State) (cred : Caller) (moment : ℕ) (kind : Kind) (over : Over) (P : State → Type 0) → is_superuser cred ≡ true → (a : Attempt)
    → TellsNone P a → (settle S cred moment a).1 ≢ Refused (EDQUOT kind over)
settle-passed S cred moment kind over P super (Refuse r) tells = not-for_quota r kind over tells.none
settle-passed S cred moment kind over P super (Answer reply) tells = not-refused reply (EDQUOT kind over) tells.none.1
settle-passed S cred moment kind over P super (Becomes T number) tells = λ is.
    let decided : refusal_between S T cred moment ≡ cond (is_too_full T) (Some ENOSPC) None =
    (λ i. cond (is_too_full T) (Some ENOSPC) (cond (super i) None (first_refusal (fault_of_holder S T moment) S.holders))) in
    settled-passed S T number moment kind over (is_too_full T) (sym (ap (λ o. (settled S T number moment o).1) decided) ∙ is)

pub superuser_meets_no_quota : SuperuserMeetsNoQuota
superuser_meets_no_quota S cred moment call kind over super =
    settle-passed S cred moment kind over (MayBecome S call) super (attempt S cred moment call) (attempt-none S cred moment call)
