-- No call prolongs a grace that runs.
use Rattle.std.proofs.Common.{◌≡◌, ℕ, ◌+◌, Bool, true, false, ◌&&◌, ◌==◌, cond, List, [], ◌∷◌, map, Option, Some, None, refl, sym, ap, subst, ◌∙◌, tests, arith}
use Rattle.std.specs.List.{find}
use Rattle.std.specs.Option.{option_map}
use Rattle.std.proofs.lemmas.Bool.{and_parts}
use Rattle.qrules.specs.declared.kind.Kind.{Kind}
use Rattle.qrules.proofs.Ranks.{same_kind}
use Rattle.qrules.specs.declared.limits.Limits.{Limits}
use Rattle.qrules.specs.Sort.{Sort, Inodes, Blocks, grace_of}
use Rattle.qrules.specs.Account.{is_over_soft}
use Rattle.qrules.specs.Grace.{next_end}
use Rattle.qplain.specs.declared.call.Call.{Call}
use Rattle.qplain.specs.declared.call.Call.TheVariants.{Create, Mkdir, Write, Truncate, Read, Stat as AskStat, Link, Unlink, Rmdir, Rename, Chown, SetQuota, SetGrace, Quota as AskQuota}
use Rattle.qplain.specs.declared.refusal.Refusal.{Refusal}
use Rattle.qplain.specs.Caller.{Caller}
use Rattle.qplain.specs.State.{Holder, State}
use Rattle.qplain.specs.Use.{account_of}
use Rattle.qrules.specs.Kinds.{is_same_kind}
use Rattle.qplain.specs.Known.{is_holder}
use Rattle.qplain.specs.Decision.{ends_after, refusal_between, with_ends_of}
use Rattle.qplain.specs.Attempt.{Attempt, Refuse, Answer, Becomes}
use Rattle.qplain.specs.Quotas.{relimited}
use Rattle.qplain.specs.Calls.{attempt}
use Rattle.qplain.specs.Step.{settle, settled}
use Rattle.qplain_laws.specs.Changes.{GracesRunOn, RunsOn, end_at, end_of, sets_limits_of}
use Rattle.qplain_laws.proofs.Answering.{KeepsSettings, MayBecome, TellsNone, attempt-none}

-- ---- the holder of a kind and id

-- a change of each holder that keeps whose it is finds the changed one
pub find-map : (test : Holder → Bool) (f : Holder → Holder) → ((h : Holder) → test (f h) ≡ test h) → (hs : List Holder)
    → find test (map f hs) ≡ option_map f (find test hs)
find-map test f same [] = refl
find-map test f same (h ∷ hs) = by (find-map test f same hs) (test h) (same h)
  where
    by : find test (map f hs) ≡ option_map f (find test hs) → (b : Bool) → test (f h) ≡ b
        → cond (test (f h)) (Some (f h)) (find test (map f hs)) ≡ option_map f (cond b (Some h) (find test hs))
    by later true e = rw e refl
    by later false e = rw e later

-- a change of each holder that leaves those that pass finds the same one
pub find-left : (test : Holder → Bool) (f : Holder → Holder) → ((h : Holder) → test (f h) ≡ test h) → ((h : Holder) → test h ≡ true → f h ≡ h)
    → (hs : List Holder) → find test (map f hs) ≡ find test hs
find-left test f same left [] = refl
find-left test f same left (h ∷ hs) = by (find-left test f same left hs) (test h) refl
  where
    by : find test (map f hs) ≡ find test hs → (b : Bool) → test h ≡ b
        → cond (test (f h)) (Some (f h)) (find test (map f hs)) ≡ cond b (Some h) (find test hs)
    by later true e = (λ i. cond ((same h ∙ e) i) (Some (left h e i)) (find test (map f hs)))
    by later false e = (λ i. cond ((same h ∙ e) i) (Some (f h)) (later i))

-- new limits of one principal are not found with another
apart : (kind other : Kind) (id number : ℕ) (h : Holder) → (is_same_kind other kind && number == id) ≡ false → is_holder kind id h ≡ true
    → is_holder other number h ≡ false
apart kind other id number h differ is =
    let parts = and_parts (is_same_kind kind h.kind) (id == h.id) is in
    let kinds : kind ≡ h.kind = same_kind kind h.kind parts.0 in
    let ids : id ≡ h.id = grind (arith, tests, parts.1) in
    (λ i. is_same_kind other (sym kinds i) && number == sym ids i) ∙ differ

kept-limits : (kind other : Kind) (id number : ℕ) (limits : Limits) → (is_same_kind other kind && number == id) ≡ false → (hs : List Holder)
    → find (is_holder kind id) (map (λ h. cond (is_holder other number h) (relimited limits h) h) hs) ≡ find (is_holder kind id) hs
kept-limits kind other id number limits differ hs =
    find-left (is_holder kind id) (λ h. cond (is_holder other number h) (relimited limits h) h) (λ h. same (is_holder other number h) h)
    (λ h is. ap (λ b. cond b (relimited limits h) h) (apart kind other id number h differ is)) hs
  where
    same : (b : Bool) (h : Holder) → is_holder kind id (cond b (relimited limits h) h) ≡ is_holder kind id h
    same true h = refl
    same false h = refl

-- ---- the holder is found unchanged in each plain result

-- the principal's holder is the same in both
abbrev pub SameHolder : Kind → ℕ → State → State → Type 0
SameHolder kind id S T = find (is_holder kind id) T.holders ≡ find (is_holder kind id) S.holders

kept-settings : (kind : Kind) (id : ℕ) (S T : State) → KeepsSettings S T → SameHolder kind id S T
kept-settings kind id S T keeps = ap (find (is_holder kind id)) keeps.holders

-- so it is in each plain result, but for the principal whose limits are set
pub same-holder : (kind : Kind) (id : ℕ) (S T : State) (call : Call) → sets_limits_of kind id call ≡ false → MayBecome S call T → SameHolder kind id S T
same-holder kind id S T (Create path) other may = kept-settings kind id S T may
same-holder kind id S T (Mkdir path) other may = kept-settings kind id S T may
same-holder kind id S T (Write path off bytes) other may = kept-settings kind id S T may
same-holder kind id S T (Truncate path size) other may = kept-settings kind id S T may
same-holder kind id S T (Read path off len) other may = absurd may
same-holder kind id S T (AskStat path) other may = absurd may
same-holder kind id S T (Link from to) other may = ap (λ (U : State). find (is_holder kind id) U.holders) may
same-holder kind id S T (Unlink path) other may = kept-settings kind id S T may.settings
same-holder kind id S T (Rmdir path) other may = kept-settings kind id S T may.settings
same-holder kind id S T (Rename from to) other may = kept-settings kind id S T may.settings
same-holder kind id S T (Chown path uid gid project) other may = kept-settings kind id S T may.0
same-holder kind id S T (SetQuota k n limits) other may =
    ap (λ (U : State). find (is_holder kind id) U.holders) may ∙ kept-limits kind k id n limits other S.holders
same-holder kind id S T (SetGrace graces) other may = ap (λ (U : State). find (is_holder kind id) U.holders) may
same-holder kind id S T (AskQuota k n) other may = absurd may

-- ---- its ends

runs_on-same : (end : Option ℕ) (begun : ℕ) → RunsOn end end begun
runs_on-same end begun = record {
  same = λ one other before after. let both : Some other ≡ Some one = sym after ∙ before in cc;
  begins = λ one before after. let both : Some one ≡ None = sym after ∙ before in cc;
}

-- the next end is none, the one that stood, or a new one
runs_on-next : (over : Bool) (end : Option ℕ) (begun : ℕ) → RunsOn end (next_end over end begun) begun
runs_on-next false end begun = record { same = λ one other before after. cc; begins = λ one before after. cc }
runs_on-next true (Some e) begun = runs_on-same (Some e) begun
runs_on-next true None begun = record { same = λ one other before after. cc; begins = λ one before after. cc }

module _ (T : State) (moment : ℕ) (sort : Sort) where
  runs_on-holder : (o : Option Holder) → RunsOn (end_of sort o) (end_of sort (option_map (with_ends_of T moment) o)) (moment + grace_of sort T.graces)
  runs_on-holder None = runs_on-same None (moment + grace_of sort T.graces)
  runs_on-holder (Some h) = by sort
    where
      by : (s : Sort) → RunsOn (end_of s (Some h)) (end_of s (Some (with_ends_of T moment h))) (moment + grace_of s T.graces)
      by Inodes = runs_on-next (is_over_soft Inodes (account_of T h)) h.inode_end (moment + T.graces.inode)
      by Blocks = runs_on-next (is_over_soft Blocks (account_of T h)) h.block_end (moment + T.graces.block)

-- the ends that stand after a plain result
runs_on-ends : (S T : State) (moment : ℕ) (kind : Kind) (id : ℕ) (sort : Sort) → SameHolder kind id S T
    → RunsOn (end_at S kind id sort) (end_at (ends_after T moment) kind id sort) (moment + grace_of sort T.graces)
runs_on-ends S T moment kind id sort same =
    let found : find (is_holder kind id) (map (with_ends_of T moment) T.holders) ≡ option_map (with_ends_of T moment) (find (is_holder kind id) S.holders) =
    find-map (is_holder kind id) (with_ends_of T moment) (λ h. refl) T.holders ∙ ap (option_map (with_ends_of T moment)) same in
    subst (λ o. RunsOn (end_at S kind id sort) (end_of sort o) (moment + grace_of sort T.graces)) (sym found)
    (runs_on-holder T moment sort (find (is_holder kind id) S.holders))

module _ (S : State) (cred : Caller) (moment : ℕ) (kind : Kind) (id : ℕ) (sort : Sort) where
  -- the principal's grace runs on in this state
  abbrev RunsIn : State → Type 0
  RunsIn T = RunsOn (end_at S kind id sort) (end_at T kind id sort) (moment + grace_of sort T.graces)

  settled-runs_on : (T : State) (number : ℕ) (o : Option Refusal) → SameHolder kind id S T → RunsIn (settled S T number moment o).0
  settled-runs_on T number (Some r) same = runs_on-same (end_at S kind id sort) (moment + grace_of sort S.graces)
  settled-runs_on T number None same = runs_on-ends S T moment kind id sort same

  settle-runs_on : (call : Call) → sets_limits_of kind id call ≡ false → (a : Attempt) → TellsNone (MayBecome S call) a → RunsIn (settle S cred moment a).0
  settle-runs_on call other (Refuse r) tells = runs_on-same (end_at S kind id sort) (moment + grace_of sort S.graces)
  settle-runs_on call other (Answer reply) tells = runs_on-same (end_at S kind id sort) (moment + grace_of sort S.graces)
  settle-runs_on call other (Becomes T number) tells =
      settled-runs_on T number (refusal_between S T cred moment) (same-holder kind id S T call other tells.none)

pub graces_run_on : GracesRunOn
graces_run_on S cred moment call kind id sort other =
    settle-runs_on S cred moment kind id sort call other (attempt S cred moment call) (attempt-none S cred moment call)
