-- Graces, limits and grace ends stay in their ranges.
use Rattle.std.proofs.Common.{◌≡◌, ℕ, ◌+◌, ◌≤◌, Bool, true, false, ◌&&◌, nat_le, nat_lt, cond, List, [], ◌∷◌, All, map, Option, Some, None, slice_index_or, sym, ap, subst, arith, tests}
use Rattle.std.specs.List.{list_all}
use Rattle.std.proofs.lemmas.Bool.{and_parts}
use Rattle.std.proofs.lemmas.List.Elements.{All-cons, All-map, All-nil}
use Rattle.qrules.specs.declared.graces.TheConstants.{MAX_GRACE, MAX_MOMENT}
use Rattle.qrules.specs.declared.kind.Kind.{Kind}
use Rattle.qrules.specs.declared.limits.Limits.{Limits}
use Rattle.qrules.specs.Sort.{Sort, Inodes, Blocks, grace_of}
use Rattle.qrules.specs.Account.{is_over_soft}
use Rattle.qrules.specs.Grace.{next_end}
use Rattle.qrules.specs.Range.{are_graces_in_range, are_limits_in_range}
use Rattle.qplain.specs.declared.call.Call.{Call}
use Rattle.qplain.specs.declared.call.Call.TheVariants.{Create, Mkdir, Write, Truncate, Read, Stat as AskStat, Link, Unlink, Rmdir, Rename, Chown, SetQuota, SetGrace, Quota as AskQuota}
use Rattle.qplain.specs.declared.principal.Principal.{Principal}
use Rattle.qplain.specs.declared.refusal.Refusal.{Refusal}
use Rattle.qplain.specs.Caller.{Caller}
use Rattle.qplain.specs.Principals.{is_principal_in_range, is_principal_name}
use Rattle.qplain.specs.Setups.{principals_in}
use Rattle.qplain.specs.State.{Holder, State, holder_of}
use Rattle.qplain.specs.Use.{account_of}
use Rattle.qplain.specs.Known.{is_holder}
use Rattle.qplain.specs.Decision.{ends_after, refusal_between, with_ends_of}
use Rattle.qplain.specs.Attempt.{Attempt, Refuse, Answer, Becomes}
use Rattle.qplain.specs.Quotas.{relimited}
use Rattle.qplain.specs.Calls.{attempt, has_bad_number}
use Rattle.qplain.specs.Step.{settle, settled}
use Rattle.qplain_laws.specs.SettingRanges.{AreSettingsInRange, IsEndInRange, IsHolderInRange, SettingsStayInRange, StartIsInRange}
use Rattle.qplain_laws.proofs.Answering.{KeepsSettings, MayBecome, TellsNone, attempt-none}
use Rattle.qplain_laws.proofs.Settling.{step-passed}
use Rattle.qplain_laws.proofs.Start.{all-declared, principals-ranged, ranged}
use Rattle.qplain_laws.proofs.Trying.{true-from_not}

-- ---- the ends that stand after a change

-- an end that stays is in its range, and so is a new one that is no later
next-ranged : (over : Bool) (end : Option ℕ) (new : ℕ) → IsEndInRange end → new ≤ MAX_MOMENT + MAX_GRACE → IsEndInRange (next_end over end new)
next-ranged false end new is low = tt
next-ranged true None new is low = low
next-ranged true (Some end) new is low = is

module _ (T : State) (moment : ℕ) (early : nat_lt MAX_MOMENT moment ≡ false) (are : AreSettingsInRange T) where
  -- a grace that begins at this moment ends in range
  new-ranged : (sort : Sort) → moment + grace_of sort T.graces ≤ MAX_MOMENT + MAX_GRACE
  new-ranged sort =
      let inode = and_parts (nat_le 1 T.graces.block && nat_le T.graces.block MAX_GRACE && nat_le 1 T.graces.inode) _ are.graces in
      let some = and_parts (nat_le 1 T.graces.block && nat_le T.graces.block MAX_GRACE) _ inode.0 in
      let block = and_parts (nat_le 1 T.graces.block) _ some.0 in
      by sort block.1 inode.1
    where
      by : (sort : Sort) → nat_le T.graces.block MAX_GRACE ≡ true → nat_le T.graces.inode MAX_GRACE ≡ true
          → moment + grace_of sort T.graces ≤ MAX_MOMENT + MAX_GRACE
      by Inodes block inode = grind (arith, tests, early, inode)
      by Blocks block inode = grind (arith, tests, early, block)

  ends-ranged : AreSettingsInRange (ends_after T moment)
  ends-ranged = record {
    graces = are.graces;
    holders = All-map IsHolderInRange (with_ends_of T moment) T.holders (λ k d below.
        let h : Holder = slice_index_or T.holders k d in
        let is : IsHolderInRange h = are.holders k d below in
        record {
          limits = is.limits;
          block_end = next-ranged (is_over_soft Blocks (account_of T h)) h.block_end (moment + T.graces.block) is.block_end (new-ranged Blocks);
          inode_end = next-ranged (is_over_soft Inodes (account_of T h)) h.inode_end (moment + T.graces.inode) is.inode_end (new-ranged Inodes);
        });
  }

-- ---- the plain results

-- settings that are the same are in range
kept-ranged : (S T : State) → AreSettingsInRange S → KeepsSettings S T → AreSettingsInRange T
kept-ranged S T are keeps = record {
  graces = subst (λ graces. are_graces_in_range graces ≡ true) (sym keeps.graces) are.graces;
  holders = subst (All IsHolderInRange) (sym keeps.holders) are.holders;
}

-- a holder is in range under new limits that are, or as it was
relimited-ranged : (b : Bool) (limits : Limits) (h : Holder) → are_limits_in_range limits ≡ true → IsHolderInRange h
    → IsHolderInRange (cond b (relimited limits h) h)
relimited-ranged true limits h few is = record { limits = few; block_end = tt; inode_end = tt }
relimited-ranged false limits h few is = is

-- so are the settings of each plain result of a call whose numbers are
result-ranged : (S T : State) (call : Call) → has_bad_number S call ≡ false → AreSettingsInRange S → MayBecome S call T → AreSettingsInRange T
result-ranged S T (Create path) good are may = kept-ranged S T are may
result-ranged S T (Mkdir path) good are may = kept-ranged S T are may
result-ranged S T (Write path off bytes) good are may = kept-ranged S T are may
result-ranged S T (Truncate path size) good are may = kept-ranged S T are may
result-ranged S T (Read path off len) good are may = absurd may
result-ranged S T (AskStat path) good are may = absurd may
result-ranged S T (Link from to) good are may =
    kept-ranged S T are (record { holders = ap (λ (U : State). U.holders) may; graces = ap (λ (U : State). U.graces) may })
result-ranged S T (Unlink path) good are may = kept-ranged S T are may.settings
result-ranged S T (Rmdir path) good are may = kept-ranged S T are may.settings
result-ranged S T (Rename from to) good are may = kept-ranged S T are may.settings
result-ranged S T (Chown path uid gid project) good are may = kept-ranged S T are may.0
result-ranged S T (SetQuota kind id limits) good are may =
    let few = true-from_not (are_limits_in_range limits) good in
    subst AreSettingsInRange (sym may) (record {
      graces = are.graces;
      holders = All-map IsHolderInRange (λ h. cond (is_holder kind id h) (relimited limits h) h) S.holders
          (λ k d below. relimited-ranged (is_holder kind id (slice_index_or S.holders k d)) limits (slice_index_or S.holders k d) few (are.holders k d below));
    })
result-ranged S T (SetGrace graces) good are may =
    subst AreSettingsInRange (sym may) (record { graces = true-from_not (are_graces_in_range graces) good; holders = are.holders })
result-ranged S T (AskQuota kind id) good are may = absurd may

-- ---- every step

module _ (S : State) (cred : Caller) (moment : ℕ) (call : Call) (are : AreSettingsInRange S) (early : nat_lt MAX_MOMENT moment ≡ false)
    (good : has_bad_number S call ≡ false) where
  settled-ranged : (T : State) (number : ℕ) (o : Option Refusal) → MayBecome S call T → AreSettingsInRange (settled S T number moment o).0
  settled-ranged T number (Some r) may = are
  settled-ranged T number None may = ends-ranged T moment early (result-ranged S T call good are may)

  settle-ranged : (a : Attempt) → TellsNone (MayBecome S call) a → AreSettingsInRange (settle S cred moment a).0
  settle-ranged (Refuse r) tells = are
  settle-ranged (Answer reply) tells = are
  settle-ranged (Becomes T number) tells = settled-ranged T number (refusal_between S T cred moment) tells.none

pub settings_stay_in_range : SettingsStayInRange
settings_stay_in_range S cred moment call are =
    step-passed AreSettingsInRange S cred moment call are
    (λ good. settle-ranged S cred moment call are good.early good.numbers (attempt S cred moment call) (attempt-none S cred moment call))

-- ---- a new store

-- principals in range are declared with what is in range, and no grace runs
declared-ranged : (kind : Kind) (ps : List Principal) → list_all is_principal_in_range ps ≡ true → All IsHolderInRange (map (holder_of kind) ps)
declared-ranged kind [] are = All-nil IsHolderInRange
declared-ranged kind (p ∷ ps) are =
    let parts = and_parts (is_principal_in_range p) (list_all is_principal_in_range ps) are in
    let limits = (and_parts (is_principal_name p.name) (are_limits_in_range p.limits) parts.0).1 in
    All-cons IsHolderInRange (holder_of kind p) (map (holder_of kind) ps) (record { limits = limits; block_end = tt; inode_end = tt })
    (declared-ranged kind ps parts.1)

pub start_is_in_range : StartIsInRange
start_is_in_range s setup = record {
  graces = (ranged s setup).graces;
  holders = all-declared s setup IsHolderInRange (λ kind. declared-ranged kind (principals_in kind s) (principals-ranged s setup kind));
}
