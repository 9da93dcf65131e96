-- Names cost nothing, and a chown moves what it does not add.
use Rattle.std.proofs.Common.{◌≡◌, ℕ, ◌-◌, ◌≤◌, Bool, true, false, cond, List, [], ◌∷◌, filter, sum_by, Option, Some, None, refl, ap, ◌∙◌, arith}
use Rattle.std.specs.Map.{values_of}
use Rattle.std.proofs.lemmas.List.Sums.{sum_by-cons}
use Rattle.qrules.specs.declared.kind.Kind.{Kind}
use Rattle.qrules.specs.Sort.{Sort, Inodes, Blocks}
use Rattle.qplain.specs.declared.call.Call.{Call}
use Rattle.qplain.specs.declared.call.Call.TheVariants.{Create, Mkdir, Write, Truncate, Read, Stat as AskStat, Link, Unlink, Rmdir, Rename, Chown, SetQuota, SetGrace, Quota as AskQuota}
use Rattle.qplain.specs.declared.refusal.Refusal.{Refusal}
use Rattle.qplain.specs.Caller.{Caller}
use Rattle.qplain.specs.State.{Inode, State}
use Rattle.qplain.specs.Use.{charge_to, total_of, weight}
use Rattle.qplain.specs.Decision.{refusal_between}
use Rattle.qplain.specs.Attempt.{Attempt, Refuse, Answer, Becomes, no_change}
use Rattle.qplain.specs.Calls.{attempt}
use Rattle.qplain.specs.Journal.{change_of}
use Rattle.qplain.specs.Step.{change_between, settle, settled}
use Rattle.qplain_laws.specs.Changes.{KeepsInodes, NamesCostNothing, TotalsAreMoved, is_of_names, sets_limits_of}
use Rattle.qplain_laws.specs.Laws.{IsLawful}
use Rattle.qplain_laws.proofs.Answering.{MayBecome, Sweeps, TellsNone, attempt-none}
use Rattle.qplain_laws.proofs.Running.{same-holder}
use Rattle.qplain_laws.proofs.TouchedRecords.{record-same}

-- ---- where none goes

inodes-fewer : (test : ℕ → Bool) (es : List (ℕ × Inode))
    → sum_by (weight Inodes) (values_of (filter (λ e. test e.0) es)) ≤ sum_by (weight Inodes) (values_of es)
inodes-fewer test [] = omega arith
inodes-fewer test (e ∷ es) =
    let all = sum_by-cons (weight Inodes) e.1 (values_of es) in
    let rest = inodes-fewer test es in
    elim (test e.0) as (λ b. sum_by (weight Inodes) (values_of (cond b (e ∷ filter (λ x. test x.0) es) (filter (λ x. test x.0) es)))
    ≤ sum_by (weight Inodes) (values_of (e ∷ es))) [
      | true ↦ omega (arith, all, rest, sum_by-cons (weight Inodes) e.1 (values_of (filter (λ x. test x.0) es)))
      | false ↦ omega (arith, all, rest)
    ]

-- where as many pass a test as there are, all do
all-pass : (test : ℕ → Bool) (es : List (ℕ × Inode))
    → sum_by (weight Inodes) (values_of es) ≤ sum_by (weight Inodes) (values_of (filter (λ e. test e.0) es)) → filter (λ e. test e.0) es ≡ es
all-pass test [] many = refl
all-pass test (e ∷ es) many =
    let all = sum_by-cons (weight Inodes) e.1 (values_of es) in
    elim (test e.0) as (λ b. sum_by (weight Inodes) (values_of (e ∷ es))
    ≤ sum_by (weight Inodes) (values_of (cond b (e ∷ filter (λ x. test x.0) es) (filter (λ x. test x.0) es)))
    → cond b (e ∷ filter (λ x. test x.0) es) (filter (λ x. test x.0) es) ≡ e ∷ es) [
      | true ↦ λ m. ap (λ l. e ∷ l) (all-pass test es (omega (arith, all, m, sum_by-cons (weight Inodes) e.1 (values_of (filter (λ x. test x.0) es)))))
      | false ↦ λ m. let rest = inodes-fewer test es in absurd (omega (arith, all, m, rest))
    ] many

-- ---- names

-- where the totals say that none went, a sweep leaves the inodes
kept-swept : (S T : State) → Sweeps S T → change_between S T ≡ no_change → T.inodes ≡ S.inodes
kept-swept S T sweeps told =
    let none : total_of S Inodes - total_of T Inodes ≡ 0 = ap (λ c. c.inodes_released) told in
    let after : total_of T Inodes ≡ sum_by (weight Inodes) (values_of (filter (λ e. sweeps.test e.0) S.inodes)) =
    ap (λ es. sum_by (weight Inodes) (values_of es)) sweeps.inodes in
    sweeps.inodes ∙ all-pass sweeps.test S.inodes (omega (arith, none, after))

-- so does each call on names
kept-inodes : (S T : State) (call : Call) → is_of_names call ≡ true → MayBecome S call T → change_between S T ≡ no_change → T.inodes ≡ S.inodes
kept-inodes S T (Link from to) names may told = ap (λ (U : State). U.inodes) may
kept-inodes S T (Unlink path) names may told = kept-swept S T may told
kept-inodes S T (Rmdir path) names may told = kept-swept S T may told
kept-inodes S T (Rename from to) names may told = kept-swept S T may told
kept-inodes S T (Create path) names may told = cc
kept-inodes S T (Mkdir path) names may told = cc
kept-inodes S T (Write path off bytes) names may told = cc
kept-inodes S T (Truncate path size) names may told = cc
kept-inodes S T (Read path off len) names may told = cc
kept-inodes S T (AskStat path) names may told = cc
kept-inodes S T (Chown path uid gid project) names may told = cc
kept-inodes S T (SetQuota kind id limits) names may told = cc
kept-inodes S T (SetGrace graces) names may told = cc
kept-inodes S T (AskQuota kind id) names may told = cc

-- which sets no limits
no-limits : (kind : Kind) (id : ℕ) (call : Call) → is_of_names call ≡ true → sets_limits_of kind id call ≡ false
no-limits kind id (SetQuota other number limits) names = cc
no-limits kind id (Link from to) names = refl
no-limits kind id (Unlink path) names = refl
no-limits kind id (Rmdir path) names = refl
no-limits kind id (Rename from to) names = refl
no-limits kind id (Create path) names = refl
no-limits kind id (Mkdir path) names = refl
no-limits kind id (Write path off bytes) names = refl
no-limits kind id (Truncate path size) names = refl
no-limits kind id (Read path off len) names = refl
no-limits kind id (AskStat path) names = refl
no-limits kind id (Chown path uid gid project) names = refl
no-limits kind id (SetGrace graces) names = refl
no-limits kind id (AskQuota k n) names = refl

module _ (S : State) (cred : Caller) (moment : ℕ) (lawful : IsLawful S) (call : Call) (names : is_of_names call ≡ true) where
  same : KeepsInodes S S
  same = record { inodes = refl; records = λ kind id. refl }

  settled-costless : (T : State) (number : ℕ) (o : Option Refusal) → MayBecome S call T → change_of (settled S T number moment o).1 ≡ no_change
      → KeepsInodes S (settled S T number moment o).0
  settled-costless T number (Some r) may told = same
  settled-costless T number None may told =
      let inodes : T.inodes ≡ S.inodes = kept-inodes S T call names may told in
      record {
        inodes = inodes;
        records = λ kind id.
            record-same S T moment lawful kind id (λ sort. ap (λ es. sum_by (charge_to kind id sort) (values_of es)) inodes)
            (same-holder kind id S T call (no-limits kind id call names) may);
      }

  settle-costless : (a : Attempt) → TellsNone (MayBecome S call) a → change_of (settle S cred moment a).1 ≡ no_change
      → KeepsInodes S (settle S cred moment a).0
  settle-costless (Refuse r) tells told = same
  settle-costless (Answer reply) tells told = same
  settle-costless (Becomes T number) tells told = settled-costless T number (refusal_between S T cred moment) tells.none told

pub names_cost_nothing : NamesCostNothing
names_cost_nothing S cred moment call lawful names told =
    settle-costless S cred moment lawful call names (attempt S cred moment call) (attempt-none S cred moment call) told

-- ---- totals that stay

change-same : (S T : State) → ((sort : Sort) → total_of T sort ≡ total_of S sort) → change_between S T ≡ no_change
change-same S T same =
    let b = same Blocks in
    let n = same Inodes in
    let blocks_charged : total_of T Blocks - total_of S Blocks ≡ 0 = omega (arith, b) in
    let blocks_released : total_of S Blocks - total_of T Blocks ≡ 0 = omega (arith, b) in
    let inodes_charged : total_of T Inodes - total_of S Inodes ≡ 0 = omega (arith, n) in
    let inodes_released : total_of S Inodes - total_of T Inodes ≡ 0 = omega (arith, n) in
    λ i. record {
      blocks_charged = blocks_charged i;
      blocks_released = blocks_released i;
      inodes_charged = inodes_charged i;
      inodes_released = inodes_released i;
    }

settled-moved : (S T : State) (number moment : ℕ) (o : Option Refusal) → ((sort : Sort) → total_of T sort ≡ total_of S sort)
    → change_of (settled S T number moment o).1 ≡ no_change
settled-moved S T number moment (Some r) same = refl
settled-moved S T number moment None same = change-same S T same

settle-moved : (S : State) (cred : Caller) (moment : ℕ) (P : State → Type 0) → ((T : State) → P T → (sort : Sort) → total_of T sort ≡ total_of S sort)
    → (a : Attempt) → TellsNone P a → change_of (settle S cred moment a).1 ≡ no_change
settle-moved S cred moment P same (Refuse r) tells = refl
settle-moved S cred moment P same (Answer reply) tells = tells.none.0
settle-moved S cred moment P same (Becomes T number) tells = settled-moved S T number moment (refusal_between S T cred moment) (same T tells.none)

pub totals_are_moved : TotalsAreMoved
totals_are_moved S cred moment = (
  (λ from to. settle-moved S cred moment (MayBecome S (Link from to)) (λ T may sort. ap (λ (U : State). total_of U sort) may)
      (attempt S cred moment (Link from to)) (attempt-none S cred moment (Link from to))),
  (λ path uid gid project. settle-moved S cred moment (MayBecome S (Chown path uid gid project)) (λ T may. may.1)
      (attempt S cred moment (Chown path uid gid project)) (attempt-none S cred moment (Chown path uid gid project))),
)
