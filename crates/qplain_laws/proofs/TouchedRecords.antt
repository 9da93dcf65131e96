-- Whom the touched inode charges as before keeps the record, and so the law that a call touches one inode.
use Rattle.std.proofs.Common.{◌≡◌, ℕ, ◌==◌, Bool, true, false, cond, List, [], ◌∷◌, All, Option, Some, None, refl, sym, ap, subst, ◌∙◌, tests, arith}
use Rattle.std.specs.List.{find}
use Rattle.std.specs.Option.{option_map}
use Rattle.std.proofs.lemmas.Bool.{and_parts, ne_eqb}
use Rattle.std.proofs.lemmas.List.Elements.{All-head, All-tail}
use Rattle.qrules.specs.declared.kind.Kind.{Kind}
use Rattle.qrules.proofs.Ranks.{same_kind}
use Rattle.qrules.specs.Sort.{Sort, Inodes, Blocks}
use Rattle.qrules.specs.Account.{HasEnds}
use Rattle.qplain.specs.declared.call.Call.{Call}
use Rattle.qplain.specs.declared.refusal.Refusal.{Refusal}
use Rattle.qplain.specs.Caller.{Caller}
use Rattle.qplain.specs.State.{Holder, State}
use Rattle.qplain.specs.Use.{account_of, use_of}
use Rattle.qrules.specs.Kinds.{is_same_kind}
use Rattle.qplain.specs.Known.{is_holder}
use Rattle.qplain.specs.Decision.{ends_after, refusal_between, with_ends_of}
use Rattle.qplain.specs.Attempt.{Attempt, Refuse, Answer, Becomes}
use Rattle.qplain.specs.Calls.{attempt}
use Rattle.qplain.specs.Step.{settle, settled}
use Rattle.qplain_laws.specs.Changes.{OneInodeIsTouched, TouchesOnly, record_at}
use Rattle.qplain_laws.specs.Laws.{IsLawful}
use Rattle.qplain_laws.proofs.Answering.{MayBecome, TellsNone, attempt-none}
use Rattle.qplain_laws.proofs.Becoming.{attempt-becomes}
use Rattle.qplain_laws.proofs.Ends.{with_ends_of-same}
use Rattle.qplain_laws.proofs.Running.{find-map, same-holder}
use Rattle.qplain_laws.proofs.Trying.{OnBecomes}
use Rattle.qplain_laws.proofs.Touching.{Touches, results_touch}

-- ---- the records

-- what is found is one of them, and passes
found-parts : (P : Holder → Type 0) (test : Holder → Bool) (hs : List Holder) (h : Holder) → All P hs → find test hs ≡ Some h → P h × (test h ≡ true)
found-parts P test [] h all is = cc
found-parts P test (g ∷ hs) h all is = by (found-parts P test hs h (All-tail P g hs all)) (test g) refl is
  where
    by : (find test hs ≡ Some h → P h × (test h ≡ true)) → (b : Bool) → test g ≡ b → cond b (Some g) (find test hs) ≡ Some h → P h × (test h ≡ true)
    by later true e i =
        let same : g ≡ h = cc in
        subst (λ (x : Holder). P x × (test x ≡ true)) same (All-head P g hs all, e)
    by later false e i = later i

holder-is : (kind : Kind) (id : ℕ) (h : Holder) → is_holder kind id h ≡ true → (kind ≡ h.kind) × (id ≡ h.id)
holder-is kind id h is =
    let parts = and_parts (is_same_kind kind h.kind) (id == h.id) is in
    (same_kind kind h.kind parts.0, grind (arith, tests, parts.1))

module _ (S T : State) (moment : ℕ) (lawful : IsLawful S) (kind : Kind) (id : ℕ)
    (uses : (sort : Sort) → use_of T kind id sort ≡ use_of S kind id sort) where
  uses-of : (h : Holder) → is_holder kind id h ≡ true → (sort : Sort) → use_of T h.kind h.id sort ≡ use_of S h.kind h.id sort
  uses-of h is sort =
      let same = holder-is kind id h is in
      (λ i. use_of T (sym same.0 i) (sym same.1 i) sort) ∙ uses sort ∙ (λ i. use_of S (same.0 i) (same.1 i) sort)

  record-of : (o : Option Holder) → find (is_holder kind id) S.holders ≡ o
      → option_map (account_of T) (option_map (with_ends_of T moment) o) ≡ option_map (account_of S) o
  record-of None found = refl
  record-of (Some h) found =
      let parts = found-parts (λ g. HasEnds (account_of S g)) (is_holder kind id) S.holders h lawful.ends_stand found in
      let blocks = uses-of h parts.1 Blocks in
      let inodes = uses-of h parts.1 Inodes in
      let same : account_of T h ≡ account_of S h =
      (λ i. record { blocks = blocks i; inodes = inodes i; limits = h.limits; block_end = h.block_end; inode_end = h.inode_end }) in
      let ends : with_ends_of T moment h ≡ h = with_ends_of-same T moment h (subst HasEnds (sym same) parts.0) in
      (λ i. Some (account_of T (ends i))) ∙ ap (λ a. Some a) same

  -- a principal whose uses stay, and whose limits are not set, has the record that it had
  pub record-same : find (is_holder kind id) T.holders ≡ find (is_holder kind id) S.holders → record_at (ends_after T moment) kind id ≡ record_at S kind id
  record-same same =
      ap (option_map (account_of T)) (find-map (is_holder kind id) (with_ends_of T moment) (λ h. refl) T.holders ∙ ap (option_map (with_ends_of T moment)) same)
      ∙ record-of (find (is_holder kind id) S.holders) refl

-- ---- the law

module _ (S : State) (cred : Caller) (moment : ℕ) (lawful : IsLawful S) (call : Call) where
  abbrev Touched : State → Type 0
  Touched T = (number : ℕ) × TouchesOnly S T call number

  stays : Touched S
  stays = (0, record { inodes = λ q other. refl; uses = λ kind id sort. refl; records = λ kind id other same. refl })

  granted : (T : State) → Touches S T → MayBecome S call T → Touched (ends_after T moment)
  granted T touches may = (
    touches.0,
    record {
      inodes = λ q other. touches.1.inodes q (ne_eqb touches.0 q (λ e. other (sym e)));
      uses = λ kind id sort. touches.1.uses kind id sort;
      records = λ kind id other same.
          record-same S T moment lawful kind id (λ sort.
          let sum = touches.1.uses kind id sort in
          let as_before = same sort in
          omega (arith, sum, as_before)) (same-holder kind id S T call other may);
    },
  )

  settled-touched : (T : State) (number : ℕ) (o : Option Refusal) → Touches S T → MayBecome S call T → Touched (settled S T number moment o).0
  settled-touched T number (Some r) touches may = stays
  settled-touched T number None touches may = granted T touches may

  settle-touched : (a : Attempt) → OnBecomes (Touches S) a → TellsNone (MayBecome S call) a → Touched (settle S cred moment a).0
  settle-touched (Refuse r) touches tells = stays
  settle-touched (Answer reply) touches tells = stays
  settle-touched (Becomes T number) touches tells = settled-touched T number (refusal_between S T cred moment) touches tells.none

pub one_inode_is_touched : OneInodeIsTouched
one_inode_is_touched S cred moment call lawful =
    settle-touched S cred moment lawful call (attempt S cred moment call)
    (attempt-becomes (Touches S) S cred (results_touch S lawful cred) moment call) (attempt-none S cred moment call)
