-- A kind of which no principal is declared owns nothing, refuses nothing, and stays so.
use Rattle.std.proofs.Common.{◌≡◌, ℕ, Bool, true, false, cond, List, [], ◌∷◌, map, slice_index_or, Option, Some, None, ◌||◌, refl, sym, ap, ◌∙◌}
use Rattle.std.specs.Option.{option_map, option_or}
use Rattle.std.specs.List.{list_any}
use Rattle.std.specs.Map.{values_of}
use Rattle.std.proofs.lemmas.Bool.{or_left, or_right}
use Rattle.qrules.specs.declared.kind.Kind.{Kind}
use Rattle.qrules.specs.declared.over.Over.{Over}
use Rattle.qrules.specs.Kinds.{is_same_kind}
use Rattle.qrules.proofs.Ranks.{same_kind-refl}
use Rattle.qplain.specs.declared.refusal.Refusal.{Refusal}
use Rattle.qplain.specs.declared.refusal.Refusal.TheVariants.{EDQUOT, ENOSPC}
use Rattle.qplain.specs.Caller.{Caller, is_superuser}
use Rattle.qplain.specs.State.{Holder, Inode, State}
use Rattle.qplain.specs.Use.{owner}
use Rattle.qplain.specs.declared.reply.Reply.TheVariants.{Refused}
use Rattle.qplain.specs.Attempt.{Attempt, Refuse, Answer, Becomes}
use Rattle.qplain.specs.Calls.{attempt}
use Rattle.qplain.specs.Decision.{fault_of_holder, first_refusal, is_too_full, refusal_between}
use Rattle.qplain.specs.Step.{settle, settled}
use Rattle.qplain_laws.specs.ProjectLaws.{KindsStay, UndeclaredOwnNothing, UndeclaredRefuseNothing}
use Rattle.qplain_laws.specs.Laws.{has_kind, identity_of, is_for_limits, is_known_owner}
use Rattle.qplain_laws.proofs.Answering.{MayBecome, TellsNone, attempt-none, is_refused}
use Rattle.qplain_laws.proofs.Balance.{kind-declared}
use Rattle.qplain_laws.proofs.Kept.{setups_stay}

unowned : (S : State) (kind : Kind) (o : Option ℕ) → has_kind S kind ≡ false → is_known_owner S kind o ≡ true → o ≡ None
unowned S kind None undeclared known = refl
unowned S kind (Some id) undeclared known =
    let clash : true ≡ false = sym (kind-declared kind id S.holders known) ∙ undeclared in cc

pub undeclared_own_nothing : UndeclaredOwnNothing
undeclared_own_nothing S kind lawful undeclared = λ k d below.
    let inode : Inode = slice_index_or (values_of S.inodes) k d in
    unowned S kind (owner kind inode.owners) undeclared (lawful.parts.inodes.owners_known k d below kind)

-- a first refusal is for the quota of a kind that is declared
quota-declared : (fault : Holder → Option Over) (kind : Kind) (over : Over) (hs : List Holder) → first_refusal fault hs ≡ Some (EDQUOT kind over)
    → list_any (λ h. is_same_kind kind h.kind) hs ≡ true
quota-declared fault kind over [] refused = cc
quota-declared fault kind over (h ∷ hs) refused = by (quota-declared fault kind over hs) (fault h) refused
  where
    by : (first_refusal fault hs ≡ Some (EDQUOT kind over) → list_any (λ g. is_same_kind kind g.kind) hs ≡ true) → (o : Option Over)
        → option_or (option_map (λ x. EDQUOT h.kind x) o) (first_refusal fault hs) ≡ Some (EDQUOT kind over)
        → (is_same_kind kind h.kind || list_any (λ g. is_same_kind kind g.kind) hs) ≡ true
    by later None e = or_right (is_same_kind kind h.kind) _ (later e)
    by later (Some x) e =
        let same : h.kind ≡ kind = cc in
        or_left (is_same_kind kind h.kind) _ (ap (is_same_kind kind) same ∙ same_kind-refl kind)

between-declared : (full superuser : Bool) (r : Option Refusal) (kind : Kind) (over : Over)
    → cond full (Some ENOSPC) (cond superuser None r) ≡ Some (EDQUOT kind over) → r ≡ Some (EDQUOT kind over)
between-declared true superuser r kind over e = cc
between-declared false true r kind over e = cc
between-declared false false r kind over e = e

-- so is a plain result refused
decided-declared : (old new : State) (cred : Caller) (moment : ℕ) (kind : Kind) (over : Over)
    → refusal_between old new cred moment ≡ Some (EDQUOT kind over) → has_kind old kind ≡ true
decided-declared old new cred moment kind over refused =
    quota-declared (fault_of_holder old new moment) kind over old.holders
    (between-declared (is_too_full new) (is_superuser cred) (first_refusal (fault_of_holder old new moment) old.holders) kind over refused)

-- and no attempt is refused for a quota by itself
settle-declared : (S : State) (cred : Caller) (moment : ℕ) (kind : Kind) (over : Over) (P : State → Type 0) (a : Attempt) → TellsNone P a
    → (settle S cred moment a).1 ≡ Refused (EDQUOT kind over) → has_kind S kind ≡ true
settle-declared S cred moment kind over P (Refuse r) tells is =
    let same : r ≡ EDQUOT kind over = cc in
    let clash : is_for_limits (EDQUOT kind over) ≡ false = ap is_for_limits (sym same) ∙ tells.none in
    absurd (cc)
settle-declared S cred moment kind over P (Answer reply) tells is =
    let granted : is_refused reply ≡ false = tells.none.1 in
    let refused : is_refused reply ≡ true = ap is_refused is in
    absurd (cc)
settle-declared S cred moment kind over P (Becomes new number) tells is = by (refusal_between S new cred moment) refl is
  where
    by : (o : Option Refusal) → refusal_between S new cred moment ≡ o → (settled S new number moment o).1 ≡ Refused (EDQUOT kind over)
        → has_kind S kind ≡ true
    by (Some r) for told =
        let same : r ≡ EDQUOT kind over = cc in
        decided-declared S new cred moment kind over (for ∙ ap Some same)
    by None for told = cc

pub undeclared_refuse_nothing : UndeclaredRefuseNothing
undeclared_refuse_nothing S cred moment call kind over refused =
    settle-declared S cred moment kind over (MayBecome S call) (attempt S cred moment call) (attempt-none S cred moment call) refused

-- holders of the same identities are of the same kinds
same-kinds : (kind : Kind) (hs : List Holder) → list_any (λ h. is_same_kind kind h.kind) hs ≡ list_any (λ i. is_same_kind kind i.0) (map identity_of hs)
same-kinds kind [] = refl
same-kinds kind (h ∷ hs) = ap (λ b. is_same_kind kind h.kind || b) (same-kinds kind hs)

pub kinds_stay : KindsStay
kinds_stay S cred moment call kind =
    same-kinds kind _ ∙ ap (list_any (λ i. is_same_kind kind i.0)) (setups_stay S cred moment call).holders ∙ sym (same-kinds kind S.holders)
