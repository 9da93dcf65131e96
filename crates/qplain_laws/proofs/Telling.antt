-- What a call that only asks is told is true.
use Rattle.std.proofs.Common.{◌≡◌, ℕ, Bool, true, false, not, ◌||◌, cond, List, Option, Some, None, Result, Ok, Err, refl, ap, subst, ◌∙◌}
use Rattle.std.specs.List.{find}
use Rattle.qrules.specs.declared.kind.Kind.{Kind}
use Rattle.qblocks.specs.File.{read_at}
use Rattle.qplain.specs.declared.call.Call.TheVariants.{Read, Stat as AskStat, Quota as AskQuota}
use Rattle.qplain.specs.declared.quota.Quota.{Quota}
use Rattle.qplain.specs.declared.refusal.Refusal.{Refusal}
use Rattle.qplain.specs.declared.refusal.Refusal.TheVariants.{EISDIR, EPERM}
use Rattle.qplain.specs.declared.reply.Reply.{Reply}
use Rattle.qplain.specs.declared.reply.Reply.TheVariants.{Bytes, Stat as StatReply, Quota as QuotaReply}
use Rattle.qplain.specs.declared.stat.Stat.{Stat}
use Rattle.qplain.specs.Caller.{Caller, is_superuser}
use Rattle.qplain.specs.State.{Holder, Inode, State, inode_at}
use Rattle.qplain.specs.Walk.{components, walk}
use Rattle.qplain.specs.Known.{is_holder}
use Rattle.qplain.specs.Calls.{attempt, attempt_of, refusal_of_arguments, unless}
use Rattle.qplain.specs.Attempt.{Attempt, Refuse, Answer, Becomes, at_inode, at_reached}
use Rattle.qplain.specs.Rights.{is_own}
use Rattle.qplain.specs.Files.{read_from, stat_at, stat_of}
use Rattle.qplain.specs.Quotas.{quota_from, quota_of}
use Rattle.qplain.specs.Decision.{refusal_between}
use Rattle.qplain.specs.Step.{settle, settled}
use Rattle.qplain_laws.specs.Done.{LeadsTo}
use Rattle.qplain_laws.specs.Told.{BytesAreTrue, QuotasAreTrue, StatsAreTrue}
use Rattle.qplain_laws.proofs.Trying.{true-from_not}

-- the fact holds of what is answered, if anything is
abbrev OnAnswer : (Reply → Type 0) → Attempt → Type 0
OnAnswer P (Refuse r) = Unit {0}
OnAnswer P (Answer reply) = P reply
OnAnswer P (Becomes T number) = Unit {0}

-- the reply is that of a call that only asks
abbrev tells : Reply → Bool
tells (Bytes bytes) = true
tells (StatReply stat) = true
tells (QuotaReply quota) = true
tells reply = false

module _ (P : Reply → Type 0) where
  or_refused : (b : Bool) (r : Refusal) (a : Attempt) → (b ≡ false → OnAnswer P a) → OnAnswer P (cond b (Refuse r) a)
  or_refused true r a p = tt
  or_refused false r a p = p refl

  at_inode-answered : (try : ℕ → Inode → Attempt) (number : ℕ) (o : Option Inode) → ((inode : Inode) → o ≡ Some inode → OnAnswer P (try number inode))
      → OnAnswer P (at_inode try number o)
  at_inode-answered try number None each = tt
  at_inode-answered try number (Some inode) each = each inode refl

  at_reached-answered : (S : State) (try : ℕ → Inode → Attempt) (r : Result ℕ Refusal)
      → ((number : ℕ) (inode : Inode) → r ≡ Ok number → inode_at S number ≡ Some inode → OnAnswer P (try number inode)) → OnAnswer P (at_reached S try r)
  at_reached-answered S try (Err e) each = tt
  at_reached-answered S try (Ok number) each = at_inode-answered try number (inode_at S number) (λ inode there. each number inode refl there)

  unless-answered : (o : Option Refusal) (a : Attempt) → OnAnswer P a → OnAnswer P (unless o a)
  unless-answered None a p = p
  unless-answered (Some r) a p = tt

  -- what is told comes of an answer
  settle-answered : (S : State) (cred : Caller) (moment : ℕ) (reply : Reply) → tells reply ≡ true → (a : Attempt) → OnAnswer P a
      → (settle S cred moment a).1 ≡ reply → P reply
  settle-answered S cred moment reply asks (Refuse r) p is =
      let none : false ≡ true = ap tells is ∙ asks in
      absurd (cc)
  settle-answered S cred moment reply asks (Answer given) p is = subst P is p
  settle-answered S cred moment reply asks (Becomes T number) p is = by (refusal_between S T cred moment) is
    where
      by : (o : Option Refusal) → (settled S T number moment o).1 ≡ reply → P reply
      by (Some r) e = let none : false ≡ true = ap tells e ∙ asks in absurd (cc)
      by None e = let none : false ≡ true = ap tells e ∙ asks in absurd (cc)

-- ---- the three calls

-- what a reply of bytes tells
abbrev IsRead : State → List ℕ → ℕ → ℕ → Reply → Type 0
IsRead S path off len reply =
    (bytes : List ℕ) → reply ≡ Bytes bytes
    → (number : ℕ) × (inode : Inode) × LeadsTo S path number × (inode_at S number ≡ Some inode) × (inode.dir ≡ false) × (bytes ≡ read_at inode.file off len)

pub bytes_are_true : BytesAreTrue
bytes_are_true S cred moment path off len bytes is =
    let P : Reply → Type 0 = IsRead S path off len in
    settle-answered P S cred moment (Bytes bytes) refl (attempt S cred moment (Read path off len))
    (unless-answered P (refusal_of_arguments S cred moment (Read path off len)) (attempt_of S cred (Read path off len))
    (at_reached-answered P S (read_from off len) (walk S (components path)) (λ number inode leads there.
    or_refused P inode.dir EISDIR (Answer (Bytes (read_at inode.file off len))) (λ file given e.
    let same : given ≡ read_at inode.file off len = cc in
    (number, inode, leads, there, file, same))))) is bytes refl

-- what a stat tells
abbrev IsStatOf : State → List ℕ → Reply → Type 0
IsStatOf S path reply =
    (stat : Stat) → reply ≡ StatReply stat
    → (number : ℕ) × (inode : Inode) × LeadsTo S path number × (inode_at S number ≡ Some inode) × (stat ≡ stat_of S number inode)

pub stats_are_true : StatsAreTrue
stats_are_true S cred moment path stat is =
    let P : Reply → Type 0 = IsStatOf S path in
    settle-answered P S cred moment (StatReply stat) refl (attempt S cred moment (AskStat path))
    (unless-answered P (refusal_of_arguments S cred moment (AskStat path)) (attempt_of S cred (AskStat path))
    (at_reached-answered P S (stat_at S) (walk S (components path)) (λ number inode leads there given e.
    let same : given ≡ stat_of S number inode = cc in
    (number, inode, leads, there, same)))) is stat refl

-- what a record tells
abbrev IsQuotaOf : State → Caller → Kind → ℕ → Reply → Type 0
IsQuotaOf S cred kind id reply =
    (quota : Quota) → reply ≡ QuotaReply quota
    → (h : Holder) × (find (is_holder kind id) S.holders ≡ Some h) × (quota ≡ quota_of S h) × ((is_superuser cred || is_own cred kind id) ≡ true)

quota_from-answered : (S : State) (cred : Caller) (kind : Kind) (id : ℕ) (o : Option Holder) → find (is_holder kind id) S.holders ≡ o
    → (is_superuser cred || is_own cred kind id) ≡ true → OnAnswer (IsQuotaOf S cred kind id) (quota_from S o)
quota_from-answered S cred kind id None found may = tt
quota_from-answered S cred kind id (Some h) found may = λ given e. let same : given ≡ quota_of S h = cc in (h, found, same, may)

pub quotas_are_true : QuotasAreTrue
quotas_are_true S cred moment kind id quota is =
    let P : Reply → Type 0 = IsQuotaOf S cred kind id in
    settle-answered P S cred moment (QuotaReply quota) refl (attempt S cred moment (AskQuota kind id))
    (unless-answered P (refusal_of_arguments S cred moment (AskQuota kind id)) (attempt_of S cred (AskQuota kind id))
    (or_refused P (not (is_superuser cred || is_own cred kind id)) EPERM (quota_from S (find (is_holder kind id) S.holders)) (λ may.
    quota_from-answered S cred kind id (find (is_holder kind id) S.holders) refl (true-from_not (is_superuser cred || is_own cred kind id) may)))) is quota refl
