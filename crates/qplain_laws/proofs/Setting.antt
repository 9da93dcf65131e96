-- No call but setgrace changes graces, and none but a principal's setquota changes its limits.
use Rattle.std.proofs.Common.{◌≡◌, ℕ, false, Option, Some, None, refl, ap, ◌∙◌}
use Rattle.std.specs.List.{find}
use Rattle.std.specs.Option.{option_map}
use Rattle.qrules.specs.declared.kind.Kind.{Kind}
use Rattle.qplain.specs.declared.call.Call.{Call}
use Rattle.qplain.specs.declared.call.Call.TheVariants.{Create, Mkdir, Write, Truncate, Read, Stat as AskStat, Link, Unlink, Rmdir, Rename, Chown, SetQuota, SetGrace, Quota as AskQuota}
use Rattle.qplain.specs.declared.refusal.Refusal.{Refusal}
use Rattle.qplain.specs.Caller.{Caller}
use Rattle.qplain.specs.State.{Holder, State}
use Rattle.qplain.specs.Known.{is_holder}
use Rattle.qplain.specs.Decision.{ends_after, refusal_between, with_ends_of}
use Rattle.qplain.specs.Attempt.{Attempt, Refuse, Answer, Becomes}
use Rattle.qplain.specs.Calls.{attempt}
use Rattle.qplain.specs.Step.{settle, settled}
use Rattle.qplain_laws.specs.Changes.{SettingsStay, limits_at, sets_graces, sets_limits_of}
use Rattle.qplain_laws.proofs.Answering.{MayBecome, TellsNone, attempt-none}
use Rattle.qplain_laws.proofs.Running.{find-map, same-holder}

same-graces : (S T : State) (call : Call) → sets_graces call ≡ false → MayBecome S call T → T.graces ≡ S.graces
same-graces S T (Create path) other may = may.graces
same-graces S T (Mkdir path) other may = may.graces
same-graces S T (Write path off bytes) other may = may.graces
same-graces S T (Truncate path size) other may = may.graces
same-graces S T (Read path off len) other may = absurd may
same-graces S T (AskStat path) other may = absurd may
same-graces S T (Link from to) other may = ap (λ (U : State). U.graces) may
same-graces S T (Unlink path) other may = may.settings.graces
same-graces S T (Rmdir path) other may = may.settings.graces
same-graces S T (Rename from to) other may = may.settings.graces
same-graces S T (Chown path uid gid project) other may = may.0.graces
same-graces S T (SetQuota kind id limits) other may = ap (λ (U : State). U.graces) may
same-graces S T (SetGrace graces) other may = cc
same-graces S T (AskQuota kind id) other may = absurd may

-- new ends leave the limits of whoever is found
same-limits : (T : State) (moment : ℕ) (o : Option Holder) → option_map (λ h. h.limits) (option_map (with_ends_of T moment) o) ≡ option_map (λ h. h.limits) o
same-limits T moment None = refl
same-limits T moment (Some h) = refl

-- so those of each principal
pub limits-ends : (T : State) (moment : ℕ) (kind : Kind) (id : ℕ) → limits_at (ends_after T moment) kind id ≡ limits_at T kind id
limits-ends T moment kind id =
    ap (option_map (λ h. h.limits)) (find-map (is_holder kind id) (with_ends_of T moment) (λ h. refl) T.holders)
    ∙ same-limits T moment (find (is_holder kind id) T.holders)

module _ (S : State) (cred : Caller) (moment : ℕ) (call : Call) where
  -- the settings that the call does not set are the same
  abbrev Stay : State → Type 0
  Stay T = (sets_graces call ≡ false → T.graces ≡ S.graces)
      × ((kind : Kind) (id : ℕ) → sets_limits_of kind id call ≡ false → limits_at T kind id ≡ limits_at S kind id)

  all-stay : Stay S
  all-stay = ((λ other. refl), (λ kind id other. refl))

  settled-stay : (T : State) (number : ℕ) (o : Option Refusal) → MayBecome S call T → Stay (settled S T number moment o).0
  settled-stay T number (Some r) may = all-stay
  settled-stay T number None may = (
    (λ other. same-graces S T call other may),
    (λ kind id other. limits-ends T moment kind id ∙ ap (option_map (λ h. h.limits)) (same-holder kind id S T call other may)),
  )

  settle-stay : (a : Attempt) → TellsNone (MayBecome S call) a → Stay (settle S cred moment a).0
  settle-stay (Refuse r) tells = all-stay
  settle-stay (Answer reply) tells = all-stay
  settle-stay (Becomes T number) tells = settled-stay T number (refusal_between S T cred moment) tells.none

pub settings_stay : SettingsStay
settings_stay S cred moment call = settle-stay S cred moment call (attempt S cred moment call) (attempt-none S cred moment call)
