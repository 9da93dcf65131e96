-- What no call changes, and what only the superuser's calls do.
use Rattle.std.proofs.Common.{◌≡◌, Bool, true, false, cond, List, [], ◌∷◌, map, refl, ◌∙◌}
use Rattle.qrules.specs.declared.limits.Limits.{Limits}
use Rattle.qplain.specs.Caller.{Caller, is_superuser}
use Rattle.qplain.specs.State.{Holder, State}
use Rattle.qplain.specs.Decision.{with_ends_of}
use Rattle.qplain.specs.Known.{is_holder}
use Rattle.qplain.specs.Quotas.{relimited}
use Rattle.qplain_laws.specs.Laws.{EndsAreTheRules, KeepsLimits, KeepsSetup, LimitsStay, NewLimitsAreTheRules, SetupsStay, identity_of}
use Rattle.qplain_laws.proofs.Becoming.{HoldsOfResults, step-becomes}

-- what a change of each holder keeps, it keeps of all
map-kept : {X : Type 0} (g : Holder → X) (f : Holder → Holder) → ((h : Holder) → g (f h) ≡ g h) → (hs : List Holder) → map g (map f hs) ≡ map g hs
map-kept g f keeps [] = refl
map-kept g f keeps (h ∷ hs) = λ i. keeps h i ∷ map-kept g f keeps hs i

relimited-identity : (b : Bool) (limits : Limits) (h : Holder) → identity_of (cond b (relimited limits h) h) ≡ identity_of h
relimited-identity true limits h = refl
relimited-identity false limits h = refl

-- every plain result keeps the setup
results_keep : (S : State) (cred : Caller) → HoldsOfResults (KeepsSetup S) S cred
results_keep S cred = record {
  created = λ inode dir name own known sound stands absent few. record { size = refl; most_inodes = refl; file_limit = refl; holders = refl };
  changed = λ number inode after there follows may. record { size = refl; most_inodes = refl; file_limit = refl; holders = refl };
  removed = λ dir name number inode led there empty may. record { size = refl; most_inodes = refl; file_limit = refl; holders = refl };
  linked = λ number inode dir name there file stands absent few. record { size = refl; most_inodes = refl; file_limit = refl; holders = refl };
  renamed = λ to dir name number inode to_dir to_name placed outside led there stands other empty may may_too few.
      record { size = refl; most_inodes = refl; file_limit = refl; holders = refl };
  limited = λ kind id limits may. record {
    size = refl;
    most_inodes = refl;
    file_limit = refl;
    holders = map-kept identity_of (λ h. cond (is_holder kind id h) (relimited limits h) h) (λ h. relimited-identity (is_holder kind id h) limits h) S.holders;
  };
  graced = λ graces may. record { size = refl; most_inodes = refl; file_limit = refl; holders = refl };
}

pub setups_stay : SetupsStay
setups_stay S cred moment call =
    step-becomes (KeepsSetup S) S cred (results_keep S cred) (KeepsSetup S) moment call
    (record { size = refl; most_inodes = refl; file_limit = refl; holders = refl })
    (λ new kept granted. record {
      size = kept.size;
      most_inodes = kept.most_inodes;
      file_limit = kept.file_limit;
      holders = map-kept identity_of (with_ends_of new moment) (λ h. refl) new.holders ∙ kept.holders;
    })

-- every plain result of a call that is not the superuser's keeps limits and graces
results_keep_limits : (S : State) (cred : Caller) → is_superuser cred ≡ false → HoldsOfResults (KeepsLimits S) S cred
results_keep_limits S cred other = record {
  created = λ inode dir name own known sound stands absent few. record { graces = refl; limits = refl };
  changed = λ number inode after there follows may. record { graces = refl; limits = refl };
  removed = λ dir name number inode led there empty may. record { graces = refl; limits = refl };
  linked = λ number inode dir name there file stands absent few. record { graces = refl; limits = refl };
  renamed = λ to dir name number inode to_dir to_name placed outside led there stands other empty may may_too few. record { graces = refl; limits = refl };
  limited = λ kind id limits may. cc;
  graced = λ graces may. cc;
}

pub limits_stay : LimitsStay
limits_stay S cred moment call other =
    step-becomes (KeepsLimits S) S cred (results_keep_limits S cred other) (KeepsLimits S) moment call
    (record { graces = refl; limits = refl })
    (λ new kept granted. record {
      graces = kept.graces;
      limits = map-kept (λ h. h.limits) (with_ends_of new moment) (λ h. refl) new.holders ∙ kept.limits;
    })

pub ends_are_the_rules : EndsAreTheRules
ends_are_the_rules S moment h = refl

pub new_limits_are_the_rules : NewLimitsAreTheRules
new_limits_are_the_rules S moment limits h = refl
