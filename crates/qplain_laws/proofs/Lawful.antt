-- Every step of a lawful state leaves a lawful state.
use Rattle.std.proofs.Common.{◌≡◌, ℕ, ◌+◌, ◌≤◌, Bool, true, false, ◌||◌, nat_lt, cond, All, slice_index_or, Option, Some, None, refl, tests, arith}
use Rattle.std.proofs.lemmas.List.Elements.{All-map}
use Rattle.qrules.specs.Sort.{Inodes, Blocks}
use Rattle.qrules.specs.Account.{HasEnds, is_over_soft}
use Rattle.qplain.specs.declared.refusal.Refusal.{Refusal}
use Rattle.qplain.specs.declared.refusal.Refusal.TheVariants.{ENOSPC}
use Rattle.qplain.specs.declared.bounds.TheConstants.{MAX_NUMBER}
use Rattle.qplain.specs.State.{Holder, State}
use Rattle.qplain.specs.Use.{account_of, total_of}
use Rattle.qplain.specs.Decision.{ends_after, is_too_full, refusal_of_charge, with_ends_of}
use Rattle.qplain_laws.specs.Laws.{FitsTogether, IsLawful, StepsStayLawful}
use Rattle.qplain_laws.proofs.Becoming.{step-becomes}
use Rattle.qplain_laws.proofs.Ends.{next_end-stands}
use Rattle.qplain_laws.proofs.Fitting.{fits-map}
use Rattle.qplain_laws.proofs.Results.{results_fit}

-- after every change each end stands where it belongs
ends_stand-after : (S : State) (moment : ℕ) → All (λ h. HasEnds (account_of (ends_after S moment) h)) (ends_after S moment).holders
ends_stand-after S moment =
    All-map (λ h. HasEnds (account_of (ends_after S moment) h)) (with_ends_of S moment) S.holders
    (λ k d below.
    let h : Holder = slice_index_or S.holders k d in
    record {
      inodes = next_end-stands (is_over_soft Inodes (account_of S h)) h.inode_end (moment + S.graces.inode);
      blocks = next_end-stands (is_over_soft Blocks (account_of S h)) h.block_end (moment + S.graces.block);
    })

-- a decision that grants
pub not_full-granted : (full : Bool) (r : Option Refusal) → cond full (Some ENOSPC) r ≡ None → full ≡ false
not_full-granted true r h = cc
not_full-granted false r h = refl

none-of : (a b c : Bool) → (a || b || c) ≡ false → (a ≡ false) × (b ≡ false) × (c ≡ false)
none-of true b c h = cc
none-of false true c h = cc
none-of false false c h = (refl, refl, h)

-- a state that is not too full is within its bounds
pub within-bounds : (S : State) → is_too_full S ≡ false → (total_of S Blocks ≤ S.size) × (total_of S Inodes ≤ S.most_inodes) × (S.next ≤ MAX_NUMBER + 1)
within-bounds S h =
    let all : (nat_lt S.size (total_of S Blocks) ≡ false) × (nat_lt S.most_inodes (total_of S Inodes) ≡ false) × (nat_lt (MAX_NUMBER + 1) S.next ≡ false) =
    none-of (nat_lt S.size (total_of S Blocks)) (nat_lt S.most_inodes (total_of S Inodes)) (nat_lt (MAX_NUMBER + 1) S.next) h in
    (grind (arith, tests, all.0), grind (arith, tests, all.1), grind (arith, tests, all.2))

-- a plain result that fits together and is granted is lawful with its new ends
granted_lawful : (S : State) (moment : ℕ) → FitsTogether S → is_too_full S ≡ false → IsLawful (ends_after S moment)
granted_lawful S moment fits not_full =
    let ended : FitsTogether (ends_after S moment) = fits-map S (with_ends_of S moment) (λ h. refl, λ h. refl) fits in
    let bounds : (total_of S Blocks ≤ S.size) × (total_of S Inodes ≤ S.most_inodes) × (S.next ≤ MAX_NUMBER + 1) = within-bounds S not_full in
    record {
      blocks_fit = bounds.0;
      inodes_fit = bounds.1;
      next_fits = bounds.2;
      ends_stand = ends_stand-after S moment;
      parts = ended;
    }

pub steps_stay_lawful : StepsStayLawful
steps_stay_lawful S cred moment call lawful =
    step-becomes FitsTogether S cred (results_fit S cred lawful.parts) IsLawful moment call lawful
    (λ new fits granted. granted_lawful new moment fits (not_full-granted (is_too_full new) (refusal_of_charge S new cred moment) granted))
