-- Callers that were read are spelled out as they stood.
use Rattle.std.proofs.Common.{◌≡◌, ℕ, ◌≤◌, ◌<◌, ◌^◌, leb, List, [], ◌∷◌, length, map, Ok, refl, decimal}
use Rattle.std.specs.List.{AllByRecursion}
use Rattle.std.proofs.lemmas.Bool.{leb-true}
use Rattle.qplain.specs.Caller.{Caller}
use Rattle.qplain.specs.declared.cred.TheConstants.{MAX_MORE_GROUPS}
use Rattle.qtext.specs.declared.text_fault.TextKind.TheVariants.{BadCred}
use Rattle.qtext.specs.Words.{parts}
use Rattle.qtext.proofs.StepsFound.{joined, Spells, kept, same_ok, step_found, word_found, words_found}
use Rattle.qtext_read.specs.Callers.{caller_of, caller_in, caller_by, caller_from, few_groups_of, own_ids_of, own_ids_in, groups_of}
use Rattle.qtext_read.specs.Spelling.{caller_text, own_ids_text}
use Rattle.qplain.specs.Held.{IsCaller}
use Rattle.qtext_read.proofs.ArgumentsFound.{any_id}

-- the ids are those that the words spell
record AreIds (words : List (List ℕ)) (ids : ℕ × ℕ) : Type 0 where
  pub are : decimal ids.0 ∷ decimal ids.1 ∷ [] ≡ words
  pub uid : ids.0 < 2 ^ 32
  pub gid : ids.1 < 2 ^ 32

own_ids_found : (words : List (List ℕ)) (ids : ℕ × ℕ) → own_ids_of words ≡ Ok ids → AreIds words ids
unfolding own_ids_of own_ids_in
own_ids_found (u ∷ g ∷ []) ids e =
    word_found (any_id BadCred) u _ e λ uid is_uid uid_fits e.
    word_found (any_id BadCred) g _ e λ gid is_gid gid_fits e.
    rw (← same_ok e) (record { are = rw (is_uid, is_gid) refl; uid = uid_fits; gid = gid_fits })
own_ids_found words ids e = absurd (cc e)

-- the further groups, and that they are few
few_found : (words : List (List ℕ)) (more : List ℕ) → few_groups_of words ≡ Ok more
    → (map decimal more ≡ words) × AllByRecursion (λ g. g < 2 ^ 32) more × (length more ≤ MAX_MORE_GROUPS)
unfolding few_groups_of
few_found words more e =
    step_found (groups_of words) _ e λ groups are e.
    let few = kept (leb (length groups) 16) (Ok groups) BadCred more e in
    let so = words_found (any_id BadCred) words groups are in
    rw (← same_ok few.1) (so.0, so.1, leb-true _ _ few.0)

from_found : (first : List ℕ) (groups : List (List ℕ)) (c : Caller) → caller_from first groups ≡ Ok c
    → (own_ids_text c ∷ map decimal c.more ≡ first ∷ groups) × IsCaller c
unfolding caller_from caller_by
from_found first groups c e =
    step_found (own_ids_of (parts 58 first)) _ e λ ids are_ids e.
    step_found (few_groups_of groups) _ e λ more are_groups e.
    let own = own_ids_found (parts 58 first) ids are_ids in
    let few = few_found groups more are_groups in
    rw (← same_ok e) (
      rw (joined 58 first _ own.are, few.0) refl,
      record { uid = own.uid; gid = own.gid; few = few.2; more = few.1 },
    )

in_found : (words : List (List ℕ)) (c : Caller) → caller_in words ≡ Ok c → (own_ids_text c ∷ map decimal c.more ≡ words) × IsCaller c
unfolding caller_in
in_found [] c e = absurd (cc e)
in_found (first ∷ groups) c e = from_found first groups c e

pub any_caller : Spells caller_text IsCaller caller_of
any_caller word c e = let so = in_found (parts 44 word) c e in (joined 44 word _ so.0, so.1)
