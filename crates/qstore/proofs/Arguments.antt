-- The tests of what is written, in the order in which a store makes them.
use Rattle.std.proofs.Common.{◌≡◌, ℕ, ◌≤◌, Bool, true, false, not, ◌&&◌, ◌||◌, nat_lt, cond, Some, None, Option, refl, arith, tests}
use Rattle.std.specs.List.{list_all, list_any}
use Rattle.std.proofs.lemmas.Bool.{and_from, and_parts}
use Rattle.qrules.specs.declared.kind.Kind.TheVariants.{User, Group}
use Rattle.qrules.specs.declared.graces.TheConstants.{MAX_MOMENT}
use Rattle.qplain.specs.declared.call.Call.{Call}
use Rattle.qplain.specs.declared.refusal.Refusal.{Refusal}
use Rattle.qplain.specs.declared.refusal.Refusal.TheVariants.{EINVAL, ENAMETOOLONG}
use Rattle.qplain.specs.Caller.{Caller}
use Rattle.qplain.specs.State.{State}
use Rattle.qplain.specs.Walk.{is_too_long, is_well_formed}
use Rattle.qplain.specs.Calls.{has_bad_number, paths_of, refusal_of_arguments}
use Rattle.qplain.specs.Known.{is_declared, is_known}
use Rattle.qstore_walk.specs.Paths.{paths_fault}
use Rattle.qstore_walk.specs.Owners.{caller_owners}
use Rattle.qstore.specs.Requests.{are_declared}

-- the refusal by its tests
abbrev by_tests : Bool → Bool → Bool → Bool → Bool → Option Refusal
by_tests late known formed bad long = cond (late || not known || not formed || bad) (Some EINVAL) (cond long (Some ENAMETOOLONG) None)

by_tests-granted : (late known formed bad long : Bool) → known ≡ true → (late || bad) ≡ false
    → by_tests late known formed bad long ≡ cond (not formed) (Some EINVAL) (cond long (Some ENAMETOOLONG) None)
by_tests-granted true known formed bad long is fine = cc
by_tests-granted false false formed bad long is fine = cc
by_tests-granted false true formed true long is fine = cc
by_tests-granted false true true false long is fine = refl
by_tests-granted false true false false long is fine = refl

by_tests-faulty : (late known formed bad long : Bool) → (late || bad) ≡ true → by_tests late known formed bad long ≡ Some EINVAL
by_tests-faulty true known formed bad long faulty = refl
by_tests-faulty false false formed bad long faulty = refl
by_tests-faulty false true false bad long faulty = refl
by_tests-faulty false true true true long faulty = refl
by_tests-faulty false true true false long faulty = cc

by_tests-unknown : (late known formed bad long : Bool) → known ≡ false → by_tests late known formed bad long ≡ Some EINVAL
by_tests-unknown true known formed bad long is = refl
by_tests-unknown false false formed bad long is = refl
by_tests-unknown false true formed bad long is = cc

unfaulty : (late bad : Bool) → (late || bad) ≡ false → (late ≡ false) × (bad ≡ false)
unfaulty true bad fine = cc
unfaulty false true fine = cc
unfaulty false false fine = (refl, refl)

-- the user and the group of a caller that is known are declared
pub caller-declared : (S : State) (cred : Caller) → is_known S cred ≡ true → are_declared S (caller_owners cred None) ≡ true
caller-declared S cred known =
    let user = and_parts (is_declared S User cred.uid) (is_declared S Group cred.gid && list_all (is_declared S Group) cred.more) known in
    let group = and_parts (is_declared S Group cred.gid) (list_all (is_declared S Group) cred.more) user.1 in
    and_from (is_declared S User cred.uid && is_declared S Group cred.gid) true
    (and_from (is_declared S User cred.uid) (is_declared S Group cred.gid) user.0 group.0) refl

module _ (S : State) (cred : Caller) (moment : ℕ) (call : Call) where
  -- the moment or a number is none that a call may have
  abbrev is_faulty : Bool
  is_faulty = nat_lt MAX_MOMENT moment || has_bad_number S call

  -- of a call whose caller is known and that has no such fault, only the paths can be wrong
  pub refusal-paths : is_known S cred ≡ true → is_faulty ≡ false → refusal_of_arguments S cred moment call ≡ paths_fault (paths_of call)
  refusal-paths known fine =
      by_tests-granted (nat_lt MAX_MOMENT moment) (is_known S cred) (list_all is_well_formed (paths_of call)) (has_bad_number S call)
      (list_any is_too_long (paths_of call)) known fine

  -- a call with such a fault is refused for it
  pub refusal-faulty : is_faulty ≡ true → refusal_of_arguments S cred moment call ≡ Some EINVAL
  refusal-faulty faulty =
      by_tests-faulty (nat_lt MAX_MOMENT moment) (is_known S cred) (list_all is_well_formed (paths_of call)) (has_bad_number S call)
      (list_any is_too_long (paths_of call)) faulty

  -- and so is that of a caller who is not known
  pub refusal-unknown : is_known S cred ≡ false → refusal_of_arguments S cred moment call ≡ Some EINVAL
  refusal-unknown unknown =
      by_tests-unknown (nat_lt MAX_MOMENT moment) (is_known S cred) (list_all is_well_formed (paths_of call)) (has_bad_number S call)
      (list_any is_too_long (paths_of call)) unknown

  -- without one, the moment and the numbers are ones that a call may have
  pub fine-parts : is_faulty ≡ false → (moment ≤ MAX_MOMENT) × (has_bad_number S call ≡ false)
  fine-parts fine =
      let parts = unfaulty (nat_lt MAX_MOMENT moment) (has_bad_number S call) fine in
      let early = parts.0 in
      (grind (arith, tests, early), parts.1)
