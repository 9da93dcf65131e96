-- The tests of what is written, in the order in which they are made here.
use Rattle.std.proofs.Common.{◌≡◌, Bool, true, false, not, ◌||◌, nat_lt, cond, Some, None, Option, refl}
use Rattle.std.specs.List.{list_all, list_any}
use Rattle.qrules.specs.declared.graces.TheConstants.{MAX_MOMENT}
use Rattle.qplain.specs.Calls.{has_bad_number, paths_of}
use Rattle.qplain.specs.Known.{is_known}
use Rattle.qplain.specs.Setups.{Setting}
use Rattle.qplain.specs.State.{start}
use Rattle.qplain.specs.Walk.{is_too_long, is_well_formed}
use Rattle.qplain.specs.declared.line.Line.{Line}
use Rattle.qplain.specs.declared.refusal.Refusal.{Refusal}
use Rattle.qplain.specs.declared.refusal.Refusal.TheVariants.{EINVAL, ENAMETOOLONG}
use Rattle.qstore_walk.specs.Paths.{paths_fault}
use Rattle.qtext_check.specs.Wrongs.{written_refusal}

-- the refusal by its tests
abbrev by_tests : Bool → Bool → Bool → Bool → Bool → Option Refusal
by_tests late known formed bad long = cond (late || not known || not formed || bad) (Some EINVAL) (cond long (Some ENAMETOOLONG) None)

invalid : (late known formed bad long : Bool) → (late || not known) ≡ true → by_tests late known formed bad long ≡ Some EINVAL
invalid true known formed bad long e = refl
invalid false false formed bad long e = refl
invalid false true formed bad long e = absurd (cc e)

faulty : (late known formed bad long : Bool) → bad ≡ true → by_tests late known formed bad long ≡ Some EINVAL
faulty true known formed bad long e = refl
faulty false false formed bad long e = refl
faulty false true false bad long e = refl
faulty false true true bad long e = rw e refl

fine : (late known formed bad long : Bool) → (late || not known) ≡ false → bad ≡ false
    → by_tests late known formed bad long ≡ cond (not formed) (Some EINVAL) (cond long (Some ENAMETOOLONG) None)
fine true known formed bad long e f = absurd (cc e)
fine false false formed bad long e f = absurd (cc e)
fine false true false bad long e f = refl
fine false true true bad long e f = rw f refl

module _ (s : Setting) (line : Line) where
  -- the moment or the caller is none that a line may have
  abbrev pub is_no_head : Bool
  is_no_head = nat_lt MAX_MOMENT line.moment || not (is_known (start s) line.cred)

  pub refused_head : is_no_head ≡ true → written_refusal s line ≡ Some EINVAL
  refused_head e =
      invalid (nat_lt MAX_MOMENT line.moment) (is_known (start s) line.cred) (list_all is_well_formed (paths_of line.call))
      (has_bad_number (start s) line.call) (list_any is_too_long (paths_of line.call)) e

  pub refused_number : has_bad_number (start s) line.call ≡ true → written_refusal s line ≡ Some EINVAL
  refused_number e =
      faulty (nat_lt MAX_MOMENT line.moment) (is_known (start s) line.cred) (list_all is_well_formed (paths_of line.call))
      (has_bad_number (start s) line.call) (list_any is_too_long (paths_of line.call)) e

  pub refused_path : is_no_head ≡ false → has_bad_number (start s) line.call ≡ false → written_refusal s line ≡ paths_fault (paths_of line.call)
  refused_path e f =
      fine (nat_lt MAX_MOMENT line.moment) (is_known (start s) line.cred) (list_all is_well_formed (paths_of line.call))
      (has_bad_number (start s) line.call) (list_any is_too_long (paths_of line.call)) e f
