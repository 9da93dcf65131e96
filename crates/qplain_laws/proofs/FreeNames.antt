-- Names cost nothing: no link and no rename is refused for want of space or of quota; and with them what gives back.
use Rattle.std.proofs.Common.{◌≡◌, ℕ, ◌+◌, ◌<◌, ◌≤◌, ◌==◌, ⊎_elim, true, false, not, ◌&&◌, cond, is_some, List, Option, Some, None, Ok, refl, arith}
use Rattle.std.proofs.lemmas.Bool.{cases_lt}
use Rattle.qplain.specs.declared.bounds.TheConstants.{ROOT}
use Rattle.qplain.specs.declared.call.Call.TheVariants.{Truncate, Link, Unlink, Rmdir, Rename}
use Rattle.qplain.specs.declared.refusal.Refusal.{Refusal}
use Rattle.qplain.specs.declared.refusal.Refusal.TheVariants.{EBUSY, EEXIST, EINVAL, EISDIR, EMLINK, ENOTDIR, ENOTEMPTY, EPERM}
use Rattle.qplain.specs.declared.reply.Reply.TheVariants.{Done}
use Rattle.qplain.specs.Attempt.{Attempt, Answer, Becomes, Refuse, at_path, in_parent, no_change}
use Rattle.qplain.specs.Caller.{Caller}
use Rattle.qplain.specs.Decision.{refusal_between}
use Rattle.qplain.specs.Names.{link_as, link_to, rmdir_as, unless_too_many_links, unlink_as, with_name}
use Rattle.qplain.specs.Renames.{meets, passes, rename_as, rename_from, rename_over, rename_to, renamed}
use Rattle.qplain.specs.Rights.{may_remove}
use Rattle.qplain.specs.State.{Inode, NameKey, State, inode_at, is_directory, named}
use Rattle.qplain.specs.Use.{has_too_many_links, is_empty, names_to}
use Rattle.qplain.specs.Walk.{components, last_name, walk}
use Rattle.qplain_laws.specs.Laws.{GivingBackIsGranted, IsLawful, is_for_limits}
use Rattle.qplain_laws.proofs.Finding.{led-inode}
use Rattle.qplain_laws.proofs.GivingBack.{NoLimit, at_name-no_limit, at_reached-no_limit, choose, granted-fewer, no_limit, rmdir-no_limit, truncate-no_limit, under-no_limit, unlink-no_limit}
use Rattle.qplain_laws.proofs.WalkFaults.{walk-plain}
use Rattle.qplain_laws.proofs.Renaming.{Replaces-held_on, Replaces-moved, Replaces-replaced, names_to-target}
use Rattle.qplain_laws.proofs.Replacing.{Replaces-names}

module _ (S : State) (cred : Caller) (moment : ℕ) (lawful : IsLawful S) where
  -- where names alone change, nobody is refused
  granted-names : (names : List (NameKey × ℕ)) → refusal_between S (record S { names = names }) cred moment ≡ None
  granted-names names =
      granted-fewer S (record S { names = names }) None None cred moment lawful (Replaces-names S names) refl (λ sort. omega arith)
      (λ kind id sort. omega arith)

  few-no_limit : (S1 : State) (number : ℕ) → refusal_between S S1 cred moment ≡ None → NoLimit S cred moment lawful (unless_too_many_links S1 number)
  few-no_limit S1 number granted =
      choose S cred moment lawful (has_too_many_links S1) (Refuse EMLINK) (Becomes S1 number) refl (λ few. granted)

  link_as-no_limit : (number : ℕ) (inode : Inode) (dir : ℕ) (name : List ℕ) → NoLimit S cred moment lawful (link_as S number inode dir name)
  link_as-no_limit number inode dir name =
      let becomes : Attempt = unless_too_many_links (with_name S dir name number) number in
      choose S cred moment lawful inode.dir (Refuse EPERM) (cond (is_some (named S dir name)) (Refuse EEXIST) becomes) refl (λ file.
      choose S cred moment lawful (is_some (named S dir name)) (Refuse EEXIST) becomes refl (λ absent.
      few-no_limit (with_name S dir name number) number (granted-names (with_name S dir name number).names)))

  module _ (dir : ℕ) (name : List ℕ) (number : ℕ) (inode : Inode) (to_dir : ℕ) (to_name : List ℕ)
      (led : named S dir name ≡ Some number) (there : inode_at S number ≡ Some inode) (stands : is_directory S to_dir ≡ true) where
    module _ (other : passes (λ n. n == number) (named S to_dir to_name) ≡ false)
        (empty : passes (λ n. not (is_empty S n)) (named S to_dir to_name) ≡ false) where
      -- nor is anybody where an inode has another name, in place of what goes, or goes on under further names
      granted-rename : refusal_between S (renamed S dir name to_dir to_name number) cred moment ≡ None
      granted-rename = by (named S to_dir to_name) refl
        where
          T : State
          T = renamed S dir name to_dir to_name number

          over : (t : ℕ) (replaced : Inode) → named S to_dir to_name ≡ Some t → inode_at S t ≡ Some replaced → refusal_between S T cred moment ≡ None
          over t replaced led_to there_too =
              ⊎_elim
              (λ (many : 1 < names_to S t).
              granted-fewer S T (Some replaced) (Some replaced) cred moment lawful
              (Replaces-held_on S dir name number inode to_dir to_name lawful.parts led there stands other empty t replaced led_to there_too many)
              refl (λ sort. omega arith) (λ kind id sort. omega arith))
              (λ (few : names_to S t ≤ 1).
              let sum : names_to T t + 1 ≡ names_to S t =
              names_to-target S dir name number inode to_dir to_name lawful.parts led there stands other empty t replaced led_to there_too in
              granted-fewer S T (Some replaced) None cred moment lawful
              (Replaces-replaced S dir name number inode to_dir to_name lawful.parts led there stands other empty t replaced led_to there_too
              (omega (arith, few, sum))) refl (λ sort. omega arith) (λ kind id sort. omega arith))
              (cases_lt 1 (names_to S t))

          by : (o : Option ℕ) → named S to_dir to_name ≡ o → refusal_between S T cred moment ≡ None
          by None none =
              granted-fewer S T None None cred moment lawful
              (Replaces-moved S dir name number inode to_dir to_name lawful.parts led there stands other empty none) refl (λ sort. omega arith)
              (λ kind id sort. omega arith)
          by (Some t) led_to = let found = led-inode S lawful to_dir to_name t led_to in over t found.0 led_to found.1

    rename_over-no_limit : (to : List (List ℕ))
        → NoLimit S cred moment lawful (rename_over S cred to dir name number inode to_dir to_name (named S to_dir to_name))
    rename_over-no_limit to =
        let target : Option ℕ = named S to_dir to_name in
        let becomes : Attempt = unless_too_many_links (renamed S dir name to_dir to_name number) number in
        let empties : Attempt = cond (passes (λ n. not (is_empty S n)) target) (Refuse ENOTEMPTY) becomes in
        let replaces : Attempt = cond (passes (λ n. not (may_remove S cred to_dir n)) target) (Refuse EPERM) empties in
        let moves : Attempt = cond (not (may_remove S cred dir number)) (Refuse EPERM) replaces in
        let file_too : Attempt = cond (not inode.dir && passes (λ n. is_directory S n) target) (Refuse EISDIR) moves in
        let dir_too : Attempt = cond (inode.dir && passes (λ n. not (is_directory S n)) target) (Refuse ENOTDIR) file_too in
        let apart : Attempt = cond (inode.dir && meets S to number) (Refuse EINVAL) dir_too in
        let pick = choose S cred moment lawful in
        pick (passes (λ n. n == number) target) (Answer (Done number no_change)) apart (λ r is. cc) (λ other.
        pick (inode.dir && meets S to number) (Refuse EINVAL) dir_too refl (λ outside.
        pick (inode.dir && passes (λ n. not (is_directory S n)) target) (Refuse ENOTDIR) file_too refl (λ a.
        pick (not inode.dir && passes (λ n. is_directory S n) target) (Refuse EISDIR) moves refl (λ b.
        pick (not (may_remove S cred dir number)) (Refuse EPERM) replaces refl (λ may.
        pick (passes (λ n. not (may_remove S cred to_dir n)) target) (Refuse EPERM) empties refl (λ may_too.
        pick (passes (λ n. not (is_empty S n)) target) (Refuse ENOTEMPTY) becomes refl (λ empty.
        few-no_limit (renamed S dir name to_dir to_name number) number (granted-rename other empty))))))))

  -- what is tried of a path's place is refused for no limit, where what is tried in a directory is not
  in_parent-no_limit : (of_root : Refusal) (try : ℕ → List ℕ → Attempt) (path : List ℕ) → is_for_limits of_root ≡ false
      → ((dir : ℕ) (name : List ℕ) → is_directory S dir ≡ true → NoLimit S cred moment lawful (try dir name))
      → NoLimit S cred moment lawful (in_parent S of_root try path)
  in_parent-no_limit of_root try path plain each =
      under-no_limit S cred moment lawful of_root try plain each (components path) (last_name (components path))

  link-no_limit : (from to : List ℕ) → NoLimit S cred moment lawful (at_path S (link_to S to) from)
  link-no_limit from to =
      at_reached-no_limit S cred moment lawful (link_to S to) (walk S (components from)) (walk-plain S (Ok ROOT) (components from) tt)
      (λ number inode reached there.
      in_parent-no_limit EEXIST (link_as S number inode) to refl (λ dir name stands. link_as-no_limit number inode dir name))

  rename-no_limit : (from to : List ℕ) → NoLimit S cred moment lawful (in_parent S EBUSY (rename_from S cred to) from)
  rename-no_limit from to =
      in_parent-no_limit EBUSY (rename_from S cred to) from refl (λ dir name from_stands.
      at_name-no_limit S cred moment lawful (rename_to S cred to dir name) dir name (λ number inode led there.
      in_parent-no_limit EBUSY (rename_as S cred to dir name number inode) to refl (λ to_dir to_name stands.
      rename_over-no_limit dir name number inode to_dir to_name led there stands (components to))))

pub giving_back_is_granted : GivingBackIsGranted
giving_back_is_granted S cred moment path lawful = (
  (λ size. no_limit S cred moment lawful (Truncate path size) (truncate-no_limit S cred moment lawful path size)),
  no_limit S cred moment lawful (Unlink path)
      (in_parent-no_limit S cred moment lawful EISDIR (unlink_as S cred) path refl (λ dir name stands. unlink-no_limit S cred moment lawful dir name)),
  no_limit S cred moment lawful (Rmdir path)
      (in_parent-no_limit S cred moment lawful EBUSY (rmdir_as S cred) path refl (λ dir name stands. rmdir-no_limit S cred moment lawful dir name)),
  (λ to. no_limit S cred moment lawful (Link path to) (link-no_limit S cred moment lawful path to)),
  (λ to. no_limit S cred moment lawful (Rename path to) (rename-no_limit S cred moment lawful path to)),
)
