-- The first test of a call that fails is what it is refused for.
use Rattle.std.proofs.Common.{◌≡◌, ℕ, ◌+◌, ◌==◌, Bool, true, false, not, ◌&&◌, ◌||◌, nat_lt, cond, List, [], ◌∷◌, length, Option, Some, None, is_some, Result}
use Rattle.std.proofs.Common.{Ok, Err, refl, ap, ◌∙◌, subst}
use Rattle.std.specs.List.{find, list_any}
use Rattle.std.specs.Option.{option_map, option_or}
use Rattle.qrules.specs.declared.over.Over.{Over}
use Rattle.qblocks.specs.File.{read_at}
use Rattle.qplain.specs.declared.call.Call.{Call}
use Rattle.qplain.specs.declared.call.Call.TheVariants.{Create, Mkdir, Write, Truncate, Read, Stat as AskStat, Link, Unlink, Rmdir, Rename, Chown, SetQuota, SetGrace, Quota as AskQuota}
use Rattle.qplain.specs.declared.refusal.Refusal.{Refusal}
use Rattle.qplain.specs.declared.refusal.Refusal.TheVariants.{EINVAL, ENOTDIR, EEXIST, ENOSPC, EDQUOT, EISDIR, EACCES, EFBIG, EPERM, EMLINK, ENOTEMPTY, EBUSY, ESRCH}
use Rattle.qplain.specs.declared.reply.Reply.TheVariants.{Bytes, Done, Refused}
use Rattle.qplain.specs.Caller.{Caller, is_superuser}
use Rattle.qplain.specs.State.{Holder, Inode, State, inode_at, is_directory, named, new_directory}
use Rattle.qplain.specs.Use.{has_too_many_links, is_empty}
use Rattle.qplain.specs.Walk.{components, last_name, led_to, parent, walk}
use Rattle.qplain.specs.Decision.{fault_of_holder, first_refusal, is_too_full, refusal_between}
use Rattle.qplain.specs.Known.{is_declared, is_holder}
use Rattle.qplain.specs.Calls.{attempt, attempt_of, refusal_of_arguments, unless}
use Rattle.qplain.specs.Attempt.{Attempt, Refuse, Answer, Becomes, at_inode, at_path, at_reached, in_parent, in_reached, no_change, under}
use Rattle.qplain.specs.Rights.{is_own, may_give, may_remove, may_write}
use Rattle.qplain.specs.Files.{read_from, stat_at, truncate_at, write_into}
use Rattle.qplain.specs.Names.{create_as, created, link_as, link_to, mkdir_as, owners_by, rmdir_as, rmdir_at, unlink_as, unlink_at, with_name}
use Rattle.qplain.specs.Renames.{meets, passes, rename_as, rename_from, rename_over, rename_to, renamed}
use Rattle.qplain.specs.Owners.{chown_at, renewed}
use Rattle.qplain.specs.Quotas.{quota_from}
use Rattle.qplain.specs.Step.{settle, settled}
use Rattle.qplain_laws.specs.Laws.{is_for_limits}
use Rattle.qplain_laws.specs.Refusals.{RefusalsComeInOrder, Test, first_failed, first_refusal_of, in_directory, of_found, of_last, of_reached, rename_tests}
use Rattle.qplain_laws.specs.Refusals.{tests_of}

-- the attempt is no refusal
abbrev IsGranted : Attempt → Type 0
IsGranted (Refuse r) = ⊥
IsGranted (Answer reply) = (r : Refusal) → reply ≡ Refused r → ⊥
IsGranted (Becomes S number) = Unit {0}

-- the attempt comes to the refusal, if there is one, and else to none
abbrev Decides : Option Refusal → Attempt → Type 0
Decides (Some r) a = a ≡ Refuse r
Decides None a = IsGranted a

-- the tests decide the attempt
abbrev Decide : List Test → Attempt → Type 0
Decide tests a = Decides (first_failed tests) a

-- the answer of the first test that fails, and else the attempt
abbrev answer : List Test → Attempt → Attempt
answer [] a = a
answer (test ∷ tests) a = cond test.0 (Refuse test.1) (answer tests a)

-- so the tests decide it
answered : (tests : List Test) (a : Attempt) → IsGranted a → Decide tests (answer tests a)
answered [] a granted = granted
answered (test ∷ tests) a granted = by test.0 (answered tests a granted)
  where
    by : (b : Bool) → Decide tests (answer tests a) → Decides (cond b (Some test.1) (first_failed tests)) (cond b (Refuse test.1) (answer tests a))
    by true later = refl
    by false later = later

-- a write of nothing comes before the test of its size
of_size : (none large : Bool) (number : ℕ) (S : State)
    → Decide ((not none && large, EFBIG) ∷ []) (cond none (Answer (Done number no_change)) (cond large (Refuse EFBIG) (Becomes S number)))
of_size true large number S = λ r is. cc
of_size false true number S = refl
of_size false false number S = tt

-- and it is tested as any other is
of_write : (dir other none large : Bool) (number : ℕ) (S : State)
    → Decide ((dir, EISDIR) ∷ (other, EACCES) ∷ (not none && large, EFBIG) ∷ [])
    (cond dir (Refuse EISDIR) (cond other (Refuse EACCES)
    (cond none (Answer (Done number no_change)) (cond large (Refuse EFBIG) (Becomes S number)))))
of_write true other none large number S = refl
of_write false true none large number S = refl
of_write false false none large number S = of_size none large number S

module _ (S : State) where
  reached : (tests : ℕ → Inode → List Test) (try : ℕ → Inode → Attempt) (r : Result ℕ Refusal)
      → ((number : ℕ) (inode : Inode) → Decide (tests number inode) (try number inode))
      → Decide (of_reached S tests r) (at_reached S try r)
  reached tests try (Err r) each = refl
  reached tests try (Ok number) each = found (inode_at S number)
    where
      found : (o : Option Inode) → Decide (of_found tests number o) (at_inode try number o)
      found None = refl
      found (Some inode) = each number inode

  placed : (of_root : Refusal) (names : List (List ℕ)) (tests : ℕ → List ℕ → List Test) (try : ℕ → List ℕ → Attempt)
      (o : Option (List ℕ)) → ((dir : ℕ) (name : List ℕ) → Decide (tests dir name) (try dir name))
      → Decide (of_last S of_root names tests o) (under S of_root try names o)
  placed of_root names tests try None each = refl
  placed of_root names tests try (Some name) each = in_dir (parent S names)
    where
      in_dir : (r : Result ℕ Refusal) → Decide (in_directory tests name r) (in_reached try name r)
      in_dir (Err r) = refl
      in_dir (Ok dir) = each dir name

  of_path : (path : List ℕ) (tests : ℕ → Inode → List Test) (try : ℕ → Inode → Attempt)
      → ((number : ℕ) (inode : Inode) → Decide (tests number inode) (try number inode))
      → Decide (of_reached S tests (walk S (components path))) (at_path S try path)
  of_path path tests try each = reached tests try (walk S (components path)) each

  of_parent : (of_root : Refusal) (path : List ℕ) (tests : ℕ → List ℕ → List Test) (try : ℕ → List ℕ → Attempt)
      → ((dir : ℕ) (name : List ℕ) → Decide (tests dir name) (try dir name))
      → Decide (of_last S of_root (components path) tests (last_name (components path))) (in_parent S of_root try path)
  of_parent of_root path tests try each = placed of_root (components path) tests try (last_name (components path)) each

  module _ (cred : Caller) where
    over : (to : List (List ℕ)) (dir : ℕ) (name : List ℕ) (number : ℕ) (inode : Inode) (to_dir : ℕ) (to_name : List ℕ) (target : Option ℕ)
        → Decide (rename_tests S cred to dir name number inode to_dir to_name target)
        (rename_over S cred to dir name number inode to_dir to_name target)
    over to dir name number inode to_dir to_name target =
        let tests : List Test =
        (inode.dir && meets S to number, EINVAL)
        ∷ (inode.dir && passes (λ n. not (is_directory S n)) target, ENOTDIR)
        ∷ (not inode.dir && passes (λ n. is_directory S n) target, EISDIR)
        ∷ (not (may_remove S cred dir number), EPERM)
        ∷ (passes (λ n. not (may_remove S cred to_dir n)) target, EPERM)
        ∷ (passes (λ n. not (is_empty S n)) target, ENOTEMPTY)
        ∷ (has_too_many_links (renamed S dir name to_dir to_name number), EMLINK) ∷ [] in
        unless_one (passes (λ n. n == number) target) tests (Becomes (renamed S dir name to_dir to_name number) number) tt
      where
        unless_one : (b : Bool) (tests : List Test) (a : Attempt) → IsGranted a
            → Decide (cond b [] tests) (cond b (Answer (Done number no_change)) (answer tests a))
        unless_one true tests a granted = λ r is. cc
        unless_one false tests a granted = answered tests a granted

    -- of each call the tests decide the attempt
    decided : (call : Call) → Decide (tests_of S cred call) (attempt_of S cred call)
    decided (Create path) =
        let tests : ℕ → List ℕ → List Test = λ dir name. (is_some (named S dir name), EEXIST) ∷ [] in
        of_parent EEXIST path tests (create_as S cred) (λ dir name. answered (tests dir name) (Becomes _ _) tt)
    decided (Mkdir path) =
        let T : ℕ → List ℕ → State = λ dir name. created S (new_directory (owners_by S cred dir)) dir name in
        let tests : ℕ → List ℕ → List Test = λ dir name.
        (is_some (named S dir name), EEXIST) ∷ (has_too_many_links (T dir name), EMLINK) ∷ [] in
        of_parent EEXIST path tests (mkdir_as S cred) (λ dir name. answered (tests dir name) (Becomes _ _) tt)
    decided (Write path off bytes) =
        let large : Bool = nat_lt S.file_limit (off + length bytes) in
        let tests : ℕ → Inode → List Test = λ number inode.
        (inode.dir, EISDIR) ∷ (not (may_write cred inode), EACCES) ∷ (not (length bytes == 0) && large, EFBIG) ∷ [] in
        of_path path tests (write_into S cred off bytes) (λ number inode.
        of_write inode.dir (not (may_write cred inode)) (length bytes == 0) large number _)
    decided (Truncate path size) =
        let tests : ℕ → Inode → List Test = λ number inode.
        (inode.dir, EISDIR) ∷ (not (may_write cred inode), EACCES) ∷ (nat_lt S.file_limit size, EFBIG) ∷ [] in
        of_path path tests (truncate_at S cred size) (λ number inode. answered (tests number inode) (Becomes _ _) tt)
    decided (Read path off len) =
        let tests : ℕ → Inode → List Test = λ number inode. (inode.dir, EISDIR) ∷ [] in
        of_path path tests (read_from off len) (λ number inode.
        answered (tests number inode) (Answer (Bytes (read_at inode.file off len))) (λ r is. cc))
    decided (AskStat path) =
        let tests : ℕ → Inode → List Test = λ number inode. [] in
        of_path path tests (stat_at S) (λ number inode r is. cc)
    decided (Link from to) =
        let few : ℕ → ℕ → List ℕ → Bool = λ number dir name. has_too_many_links (with_name S dir name number) in
        let tests : ℕ → Inode → ℕ → List ℕ → List Test = λ number inode dir name.
        (inode.dir, EPERM) ∷ (is_some (named S dir name), EEXIST) ∷ (few number dir name, EMLINK) ∷ [] in
        let outer : ℕ → Inode → List Test = λ number inode.
        of_last S EEXIST (components to) (tests number inode) (last_name (components to)) in
        of_path from outer (link_to S to) (λ number inode.
        of_parent EEXIST to (tests number inode) (link_as S number inode) (λ dir name.
        answered (tests number inode dir name) (Becomes _ _) tt))
    decided (Unlink path) =
        let tests : ℕ → ℕ → Inode → List Test = λ dir number inode.
        (inode.dir, EISDIR) ∷ (not (may_remove S cred dir number), EPERM) ∷ [] in
        let outer : ℕ → List ℕ → List Test = λ dir name. of_reached S (tests dir) (led_to (named S dir name)) in
        of_parent EISDIR path outer (unlink_as S cred) (λ dir name.
        reached (tests dir) (unlink_at S cred dir name) (led_to (named S dir name)) (λ number inode.
        answered (tests dir number inode) (Becomes _ _) tt))
    decided (Rmdir path) =
        let tests : ℕ → ℕ → Inode → List Test = λ dir number inode.
        (not inode.dir, ENOTDIR) ∷ (not (may_remove S cred dir number), EPERM) ∷ (not (is_empty S number), ENOTEMPTY) ∷ [] in
        let outer : ℕ → List ℕ → List Test = λ dir name. of_reached S (tests dir) (led_to (named S dir name)) in
        of_parent EBUSY path outer (rmdir_as S cred) (λ dir name.
        reached (tests dir) (rmdir_at S cred dir name) (led_to (named S dir name)) (λ number inode.
        answered (tests dir number inode) (Becomes _ _) tt))
    decided (Rename from to) =
        let tests : ℕ → List ℕ → ℕ → Inode → ℕ → List ℕ → List Test = λ dir name number inode to_dir to_name.
        rename_tests S cred (components to) dir name number inode to_dir to_name (named S to_dir to_name) in
        let inner : ℕ → List ℕ → ℕ → Inode → List Test = λ dir name number inode.
        of_last S EBUSY (components to) (tests dir name number inode) (last_name (components to)) in
        let outer : ℕ → List ℕ → List Test = λ dir name. of_reached S (inner dir name) (led_to (named S dir name)) in
        of_parent EBUSY from outer (rename_from S cred to) (λ dir name.
        reached (inner dir name) (rename_to S cred to dir name) (led_to (named S dir name)) (λ number inode.
        of_parent EBUSY to (tests dir name number inode) (rename_as S cred to dir name number inode) (λ to_dir to_name.
        over (components to) dir name number inode to_dir to_name (named S to_dir to_name))))
    decided (Chown path uid gid project) =
        let forbidden : Inode → Bool = λ inode. not (may_give cred inode (renewed uid gid project inode.owners)) in
        let tests : ℕ → Inode → List Test = λ number inode. (forbidden inode, EPERM) ∷ [] in
        of_path path tests (chown_at S cred uid gid project) (λ number inode. answered (tests number inode) (Becomes _ _) tt)
    decided (SetQuota kind id limits) =
        answered ((not (is_superuser cred), EPERM) ∷ (not (is_declared S kind id), ESRCH) ∷ []) (Becomes _ _) tt
    decided (SetGrace graces) = answered ((not (is_superuser cred), EPERM) ∷ []) (Becomes _ _) tt
    decided (AskQuota kind id) = own (is_superuser cred || is_own cred kind id) (asked S.holders)
      where
        own : (b : Bool) → Decide ((not (is_declared S kind id), ESRCH) ∷ []) (quota_from S (find (is_holder kind id) S.holders))
            → Decide ((not b, EPERM) ∷ (not (is_declared S kind id), ESRCH) ∷ [])
            (cond (not b) (Refuse EPERM) (quota_from S (find (is_holder kind id) S.holders)))
        own true later = later
        own false later = refl

        asked : (hs : List Holder) → Decide ((not (list_any (is_holder kind id) hs), ESRCH) ∷ []) (quota_from S (find (is_holder kind id) hs))
        asked [] = refl
        asked (h ∷ hs) = by (is_holder kind id h) (asked hs)
          where
            by : (b : Bool) → Decide ((not (list_any (is_holder kind id) hs), ESRCH) ∷ []) (quota_from S (find (is_holder kind id) hs))
                → Decide ((not (b || list_any (is_holder kind id) hs), ESRCH) ∷ []) (quota_from S (cond b (Some h) (find (is_holder kind id) hs)))
            by true later = λ r is. cc
            by false later = later

    module _ (moment : ℕ) where
      -- what is wrong with the arguments comes first
      arguments : (o : Option Refusal) (call : Call)
          → Decides (option_or o (first_failed (tests_of S cred call))) (unless o (attempt_of S cred call))
      arguments None call = decided call
      arguments (Some r) call = refl

      settled-first : (o : Option Refusal) (a : Attempt) (r : Refusal) → Decides o a → o ≡ Some r
          → (settle S cred moment a).1 ≡ Refused r
      settled-first (Some s) a r decides is =
          let same : s ≡ r = cc in
          ap (λ x. (settle S cred moment x).1) decides ∙ ap Refused same
      settled-first None a r decides is = cc

      quota : (hs : List Holder) (fault : Holder → Option Over) (r : Refusal) → first_refusal fault hs ≡ Some r → is_for_limits r ≡ true
      quota [] fault r is = cc
      quota (h ∷ hs) fault r is = by (fault h) (quota hs fault r) is
        where
          by : (o : Option Over) → (first_refusal fault hs ≡ Some r → is_for_limits r ≡ true)
              → option_or (option_map (λ over. EDQUOT h.kind over) o) (first_refusal fault hs) ≡ Some r → is_for_limits r ≡ true
          by (Some o) later e = let same : EDQUOT h.kind o ≡ r = cc in subst (λ (x : Refusal). is_for_limits x ≡ true) same refl
          by None later e = later e

      between : (new : State) (r : Refusal) → refusal_between S new cred moment ≡ Some r → is_for_limits r ≡ true
      between new r is = by (is_too_full new) (is_superuser cred) is
        where
          by : (full super : Bool) → cond full (Some ENOSPC) (cond super None (first_refusal (fault_of_holder S new moment) S.holders)) ≡ Some r
              → is_for_limits r ≡ true
          by true super e = let same : ENOSPC ≡ r = cc in subst (λ (x : Refusal). is_for_limits x ≡ true) same refl
          by false true e = cc
          by false false e = quota S.holders (fault_of_holder S new moment) r e

      settled-limits : (o : Option Refusal) (a : Attempt) (r : Refusal) → Decides o a → o ≡ None → (settle S cred moment a).1 ≡ Refused r
          → is_for_limits r ≡ true
      settled-limits (Some s) a r decides is told = cc
      settled-limits None (Refuse s) r decides is told = absurd decides
      settled-limits None (Answer reply) r decides is told = absurd (decides r told)
      settled-limits None (Becomes new number) r decides is told = by (refusal_between S new cred moment) refl told
        where
          by : (o : Option Refusal) → refusal_between S new cred moment ≡ o → (settled S new number moment o).1 ≡ Refused r → is_for_limits r ≡ true
          by (Some s) same e = let one : s ≡ r = cc in between new r (same ∙ ap Some one)
          by None same e = cc

pub refusals_come_in_order : RefusalsComeInOrder
refusals_come_in_order S cred moment call =
    let decides : Decides (first_refusal_of S cred moment call) (attempt S cred moment call) =
    arguments S cred moment (refusal_of_arguments S cred moment call) call in
    record {
      first = λ r is. settled-first S cred moment (first_refusal_of S cred moment call) (attempt S cred moment call) r decides is;
      limits = λ none r told. settled-limits S cred moment (first_refusal_of S cred moment call) (attempt S cred moment call) r decides none told;
      space = λ new number is full.
          let charge : Option Refusal = cond (is_superuser cred) None (first_refusal (fault_of_holder S new moment) S.holders) in
          ap (λ a. (settle S cred moment a).1) is ∙ ap (λ b. (settled S new number moment (cond b (Some ENOSPC) charge)).1) full;
    }
