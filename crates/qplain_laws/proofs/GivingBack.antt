-- Whoever is over a limit may give back: no truncation, unlink or rmdir is refused for want of space or of quota.
use Rattle.std.proofs.Common.{◌≡◌, ℕ, ◌+◌, ◌-◌, ◌≤◌, ◌<◌, Bool, true, false, not, nat_le, nat_lt, cond, List, [], ◌∷◌, length, take, filter, Option, Some, None}
use Rattle.std.proofs.Common.{Result, Ok, Err, refl, sym, ap, subst, ◌∙◌, tests, arith}
use Rattle.std.specs.List.{list_any}
use Rattle.std.specs.Option.{option_or, option_map}
use Rattle.std.proofs.lemmas.List.Filters.{length-filter_both}
use Rattle.qrules.specs.declared.kind.Kind.{Kind}
use Rattle.qrules.specs.Sort.{Sort, Inodes, Blocks}
use Rattle.qblocks.specs.File.{File, after_truncate, begins_below, size_of}
use Rattle.qplain.specs.declared.call.Call.{Call}
use Rattle.qplain.specs.declared.bounds.TheConstants.{ROOT}
use Rattle.qplain.specs.declared.refusal.Refusal.{Refusal}
use Rattle.qplain.specs.declared.refusal.Refusal.TheVariants.{EINVAL, ENAMETOOLONG, ENOTDIR, ENOTEMPTY, ENOSPC, EDQUOT, EISDIR, EACCES, EFBIG, EPERM}
use Rattle.qplain.specs.declared.reply.Reply.TheVariants.{Refused}
use Rattle.qplain.specs.Caller.{Caller, is_superuser}
use Rattle.qplain.specs.State.{Holder, Inode, State, inode_at, is_directory, named}
use Rattle.qplain.specs.Use.{account_of, belongs_to, is_empty, names_to, use_of, weight}
use Rattle.qplain.specs.Walk.{components, is_too_long, led_to, parent, walk}
use Rattle.qplain.specs.Decision.{fault_of_holder, first_refusal, is_too_full, refusal_between}
use Rattle.qplain.specs.Calls.{attempt, attempt_of, is_invalid, paths_of, unless}
use Rattle.qplain.specs.Attempt.{Attempt, Refuse, Answer, Becomes, at_inode, at_name, at_path, at_reached, in_reached, under}
use Rattle.qplain.specs.Rights.{may_remove, may_write}
use Rattle.qplain.specs.Files.{truncate_at, with_file}
use Rattle.qplain.specs.Names.{rmdir_as, rmdir_at, swept, unlink_as, unlink_at, without_name}
use Rattle.qplain.specs.Step.{settle, settled}
use Rattle.qplain_laws.specs.Laws.{FitsTogether, IsLawful, RefusesForNoLimit, is_for_limits}
use Rattle.qplain_laws.specs.Replaces.{Replaces, charge_of, weight_of}
use Rattle.qplain_laws.proofs.Trying.{as_directory-ok, led_to-ok, true-from_not}
use Rattle.qplain_laws.proofs.WalkFaults.{Plain, led_to-plain, parent-plain, walk-plain}
use Rattle.qplain_laws.proofs.Removing.{Replaces-last, Replaces-more, links_of-unlinked, one_name}
use Rattle.qplain_laws.proofs.Replacing.{Replaces-changed, fault_of-fewer, not_full-after}

-- ---- where nothing that is counted rises

-- nobody whose use does not rise is refused
pub first_refusal-fewer : (S S1 : State) (moment : ℕ) → ((kind : Kind) (id : ℕ) (sort : Sort) → use_of S1 kind id sort ≤ use_of S kind id sort)
    → (hs : List Holder) → first_refusal (fault_of_holder S S1 moment) hs ≡ None
first_refusal-fewer S S1 moment fewer [] = refl
first_refusal-fewer S S1 moment fewer (h ∷ hs) =
    let fault : fault_of_holder S S1 moment h ≡ None =
    λ i. option_or (fault_of-fewer Inodes (account_of S h) moment (use_of S1 h.kind h.id Inodes) (fewer h.kind h.id Inodes) i)
    (fault_of-fewer Blocks (account_of S h) moment (use_of S1 h.kind h.id Blocks) (fewer h.kind h.id Blocks) i) in
    λ i. option_or (option_map (λ over. EDQUOT h.kind over) (fault i)) (first_refusal-fewer S S1 moment fewer hs i)

-- an inode in place of one that took as much or more is refused to nobody
pub granted-fewer : (S S1 : State) (from to : Option Inode) (cred : Caller) (moment : ℕ) → IsLawful S → Replaces S S1 from to → S1.next ≡ S.next
    → ((sort : Sort) → weight_of sort to ≤ weight_of sort from)
    → ((kind : Kind) (id : ℕ) (sort : Sort) → charge_of kind id sort to ≤ charge_of kind id sort from) → refusal_between S S1 cred moment ≡ None
granted-fewer S S1 from to cred moment lawful replaces same_next lighter fewer =
    let next = lawful.next_fits in
    let full : is_too_full S1 ≡ false =
    not_full-after S S1 from to replaces lawful.blocks_fit lawful.inodes_fit (omega (arith, next, same_next)) (lighter Blocks) (lighter Inodes) in
    let none : first_refusal (fault_of_holder S S1 moment) S.holders ≡ None =
    first_refusal-fewer S S1 moment (λ kind id sort.
    let sum = replaces.uses kind id sort in
    let l = fewer kind id sort in
    omega (arith, sum, l)) S.holders in
    (λ i. cond (full i) (Some ENOSPC) (cond (is_superuser cred) None (none i))) ∙ either (is_superuser cred)
  where
    either : (b : Bool) → ◌≡◌ {A = Option Refusal} (cond b None None) None
    either true = refl
    either false = refl

part-le : (b : Bool) (m n : ℕ) → m ≤ n → cond b m 0 ≤ cond b n 0
part-le true m n l = l
part-le false m n l = omega arith

-- a truncation leaves as many blocks or fewer
fewer-blocks : (file : File) (size : ℕ) → length (after_truncate file size).allocated ≤ length file.allocated
unfolding after_truncate
fewer-blocks file size =
    elim (nat_le (size_of file) size) as (λ b. length (cond b file.allocated (filter (begins_below size) file.allocated)) ≤ length file.allocated) [
      | true ↦ omega arith
      | false ↦ let both = length-filter_both (begins_below size) (λ k. not (begins_below size k)) (λ k. refl) file.allocated in omega (arith, both)
    ]

module _ (S : State) (cred : Caller) (moment : ℕ) (lawful : IsLawful S) where
  -- so a truncation is refused to nobody
  granted-truncate : (number : ℕ) (inode : Inode) (size : ℕ) → inode_at S number ≡ Some inode
      → refusal_between S (with_file S number inode (after_truncate inode.file size)) cred moment ≡ None
  granted-truncate number inode size there =
      granted-fewer S (with_file S number inode (after_truncate inode.file size)) (Some inode) (Some after) cred moment lawful
      (Replaces-changed S number inode after there) refl lighter (λ kind id sort. by kind id sort)
    where
      after : Inode
      after = record inode { file = after_truncate inode.file size }

      lighter : (sort : Sort) → weight sort after ≤ weight sort inode
      lighter Inodes = omega arith
      lighter Blocks = fewer-blocks inode.file size

      by : (kind : Kind) (id : ℕ) (sort : Sort) → charge_of kind id sort (Some after) ≤ charge_of kind id sort (Some inode)
      by kind id sort = part-le (belongs_to kind id inode) (weight sort after) (weight sort inode) (lighter sort)

  -- nor is an unlink
  granted-unlink : (dir : ℕ) (name : List ℕ) (number : ℕ) (inode : Inode) → named S dir name ≡ Some number → inode_at S number ≡ Some inode
      → inode.dir ≡ false → refusal_between S (swept (without_name S dir name)) cred moment ≡ None
  granted-unlink dir name number inode led there file = by (nat_lt 1 (names_to S number)) refl
    where
      fits : FitsTogether S
      fits = lawful.parts

      by : (b : Bool) → nat_lt 1 (names_to S number) ≡ b → refusal_between S (swept (without_name S dir name)) cred moment ≡ None
      by true more =
          let l : 1 < names_to S number = grind (arith, tests, more) in
          granted-fewer S (swept (without_name S dir name)) (Some inode) (Some inode) cred moment lawful
          (Replaces-more S dir name number inode fits led there l) refl (λ sort. omega arith) (λ kind id sort. omega arith)
      by false last =
          let sum : names_to (swept (without_name S dir name)) number + 1 ≡ names_to S number =
          links_of-unlinked S dir name number inode fits led there file in
          let one : names_to S number ≡ 1 = grind (arith, tests, sum, last) in
          granted-fewer S (swept (without_name S dir name)) (Some inode) None cred moment lawful
          (Replaces-last S dir name number inode fits led there one) refl (λ sort. omega arith) (λ kind id sort. omega arith)

  -- nor is an rmdir
  granted-rmdir : (dir : ℕ) (name : List ℕ) (number : ℕ) (inode : Inode) → named S dir name ≡ Some number → inode_at S number ≡ Some inode
      → inode.dir ≡ true → refusal_between S (swept (without_name S dir name)) cred moment ≡ None
  granted-rmdir dir name number inode led there directory =
      granted-fewer S (swept (without_name S dir name)) (Some inode) None cred moment lawful
      (Replaces-last S dir name number inode lawful.parts led there (one_name S dir name number inode lawful.parts led there directory))
      refl (λ sort. omega arith) (λ kind id sort. omega arith)

  -- ---- what an attempt is refused for

  -- a refusal for no limit, or a plain result that is refused to nobody
  abbrev pub NoLimit : Attempt → Type 0
  NoLimit (Refuse r) = is_for_limits r ≡ false
  NoLimit (Answer reply) = (r : Refusal) → reply ≡ Refused r → is_for_limits r ≡ false
  NoLimit (Becomes S1 number) = refusal_between S S1 cred moment ≡ None

  settle-no_limit : (a : Attempt) → NoLimit a → (r : Refusal) → (settle S cred moment a).1 ≡ Refused r → is_for_limits r ≡ false
  settle-no_limit (Refuse e) holds r is = let same : e ≡ r = cc in subst (λ x. is_for_limits x ≡ false) same holds
  settle-no_limit (Answer reply) holds r is = holds r is
  settle-no_limit (Becomes S1 number) holds r is =
      let done = sym (ap (λ o. (settled S S1 number moment o).1) holds) ∙ is in
      cc

  pub choose : (b : Bool) (x y : Attempt) → NoLimit x → (b ≡ false → NoLimit y) → NoLimit (cond b x y)
  choose true x y p q = p
  choose false x y p q = q refl

  at_inode-no_limit : (try : ℕ → Inode → Attempt) (number : ℕ) (o : Option Inode)
      → ((inode : Inode) → o ≡ Some inode → NoLimit (try number inode)) → NoLimit (at_inode try number o)
  at_inode-no_limit try number None each = refl
  at_inode-no_limit try number (Some inode) each = each inode refl

  pub at_reached-no_limit : (try : ℕ → Inode → Attempt) (r : Result ℕ Refusal) → Plain r
      → ((number : ℕ) (inode : Inode) → r ≡ Ok number → inode_at S number ≡ Some inode → NoLimit (try number inode)) → NoLimit (at_reached S try r)
  at_reached-no_limit try (Err e) plain each = plain
  at_reached-no_limit try (Ok number) plain each = at_inode-no_limit try number (inode_at S number) (λ inode there. each number inode refl there)

  -- ---- the three calls

  pub truncate-no_limit : (path : List ℕ) (size : ℕ) → NoLimit (at_path S (truncate_at S cred size) path)
  truncate-no_limit path size =
      at_reached-no_limit (truncate_at S cred size) (walk S (components path)) (walk-plain S (Ok ROOT) (components path) tt) (λ number inode reached there.
      let becomes : Attempt = Becomes (with_file S number inode (after_truncate inode.file size)) number in
      let fits : Attempt = cond (nat_lt S.file_limit size) (Refuse EFBIG) becomes in
      choose inode.dir (Refuse EISDIR) (cond (not (may_write cred inode)) (Refuse EACCES) fits) refl (λ file.
      choose (not (may_write cred inode)) (Refuse EACCES) fits refl (λ may.
      choose (nat_lt S.file_limit size) (Refuse EFBIG) becomes refl (λ below. granted-truncate number inode size there))))

  -- what is tried of a name's inode, where it is there
  pub at_name-no_limit : (try : ℕ → Inode → Attempt) (dir : ℕ) (name : List ℕ)
      → ((number : ℕ) (inode : Inode) → named S dir name ≡ Some number → inode_at S number ≡ Some inode → NoLimit (try number inode))
      → NoLimit (at_name S try dir name)
  at_name-no_limit try dir name each =
      at_reached-no_limit try (led_to (named S dir name)) (led_to-plain (named S dir name))
      (λ number inode reached there. each number inode (led_to-ok (named S dir name) number reached) there)

  pub unlink-no_limit : (dir : ℕ) (name : List ℕ) → NoLimit (unlink_as S cred dir name)
  unlink-no_limit dir name =
      at_name-no_limit (unlink_at S cred dir name) dir name (λ number inode led there.
      let becomes : Attempt = Becomes (swept (without_name S dir name)) number in
      choose inode.dir (Refuse EISDIR) (cond (not (may_remove S cred dir number)) (Refuse EPERM) becomes) refl (λ file.
      choose (not (may_remove S cred dir number)) (Refuse EPERM) becomes refl (λ may.
      granted-unlink dir name number inode led there file)))

  pub rmdir-no_limit : (dir : ℕ) (name : List ℕ) → NoLimit (rmdir_as S cred dir name)
  rmdir-no_limit dir name =
      at_name-no_limit (rmdir_at S cred dir name) dir name (λ number inode led there.
      let becomes : Attempt = Becomes (swept (without_name S dir name)) number in
      let empties : Attempt = cond (not (is_empty S number)) (Refuse ENOTEMPTY) becomes in
      choose (not inode.dir) (Refuse ENOTDIR) (cond (not (may_remove S cred dir number)) (Refuse EPERM) empties) refl (λ directory.
      choose (not (may_remove S cred dir number)) (Refuse EPERM) empties refl (λ may.
      choose (not (is_empty S number)) (Refuse ENOTEMPTY) becomes refl (λ empty.
      granted-rmdir dir name number inode led there (true-from_not inode.dir directory)))))

  in_reached-no_limit : (try : ℕ → List ℕ → Attempt) (name : List ℕ) (r : Result ℕ Refusal) → Plain r
      → ((dir : ℕ) → r ≡ Ok dir → NoLimit (try dir name)) → NoLimit (in_reached try name r)
  in_reached-no_limit try name (Err e) plain each = plain
  in_reached-no_limit try name (Ok dir) plain each = each dir refl

  pub under-no_limit : (of_root : Refusal) (try : ℕ → List ℕ → Attempt) → is_for_limits of_root ≡ false
      → ((dir : ℕ) (name : List ℕ) → is_directory S dir ≡ true → NoLimit (try dir name))
      → (names : List (List ℕ)) (o : Option (List ℕ)) → NoLimit (under S of_root try names o)
  under-no_limit of_root try plain each names None = plain
  under-no_limit of_root try plain each names (Some name) =
      in_reached-no_limit try name (parent S names)
      (parent-plain S names)
      (λ dir placed. each dir name (as_directory-ok S (walk S (take (length names - 1) names)) dir placed))

  -- what is wrong with a call as it is written is no limit
  written-no_limit : (bad long : Bool) (a : Attempt) → NoLimit a
      → NoLimit (unless (cond bad (Some EINVAL) (cond long (Some ENAMETOOLONG) None)) a)
  written-no_limit true long a holds = refl
  written-no_limit false true a holds = refl
  written-no_limit false false a holds = holds

  pub no_limit : (call : Call) → NoLimit (attempt_of S cred call) → RefusesForNoLimit S cred moment call
  no_limit call holds =
      settle-no_limit (attempt S cred moment call)
      (written-no_limit (is_invalid S cred moment call) (list_any is_too_long (paths_of call)) (attempt_of S cred call) holds)
