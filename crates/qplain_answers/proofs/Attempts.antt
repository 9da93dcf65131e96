-- The attempt of each call that names no project is the same without projects.
use Rattle.std.proofs.Common.{◌≡◌, ℕ, ◌+◌, ◌==◌, Bool, true, false, not, ◌&&◌, nat_lt, cond, List, length, Option, Some, None, is_some, Result, Ok, Err, refl, sym, ap, ◌∙◌}
use Rattle.std.specs.Option.{option_map}
use Rattle.std.specs.Ordering.{nat_cmp}
use Rattle.std.specs.BTreeMap.{is_at}
use Rattle.qblocks.specs.File.{File, after_truncate, after_write, read_at}
use Rattle.qplain.specs.declared.owners.Owners.{Owners}
use Rattle.qplain.specs.declared.refusal.Refusal.{Refusal}
use Rattle.qplain.specs.declared.refusal.Refusal.TheVariants.{EINVAL, ENOTDIR, ENOTEMPTY, EEXIST, EISDIR, EACCES, EFBIG, EMLINK, EPERM}
use Rattle.qplain.specs.declared.reply.Reply.TheVariants.{Bytes, Done, Stat as StatReply}
use Rattle.qplain.specs.Caller.{Caller}
use Rattle.qplain.specs.State.{Inode, State, inode_at, is_directory, named, new_directory, new_file}
use Rattle.qplain.specs.Use.{has_name, has_too_many_links, is_empty}
use Rattle.qplain.specs.Walk.{components, last_name, led_to, parent, walk}
use Rattle.qplain.specs.Attempt.{Attempt, Refuse, Answer, Becomes, at_inode, at_name, at_path, at_reached, in_parent, in_reached, no_change, under}
use Rattle.qplain.specs.Rights.{may_remove, may_write}
use Rattle.qplain.specs.Files.{read_from, stat_at, stat_of, truncate_at, with_file, with_inode, write_into}
use Rattle.qplain.specs.Names.{create_as, created, link_as, mkdir_as, owners_by, rmdir_at, swept, unless_too_many_links, unlink_at, with_name, without_name}
use Rattle.qplain.specs.Renames.{meets, passes, rename_over, renamed}
use Rattle.qplain_answers.specs.WithoutProjects.{of_no_project, without_projects}
use Rattle.qplain_answers.proofs.Entries.{each, filter-each, insert-each, set_value-each}
use Rattle.qplain_answers.proofs.Looks.{directory-same, inode-same, links-same, made-in-none, may_remove-same, meets-same, parent-same, too_many-same, walk-same}

-- ---- attempts without projects

-- what an attempt comes to, without the projects of its plain result
abbrev pub forgets : Attempt → Attempt
forgets (Refuse r) = Refuse r
forgets (Answer reply) = Answer reply
forgets (Becomes S number) = Becomes (without_projects S) number

-- one of two attempts
pub pick : (b : Bool) (x y p q : Attempt) → p ≡ forgets x → q ≡ forgets y → cond b p q ≡ forgets (cond b x y)
pick true x y p q e f = e
pick false x y p q e f = f

-- the same, by a test that is the same
pub pick_by : (a b : Bool) → a ≡ b → (x y p q : Attempt) → p ≡ forgets x → q ≡ forgets y → cond a p q ≡ forgets (cond b x y)
pick_by a b same x y p q e f = ap (λ c. cond c p q) same ∙ pick b x y p q e f

module _ (S : State) where
  abbrev T : State
  T = without_projects S

  at_inode-same : (try other : ℕ → Inode → Attempt) → ((number : ℕ) (inode : Inode) → other number (of_no_project inode) ≡ forgets (try number inode))
      → (number : ℕ) (o : Option Inode) → at_inode other number (option_map of_no_project o) ≡ forgets (at_inode try number o)
  at_inode-same try other each number None = refl
  at_inode-same try other each number (Some inode) = each number inode

  at_reached-same : (try other : ℕ → Inode → Attempt)
      → ((number : ℕ) (inode : Inode) → other number (of_no_project inode) ≡ forgets (try number inode))
      → (r : Result ℕ Refusal) → at_reached T other r ≡ forgets (at_reached S try r)
  at_reached-same try other each (Err e) = refl
  at_reached-same try other each (Ok number) =
      ap (at_inode other number) (inode-same S number) ∙ at_inode-same try other each number (inode_at S number)

  pub at_path-same : (try other : ℕ → Inode → Attempt)
      → ((number : ℕ) (inode : Inode) → other number (of_no_project inode) ≡ forgets (try number inode))
      → (path : List ℕ) → at_path T other path ≡ forgets (at_path S try path)
  at_path-same try other each path =
      ap (at_reached T other) (walk-same S (components path)) ∙ at_reached-same try other each (walk S (components path))

  pub at_name-same : (try other : ℕ → Inode → Attempt)
      → ((number : ℕ) (inode : Inode) → other number (of_no_project inode) ≡ forgets (try number inode))
      → (dir : ℕ) (name : List ℕ) → at_name T other dir name ≡ forgets (at_name S try dir name)
  at_name-same try other each dir name = at_reached-same try other each (led_to (named S dir name))

  in_reached-same : (try other : ℕ → List ℕ → Attempt) → ((dir : ℕ) (name : List ℕ) → other dir name ≡ forgets (try dir name))
      → (name : List ℕ) (r : Result ℕ Refusal) → in_reached other name r ≡ forgets (in_reached try name r)
  in_reached-same try other each name (Err e) = refl
  in_reached-same try other each name (Ok dir) = each dir name

  under-same : (of_root : Refusal) (try other : ℕ → List ℕ → Attempt) → ((dir : ℕ) (name : List ℕ) → other dir name ≡ forgets (try dir name))
      → (names : List (List ℕ)) (o : Option (List ℕ)) → under T of_root other names o ≡ forgets (under S of_root try names o)
  under-same of_root try other each names None = refl
  under-same of_root try other each names (Some name) =
      ap (in_reached other name) (parent-same S names) ∙ in_reached-same try other each name (parent S names)

  pub in_parent-same : (of_root : Refusal) (try other : ℕ → List ℕ → Attempt) → ((dir : ℕ) (name : List ℕ) → other dir name ≡ forgets (try dir name))
      → (path : List ℕ) → in_parent T of_root other path ≡ forgets (in_parent S of_root try path)
  in_parent-same of_root try other each path = under-same of_root try other each (components path) (last_name (components path))

  -- ---- plain results

  created-same : (inode : Inode) (dir : ℕ) (name : List ℕ) → created T (of_no_project inode) dir name ≡ without_projects (created S inode dir name)
  created-same inode dir name =
      (λ i. record (created T (of_no_project inode) dir name) { inodes = insert-each of_no_project nat_cmp S.inodes S.next inode i })

  pub with_inode-same : (number : ℕ) (inode : Inode) → with_inode T number (of_no_project inode) ≡ without_projects (with_inode S number inode)
  with_inode-same number inode =
      (λ i. record T { inodes = set_value-each of_no_project (is_at (nat_cmp number)) S.inodes inode i })

  -- what is left by the names, where the names are the same
  swept-same : (U : State) → swept (without_projects U) ≡ without_projects (swept U)
  swept-same U = (λ i. record (without_projects U) { inodes = filter-each of_no_project (has_name U) U.inodes i })

  few-same : (U V : State) (number : ℕ) → V ≡ without_projects U → unless_too_many_links V number ≡ forgets (unless_too_many_links U number)
  few-same U V number same =
      ap (λ W. unless_too_many_links W number) same
      ∙ pick_by (has_too_many_links (without_projects U)) (has_too_many_links U) (too_many-same U) (Refuse EMLINK) (Becomes U number)
      (Refuse EMLINK) (Becomes (without_projects U) number) refl refl

  -- ---- call by call

  module _ (cred : Caller) where
    -- what is made by owners alone
    made-same : (make : Owners → Inode)
        → ((owners : Owners) → of_no_project (make owners) ≡ make (record { uid = owners.uid; gid = owners.gid; project = None }))
        → (dir : ℕ) (name : List ℕ) → created T (make (owners_by T cred dir)) dir name ≡ without_projects (created S (make (owners_by S cred dir)) dir name)
    made-same make plain dir name =
        (λ i. created T (make (record { uid = cred.uid; gid = cred.gid; project = made-in-none S dir i })) dir name)
        ∙ ap (λ inode. created T inode dir name) (sym (plain (owners_by S cred dir))) ∙ created-same (make (owners_by S cred dir)) dir name

    pub create-same : (dir : ℕ) (name : List ℕ) → create_as T cred dir name ≡ forgets (create_as S cred dir name)
    create-same dir name =
        pick (is_some (named S dir name)) (Refuse EEXIST) (Becomes (created S (new_file (owners_by S cred dir)) dir name) S.next) _ _ refl
        (ap (λ U. Becomes U S.next) (made-same new_file (λ owners. refl) dir name))

    pub mkdir-same : (dir : ℕ) (name : List ℕ) → mkdir_as T cred dir name ≡ forgets (mkdir_as S cred dir name)
    mkdir-same dir name =
        let U : State = created S (new_directory (owners_by S cred dir)) dir name in
        pick (is_some (named S dir name)) (Refuse EEXIST) (unless_too_many_links U S.next) _ _ refl
        (few-same U (created T (new_directory (owners_by T cred dir)) dir name) S.next (made-same new_directory (λ owners. refl) dir name))

    pub write-same : (off : ℕ) (bytes : List ℕ) (number : ℕ) (inode : Inode)
        → write_into T cred off bytes number (of_no_project inode) ≡ forgets (write_into S cred off bytes number inode)
    write-same off bytes number inode =
        let file : File = after_write inode.file off bytes in
        let becomes : Attempt = Becomes (with_file S number inode file) number in
        let few : Attempt = cond (nat_lt S.file_limit (off + length bytes)) (Refuse EFBIG) becomes in
        let some : Attempt = cond (length bytes == 0) (Answer (Done number no_change)) few in
        pick inode.dir (Refuse EISDIR) (cond (not (may_write cred inode)) (Refuse EACCES) some) _ _ refl
        (pick (not (may_write cred inode)) (Refuse EACCES) some _ _ refl
        (pick (length bytes == 0) (Answer (Done number no_change)) few _ _ refl
        (pick (nat_lt S.file_limit (off + length bytes)) (Refuse EFBIG) becomes _ _ refl
        (ap (λ U. Becomes U number) (with_inode-same number (record inode { file = file }))))))

    pub truncate-same : (size number : ℕ) (inode : Inode)
        → truncate_at T cred size number (of_no_project inode) ≡ forgets (truncate_at S cred size number inode)
    truncate-same size number inode =
        let file : File = after_truncate inode.file size in
        let becomes : Attempt = Becomes (with_file S number inode file) number in
        let few : Attempt = cond (nat_lt S.file_limit size) (Refuse EFBIG) becomes in
        pick inode.dir (Refuse EISDIR) (cond (not (may_write cred inode)) (Refuse EACCES) few) _ _ refl
        (pick (not (may_write cred inode)) (Refuse EACCES) few _ _ refl
        (pick (nat_lt S.file_limit size) (Refuse EFBIG) becomes _ _ refl
        (ap (λ U. Becomes U number) (with_inode-same number (record inode { file = file })))))

    pub read-same : (off len number : ℕ) (inode : Inode) → read_from off len number (of_no_project inode) ≡ forgets (read_from off len number inode)
    read-same off len number inode = pick inode.dir (Refuse EISDIR) (Answer (Bytes (read_at inode.file off len))) _ _ refl refl

    pub stat-same : (number : ℕ) (inode : Inode) → stat_at T number (of_no_project inode) ≡ forgets (stat_at S number inode)
    stat-same number inode = (λ i. Answer (StatReply (record (stat_of S number inode) { links = links-same S number inode.dir i })))

    pub link-same : (number : ℕ) (inode : Inode) (dir : ℕ) (name : List ℕ)
        → link_as T number (of_no_project inode) dir name ≡ forgets (link_as S number inode dir name)
    link-same number inode dir name =
        let U : State = with_name S dir name number in
        pick inode.dir (Refuse EPERM) (cond (is_some (named S dir name)) (Refuse EEXIST) (unless_too_many_links U number)) _ _ refl
        (pick (is_some (named S dir name)) (Refuse EEXIST) (unless_too_many_links U number) _ _ refl
        (few-same U (with_name T dir name number) number refl))

    pub unlink-same : (dir : ℕ) (name : List ℕ) (number : ℕ) (inode : Inode)
        → unlink_at T cred dir name number (of_no_project inode) ≡ forgets (unlink_at S cred dir name number inode)
    unlink-same dir name number inode =
        let becomes : Attempt = Becomes (swept (without_name S dir name)) number in
        pick inode.dir (Refuse EISDIR) (cond (not (may_remove S cred dir number)) (Refuse EPERM) becomes) _ _ refl
        (pick_by (not (may_remove T cred dir number)) (not (may_remove S cred dir number)) (ap not (may_remove-same S cred dir number))
        (Refuse EPERM) becomes _ _ refl
        (ap (λ U. Becomes U number) (swept-same (without_name S dir name))))

    pub rmdir-same : (dir : ℕ) (name : List ℕ) (number : ℕ) (inode : Inode)
        → rmdir_at T cred dir name number (of_no_project inode) ≡ forgets (rmdir_at S cred dir name number inode)
    rmdir-same dir name number inode =
        let becomes : Attempt = Becomes (swept (without_name S dir name)) number in
        let empties : Attempt = cond (not (is_empty S number)) (Refuse ENOTEMPTY) becomes in
        pick (not inode.dir) (Refuse ENOTDIR) (cond (not (may_remove S cred dir number)) (Refuse EPERM) empties) _ _ refl
        (pick_by (not (may_remove T cred dir number)) (not (may_remove S cred dir number)) (ap not (may_remove-same S cred dir number))
        (Refuse EPERM) empties _ _ refl
        (pick (not (is_empty S number)) (Refuse ENOTEMPTY) becomes _ _ refl
        (ap (λ U. Becomes U number) (swept-same (without_name S dir name)))))

    passes-same : (p q : ℕ → Bool) → ((n : ℕ) → p n ≡ q n) → (o : Option ℕ) → passes p o ≡ passes q o
    passes-same p q same None = refl
    passes-same p q same (Some n) = same n

    pub rename-same : (to : List (List ℕ)) (dir : ℕ) (name : List ℕ) (number : ℕ) (inode : Inode) (to_dir : ℕ) (to_name : List ℕ) (target : Option ℕ)
        → rename_over T cred to dir name number (of_no_project inode) to_dir to_name target
        ≡ forgets (rename_over S cred to dir name number inode to_dir to_name target)
    rename-same to dir name number inode to_dir to_name target =
        let U : State = renamed S dir name to_dir to_name number in
        let becomes : Attempt = unless_too_many_links U number in
        let empties : Attempt = cond (passes (λ n. not (is_empty S n)) target) (Refuse ENOTEMPTY) becomes in
        let replaces : Attempt = cond (passes (λ n. not (may_remove S cred to_dir n)) target) (Refuse EPERM) empties in
        let moves : Attempt = cond (not (may_remove S cred dir number)) (Refuse EPERM) replaces in
        let file_too : Attempt = cond (not inode.dir && passes (λ n. is_directory S n) target) (Refuse EISDIR) moves in
        let dir_too : Attempt = cond (inode.dir && passes (λ n. not (is_directory S n)) target) (Refuse ENOTDIR) file_too in
        let apart : Attempt = cond (inode.dir && meets S to number) (Refuse EINVAL) dir_too in
        pick (passes (λ n. n == number) target) (Answer (Done number no_change)) apart _ _ refl
        (pick_by (inode.dir && meets T to number) (inode.dir && meets S to number) (ap (λ b. inode.dir && b) (meets-same S to number))
        (Refuse EINVAL) dir_too _ _ refl
        (pick_by (inode.dir && passes (λ n. not (is_directory T n)) target) (inode.dir && passes (λ n. not (is_directory S n)) target)
        (ap (λ b. inode.dir && b) (passes-same _ _ (λ n. ap not (directory-same S n)) target))
        (Refuse ENOTDIR) file_too _ _ refl
        (pick_by (not inode.dir && passes (λ n. is_directory T n) target) (not inode.dir && passes (λ n. is_directory S n) target)
        (ap (λ b. not inode.dir && b) (passes-same _ _ (directory-same S) target))
        (Refuse EISDIR) moves _ _ refl
        (pick_by (not (may_remove T cred dir number)) (not (may_remove S cred dir number)) (ap not (may_remove-same S cred dir number))
        (Refuse EPERM) replaces _ _ refl
        (pick_by (passes (λ n. not (may_remove T cred to_dir n)) target) (passes (λ n. not (may_remove S cred to_dir n)) target)
        (passes-same _ _ (λ n. ap not (may_remove-same S cred to_dir n)) target)
        (Refuse EPERM) empties _ _ refl
        (pick (passes (λ n. not (is_empty S n)) target) (Refuse ENOTEMPTY) becomes _ _ refl
        (few-same U (renamed T dir name to_dir to_name number) number
        (swept-same (with_name (without_name (without_name S dir name) to_dir to_name) to_dir to_name number)))))))))
