-- What is done by create, mkdir, write, truncate and chown, by setquota and setgrace.
use Rattle.std.proofs.Common.{◌≡◌, ℕ, ◌+◌, ◌==◌, Bool, true, false, not, ◌||◌, nat_lt, cond, List, [], ◌∷◌, length, map, Option, Some, None, is_some, refl, sym, subst, ◌∙◌, tests, arith}
use Rattle.std.specs.List.{find, list_any}
use Rattle.std.specs.Option.{option_map}
use Rattle.std.specs.BTreeMap.{is_at}
use Rattle.std.specs.Ordering.{nat_cmp}
use Rattle.std.proofs.lemmas.Bool.{cond-true}
use Rattle.qrules.specs.declared.kind.Kind.{Kind}
use Rattle.qrules.specs.declared.limits.Limits.{Limits}
use Rattle.qrules.specs.declared.graces.Graces.{Graces}
use Rattle.qblocks.specs.File.{File, after_truncate, after_write, read_at}
use Rattle.qblocks.proofs.Touched.{after_write_none}
use Rattle.qplain.specs.declared.call.Call.{Call}
use Rattle.qplain.specs.declared.call.Call.TheVariants.{Create, Mkdir, Write, Truncate, Read, Chown, SetQuota, SetGrace, Quota as AskQuota}
use Rattle.qplain.specs.declared.owners.Owners.{Owners}
use Rattle.qplain.specs.declared.refusal.Refusal.TheVariants.{EEXIST, EISDIR, EACCES, EFBIG, EMLINK, EPERM, ESRCH}
use Rattle.qplain.specs.declared.reply.Reply.TheVariants.{Bytes, Done}
use Rattle.qplain.specs.Caller.{Caller, is_superuser}
use Rattle.qplain.specs.State.{Holder, Inode, State, inode_at, is_directory, named, new_directory, new_file}
use Rattle.qplain.specs.Use.{has_too_many_links}
use Rattle.qplain.specs.Known.{is_declared, is_holder}
use Rattle.qplain.specs.Attempt.{Attempt, Refuse, Answer, Becomes, no_change}
use Rattle.qplain.specs.Rights.{is_own, may_give, may_write}
use Rattle.qplain.specs.Files.{read_from, truncate_at, with_file, with_inode, write_into}
use Rattle.qplain.specs.Names.{create_as, created, mkdir_as, owners_by, unless_too_many_links}
use Rattle.qplain.specs.Owners.{chown_at, renewed, with_owners}
use Rattle.qplain.specs.Quotas.{quota_from, relimited, with_limits_of}
use Rattle.qplain.specs.Calls.{attempt_of}
use Rattle.qplain_laws.specs.Done.{HasDone, IsChanged, IsMade, LeadsTo}
use Rattle.qplain_laws.specs.Laws.{FitsTogether, IsLawful}
use Rattle.qplain_laws.proofs.Doing.{IsPlace, OnDone, at_path-done, in_parent-done, leads-place, pick, place-kept, unless_refused}
use Rattle.qplain_laws.proofs.Linking.{inode_at-created-next, inode_at-with_inode}
use Rattle.qplain_laws.proofs.Reaching.{directory-stays, keeps-created, named-new}
use Rattle.qplain_laws.proofs.Tables.{absent-fresh, at-itself}
use Rattle.qplain_laws.proofs.Trying.{none-from_not_some, true-from_not}

-- a write of nothing leaves the file
written-nothing : (file : File) (off : ℕ) (bytes : List ℕ) → (length bytes == 0) ≡ true → after_write file off bytes ≡ file
written-nothing file off bytes none = after_write_none file off bytes (grind (arith, tests, none))

-- the principal that is declared has the limits that are set
limits-set : (kind : Kind) (id : ℕ) (limits : Limits) (hs : List Holder) → list_any (is_holder kind id) hs ≡ true
    → option_map (λ h. h.limits) (find (is_holder kind id) (map (λ h. cond (is_holder kind id h) (relimited limits h) h) hs)) ≡ Some limits
limits-set kind id limits [] known = cc
limits-set kind id limits (h ∷ hs) known = by (limits-set kind id limits hs) (is_holder kind id h) refl known
  where
    f : Holder → Holder
    f g = cond (is_holder kind id g) (relimited limits g) g

    kept : (b : Bool) → is_holder kind id (cond b (relimited limits h) h) ≡ is_holder kind id h
    kept true = refl
    kept false = refl

    by : (list_any (is_holder kind id) hs ≡ true → option_map (λ g. g.limits) (find (is_holder kind id) (map f hs)) ≡ Some limits)
        → (b : Bool) → is_holder kind id h ≡ b → (b || list_any (is_holder kind id) hs) ≡ true
        → option_map (λ g. g.limits) (cond (is_holder kind id (f h)) (Some (f h)) (find (is_holder kind id) (map f hs))) ≡ Some limits
    by later true is e =
        let found : is_holder kind id (f h) ≡ true = kept (is_holder kind id h) ∙ is in
        (λ i. option_map (λ g. g.limits) (cond (found i) (Some (cond (is i) (relimited limits h) h)) (find (is_holder kind id) (map f hs))))
    by later false is e =
        let found : is_holder kind id (f h) ≡ false = kept (is_holder kind id h) ∙ is in
        (λ i. option_map (λ g. g.limits) (cond (found i) (Some (f h)) (find (is_holder kind id) (map f hs)))) ∙ later e

module _ (S : State) (cred : Caller) (lawful : IsLawful S) where
  fits : FitsTogether S
  fits = lawful.parts

  -- the fact of a call
  abbrev Has : Call → ℕ → State → Type 0
  Has call number T = HasDone cred S call number T

  -- ---- what is made

  made : (make : Owners → Inode) (path : List ℕ) (dir : ℕ) (name : List ℕ) → IsPlace S path dir name → is_directory S dir ≡ true
      → is_some (named S dir name) ≡ false → IsMade cred S (created S (make (owners_by S cred dir)) dir name) path S.next make
  made make path dir name place stands free =
      let inode : Inode = make (owners_by S cred dir) in
      let absent : named S dir name ≡ None = none-from_not_some (named S dir name) free in
      let T : State = created S inode dir name in
      let placed : IsPlace T path dir name =
      place-kept S T (λ n. false) (keeps-created S inode dir name fits stands absent) (λ m nm x e. absurd (cc)) path dir name refl
      (directory-stays S inode dir name fits stands absent dir stands) place in (
        leads-place T path dir name S.next placed (named-new S inode dir name fits stands absent),
        dir,
        place.parent,
        inode_at-created-next S inode dir name (absent-fresh S.inodes S.next fits.inodes.fresh),
      )

  pub create-done : (path : List ℕ) → OnDone (Has (Create path)) S (attempt_of S cred (Create path))
  create-done path =
      in_parent-done (Has (Create path)) S EEXIST (create_as S cred) path (λ dir name place stands.
      unless_refused (Has (Create path)) S (is_some (named S dir name)) EEXIST (Becomes (created S (new_file (owners_by S cred dir)) dir name) S.next) (λ free.
      made new_file path dir name place stands free))

  pub mkdir-done : (path : List ℕ) → OnDone (Has (Mkdir path)) S (attempt_of S cred (Mkdir path))
  mkdir-done path =
      in_parent-done (Has (Mkdir path)) S EEXIST (mkdir_as S cred) path (λ dir name place stands.
      let T : State = created S (new_directory (owners_by S cred dir)) dir name in
      unless_refused (Has (Mkdir path)) S (is_some (named S dir name)) EEXIST (unless_too_many_links T S.next) (λ free.
      unless_refused (Has (Mkdir path)) S (has_too_many_links T) EMLINK (Becomes T S.next) (λ few.
      made new_directory path dir name place stands free)))

  -- ---- what is changed

  changed : (path : List ℕ) (number : ℕ) (inode : Inode) (change : Inode → Inode) → LeadsTo S path number → inode_at S number ≡ Some inode
      → IsChanged S (with_inode S number (change inode)) path number change
  changed path number inode change leads there = (
    leads,
    inode,
    there,
    inode_at-with_inode S number inode (change inode) number there
        ∙ cond-true (is_at (nat_cmp number) number) (Some (change inode)) (inode_at S number) (at-itself number),
  )

  pub write-done : (path : List ℕ) (off : ℕ) (bytes : List ℕ) → OnDone (Has (Write path off bytes)) S (attempt_of S cred (Write path off bytes))
  write-done path off bytes =
      let P : ℕ → State → Type 0 = Has (Write path off bytes) in
      at_path-done P S (write_into S cred off bytes) path (λ number inode leads there.
      let becomes : Attempt = Becomes (with_file S number inode (after_write inode.file off bytes)) number in
      let few : Attempt = cond (nat_lt S.file_limit (off + length bytes)) (Refuse EFBIG) becomes in
      let some : Attempt = cond (length bytes == 0) (Answer (Done number no_change)) few in
      unless_refused P S inode.dir EISDIR (cond (not (may_write cred inode)) (Refuse EACCES) some) (λ file.
      unless_refused P S (not (may_write cred inode)) EACCES some (λ may.
      pick P S (length bytes == 0) (Answer (Done number no_change)) few
      (λ none n change is.
      let same : number ≡ n = cc in
      let left : Some inode ≡ Some (record inode { file = after_write inode.file off bytes }) =
      (λ i. Some (record inode { file = sym (written-nothing inode.file off bytes none) i })) in
      subst (λ m. HasDone cred S (Write path off bytes) m S) same (leads, inode, there, there ∙ left))
      (λ more.
      unless_refused P S (nat_lt S.file_limit (off + length bytes)) EFBIG becomes (λ below.
      changed path number inode (λ x. record x { file = after_write x.file off bytes }) leads there)))))

  pub truncate-done : (path : List ℕ) (size : ℕ) → OnDone (Has (Truncate path size)) S (attempt_of S cred (Truncate path size))
  truncate-done path size =
      let P : ℕ → State → Type 0 = Has (Truncate path size) in
      at_path-done P S (truncate_at S cred size) path (λ number inode leads there.
      let becomes : Attempt = Becomes (with_file S number inode (after_truncate inode.file size)) number in
      let few : Attempt = cond (nat_lt S.file_limit size) (Refuse EFBIG) becomes in
      unless_refused P S inode.dir EISDIR (cond (not (may_write cred inode)) (Refuse EACCES) few) (λ file.
      unless_refused P S (not (may_write cred inode)) EACCES few (λ may.
      unless_refused P S (nat_lt S.file_limit size) EFBIG becomes (λ below.
      changed path number inode (λ x. record x { file = after_truncate x.file size }) leads there))))

  pub chown-done : (path : List ℕ) (uid gid project : Option ℕ)
      → OnDone (Has (Chown path uid gid project)) S (attempt_of S cred (Chown path uid gid project))
  chown-done path uid gid project =
      let P : ℕ → State → Type 0 = Has (Chown path uid gid project) in
      at_path-done P S (chown_at S cred uid gid project) path (λ number inode leads there.
      unless_refused P S (not (may_give cred inode (renewed uid gid project inode.owners))) EPERM
      (Becomes (with_inode S number (with_owners inode (renewed uid gid project inode.owners))) number) (λ may.
      changed path number inode (λ x. with_owners x (renewed uid gid project x.owners)) leads there))

  -- ---- limits, graces and looks

  pub set_quota-done : (kind : Kind) (id : ℕ) (limits : Limits) → OnDone (Has (SetQuota kind id limits)) S (attempt_of S cred (SetQuota kind id limits))
  set_quota-done kind id limits =
      let P : ℕ → State → Type 0 = Has (SetQuota kind id limits) in
      let becomes : Attempt = Becomes (with_limits_of S kind id limits) 0 in
      unless_refused P S (not (is_superuser cred)) EPERM (cond (not (is_declared S kind id)) (Refuse ESRCH) becomes) (λ may.
      unless_refused P S (not (is_declared S kind id)) ESRCH becomes (λ known.
      limits-set kind id limits S.holders (true-from_not (is_declared S kind id) known)))

  pub set_grace-done : (graces : Graces) → OnDone (Has (SetGrace graces)) S (attempt_of S cred (SetGrace graces))
  set_grace-done graces =
      unless_refused (Has (SetGrace graces)) S (not (is_superuser cred)) EPERM (Becomes (record S { graces = graces }) 0) (λ may. refl)

  pub read-done : (path : List ℕ) (off len : ℕ) → OnDone (Has (Read path off len)) S (attempt_of S cred (Read path off len))
  read-done path off len =
      at_path-done (Has (Read path off len)) S (read_from off len) path (λ number inode leads there.
      unless_refused (Has (Read path off len)) S inode.dir EISDIR (Answer (Bytes (read_at inode.file off len))) (λ file n change is. cc))

  quota-answered : (kind : Kind) (id : ℕ) (o : Option Holder) → OnDone (Has (AskQuota kind id)) S (quota_from S o)
  quota-answered kind id None = tt
  quota-answered kind id (Some h) = λ n change is. cc

  pub ask_quota-done : (kind : Kind) (id : ℕ) → OnDone (Has (AskQuota kind id)) S (attempt_of S cred (AskQuota kind id))
  ask_quota-done kind id =
      unless_refused (Has (AskQuota kind id)) S (not (is_superuser cred || is_own cred kind id)) EPERM (quota_from S (find (is_holder kind id) S.holders))
      (λ may. quota-answered kind id (find (is_holder kind id) S.holders))
