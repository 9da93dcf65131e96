-- A name in place of another: its tests, and which links are asked.
use Rattle.std.proofs.Common.{◌≡◌, ℕ, ◌+◌, ◌≤◌, ◌==◌, Bool, true, false, not, ◌&&◌, cond, nat_lt, is_some, List, Option, Some, None, refl, sym, ap, subst, ◌∙◌, arith, tests}
use Rattle.std.specs.Option.{IsSome}
use Rattle.qplain.specs.declared.bounds.TheConstants.{MAX_LINKS}
use Rattle.qplain.specs.declared.refusal.Refusal.{Refusal}
use Rattle.qplain.specs.declared.refusal.Refusal.TheVariants.{EINVAL, EISDIR, EMLINK, ENOTDIR, ENOTEMPTY, EPERM}
use Rattle.qplain.specs.declared.reply.Reply.TheVariants.{Done}
use Rattle.qplain.specs.Attempt.{Answer, Attempt, Becomes, Refuse, no_change}
use Rattle.qplain.specs.Caller.{Caller}
use Rattle.qplain.specs.Renames.{meets, passes, rename_over, renamed}
use Rattle.qplain.specs.Rights.{may_remove}
use Rattle.qplain.specs.State.{Inode, State, inode_at, is_dir, is_directory, named}
use Rattle.qplain.specs.Use.{has_too_many_links, is_empty, links_of}
use Rattle.qplain_laws.specs.Laws.{IsLawful}
use Rattle.qplain_laws.proofs.Bounding.{links-bounded, too_many-renamed}
use Rattle.qplain_laws.proofs.Relinking.{links_of-moved-file, links_of-moved-to, links_of-moved-within}
use Rattle.qstore_tree.proofs.Directories.{directory-there}
use Rattle.qstore_walk.specs.Faults.{adds_too_many, rename_fault}

-- ---- the links that are asked

module _ (S : State) (lawful : IsLawful S) (dir : ℕ) (name : List ℕ) (number : ℕ) (inode parent : Inode) (to_dir : ℕ) (to_name : List ℕ)
    (led : named S dir name ≡ Some number) (there : inode_at S number ≡ Some inode) (there_too : inode_at S to_dir ≡ Some parent)
    (directory : parent.dir ≡ true) (other : passes (λ n. n == number) (named S to_dir to_name) ≡ false)
    (empty : passes (λ n. not (is_empty S n)) (named S to_dir to_name) ≡ false) where
  abbrev M1 : State
  M1 = renamed S dir name to_dir to_name number

  stands : is_directory S to_dir ≡ true
  stands = ap is_dir there_too ∙ directory

  few : links_of S to_dir true ≤ MAX_LINKS
  few = let bound = links-bounded S to_dir parent lawful there_too in
      let same : links_of S to_dir parent.dir ≡ links_of S to_dir true = ap (links_of S to_dir) directory in
      omega (arith, bound, same)

  no-more : links_of M1 to_dir true ≤ links_of S to_dir true → nat_lt MAX_LINKS (links_of M1 to_dir true) ≡ false
  no-more l = let f = few in grind (arith, tests, l, f)

  -- only a directory that comes to another directory, in place of nothing, makes a link more: one of the directory's that
  -- it comes to
  pub rename-many : (links : ℕ) → links ≡ links_of S to_dir true
      → (inode.dir && passes (λ n. not (is_directory S n)) (named S to_dir to_name)) ≡ false
      → (not inode.dir && passes (λ n. is_directory S n) (named S to_dir to_name)) ≡ false
      → has_too_many_links (renamed S dir name to_dir to_name number)
      ≡ (inode.dir && (not (dir == to_dir) && (not (is_some (named S to_dir to_name)) && nat_lt MAX_LINKS (links + 1))))
  rename-many links counted onto_directory onto_file =
      too_many-renamed S dir name number inode parent to_dir to_name lawful.parts led there there_too directory other empty
      ∙ by inode.dir refl (dir == to_dir) refl (named S to_dir to_name) refl onto_directory onto_file
    where
      by : (b : Bool) → inode.dir ≡ b → (h : Bool) → (dir == to_dir) ≡ h → (o : Option ℕ) → named S to_dir to_name ≡ o
          → (b && passes (λ n. not (is_directory S n)) o) ≡ false → (not b && passes (λ n. is_directory S n) o) ≡ false
          → nat_lt MAX_LINKS (links_of M1 to_dir true) ≡ (b && (not h && (not (is_some o) && nat_lt MAX_LINKS (links + 1))))
      by false file h same o at onto none =
          let kept = links_of-moved-file S dir name number inode to_dir to_name lawful.parts led there stands other empty to_dir file
          (ap (passes (λ n. is_directory S n)) at ∙ none) in
          no-more (omega (arith, kept))
      by true is true same o at onto none =
          let here : dir ≡ to_dir = grind (arith, tests, same) in
          let less = links_of-moved-within S dir name number inode to_dir to_name lawful.parts led there stands other empty is here in
          no-more (omega (arith, less))
      by true is false apart None at onto none =
          let more = links_of-moved-to S dir name number inode to_dir to_name lawful.parts led there stands other empty is apart in
          let nothing : ◌≡◌ {A = ℕ} (cond (passes (λ n. is_directory S n) (named S to_dir to_name)) 1 0) 0 =
          ap (λ o. cond (passes (λ n. is_directory S n) o) 1 0) at in
          let one : links_of M1 to_dir true ≡ links + 1 = omega (arith, more, nothing, counted) in
          ap (nat_lt MAX_LINKS) one
      by true is false apart (Some t) at onto none =
          let more = links_of-moved-to S dir name number inode to_dir to_name lawful.parts led there stands other empty is apart in
          let target : is_directory S t ≡ true = true-from (is_directory S t) onto in
          let one : ◌≡◌ {A = ℕ} (cond (passes (λ n. is_directory S n) (named S to_dir to_name)) 1 0) 1 =
          ap (λ o. cond (passes (λ n. is_directory S n) o) 1 0) at ∙ ap (λ b. cond b 1 0) target in
          no-more (omega (arith, more, one))
        where
          true-from : (b : Bool) → not b ≡ false → b ≡ true
          true-from true h = refl
          true-from false h = cc

-- ---- the tests

-- what a fault, or none, says of the attempt, by what it comes to without one
abbrev Told : State → ℕ → Option Refusal → Attempt → Type 0
Told after number (Some refusal) attempt = attempt ≡ Refuse refusal
Told after number None attempt = attempt ≡ Becomes after number

module _ (S : State) (lawful : IsLawful S) (cred : Caller) (to : List (List ℕ)) (dir : ℕ) (name : List ℕ) (number : ℕ) (inode parent : Inode)
    (to_dir : ℕ) (to_name : List ℕ) (led : named S dir name ≡ Some number) (there : inode_at S number ≡ Some inode)
    (there_too : inode_at S to_dir ≡ Some parent) (directory : parent.dir ≡ true)
    (other : passes (λ n. n == number) (named S to_dir to_name) ≡ false) where
  -- what the tests make of what they ask
  abbrev fault_by : Bool → Bool → Bool → Bool → Bool → Bool → Bool → Option Refusal
  fault_by below onto_file onto_directory may kept full many =
      cond below (Some EINVAL) (cond onto_file (Some ENOTDIR) (cond onto_directory (Some EISDIR) (cond (not may) (Some EPERM)
      (cond kept (Some EPERM) (cond full (Some ENOTEMPTY) (cond many (Some EMLINK) None))))))

  abbrev attempt_by : Bool → Bool → Bool → Bool → Bool → Bool → Bool → Bool → Attempt
  attempt_by same below onto_file onto_directory may kept full many =
      cond same (Answer (Done number no_change)) (cond below (Refuse EINVAL) (cond onto_file (Refuse ENOTDIR) (cond onto_directory (Refuse EISDIR)
      (cond (not may) (Refuse EPERM) (cond kept (Refuse EPERM) (cond full (Refuse ENOTEMPTY)
      (cond many (Refuse EMLINK) (Becomes (renamed S dir name to_dir to_name number) number))))))))

  told : (below onto_file onto_directory may kept full many many_too : Bool)
      → (onto_file ≡ false → onto_directory ≡ false → full ≡ false → many_too ≡ many)
      → Told (renamed S dir name to_dir to_name number) number (fault_by below onto_file onto_directory may kept full many)
      (attempt_by false below onto_file onto_directory may kept full many_too)
  told true a b may kept full many many_too same = refl
  told false true b may kept full many many_too same = refl
  told false false true may kept full many many_too same = refl
  told false false false false kept full many many_too same = refl
  told false false false true true full many many_too same = refl
  told false false false true false true many many_too same = refl
  told false false false true false false true many_too same = ap (attempt_by false false false false true false false) (same refl refl refl)
  told false false false true false false false many_too same = ap (attempt_by false false false false true false false) (same refl refl refl)

  -- what the tests of the store say of the attempt
  pub rename-told : Told (renamed S dir name to_dir to_name number) number (rename_fault S cred to dir number inode.dir to_dir (named S to_dir to_name))
      (rename_over S cred to dir name number inode to_dir to_name (named S to_dir to_name))
  rename-told =
      subst (λ b. Told (renamed S dir name to_dir to_name number) number (rename_fault S cred to dir number inode.dir to_dir (named S to_dir to_name))
      (attempt_by b (inode.dir && meets S to number) (inode.dir && passes (λ n. not (is_directory S n)) (named S to_dir to_name))
      (not inode.dir && passes (λ n. is_directory S n) (named S to_dir to_name)) (may_remove S cred dir number)
      (passes (λ n. not (may_remove S cred to_dir n)) (named S to_dir to_name)) (passes (λ n. not (is_empty S n)) (named S to_dir to_name))
      (has_too_many_links (renamed S dir name to_dir to_name number)))) (sym other)
      (told (inode.dir && meets S to number) (inode.dir && passes (λ n. not (is_directory S n)) (named S to_dir to_name))
      (not inode.dir && passes (λ n. is_directory S n) (named S to_dir to_name)) (may_remove S cred dir number)
      (passes (λ n. not (may_remove S cred to_dir n)) (named S to_dir to_name)) (passes (λ n. not (is_empty S n)) (named S to_dir to_name))
      (adds_too_many S dir inode.dir to_dir (named S to_dir to_name)) (has_too_many_links (renamed S dir name to_dir to_name number))
      (λ onto_file onto_directory full.
      rename-many S lawful dir name number inode parent to_dir to_name led there there_too directory other full (links_of S to_dir true) refl
      onto_file onto_directory))

module _ (S : State) (lawful : IsLawful S) (cred : Caller) (to : List (List ℕ)) (dir : ℕ) (name : List ℕ) (number : ℕ) (inode found : Inode)
    (to_dir : ℕ) (to_name : List ℕ) (target : Option ℕ) (led : named S dir name ≡ Some number) (there : inode_at S number ≡ Some inode)
    (found_there : inode_at S number ≡ Some found) (stands : is_directory S to_dir ≡ true) (leads_to : target ≡ named S to_dir to_name)
    (other : passes (λ n. n == number) target ≡ false) where
  abbrev Attempted : Attempt
  Attempted = rename_over S cred to dir name number inode to_dir to_name (named S to_dir to_name)

  -- what the store's own tests say, asked of what it found
  asked-told : (o : Option Refusal) → rename_fault S cred to dir number found.dir to_dir target ≡ o
      → Told (renamed S dir name to_dir to_name number) number o Attempted
  asked-told o fault =
      let parent = directory-there (inode_at S to_dir) stands in
      let both : Some inode ≡ Some found = sym there ∙ found_there in
      let same : inode ≡ found = cc in
      subst (λ (p : Option Refusal). Told (renamed S dir name to_dir to_name number) number p Attempted)
      ((λ i. rename_fault S cred to dir number (same i).dir to_dir (sym leads_to i)) ∙ fault)
      (rename-told S lawful cred to dir name number inode parent.inode to_dir to_name led there parent.there parent.directory
      (ap (passes (λ n. n == number)) (sym leads_to) ∙ other))

  -- a fault is the refusal
  pub rename-refused : (refusal : Refusal) → rename_fault S cred to dir number found.dir to_dir target ≡ Some refusal → Attempted ≡ Refuse refusal
  rename-refused refusal fault = asked-told (Some refusal) fault

  -- with none the inode is to have the other name
  pub rename-becomes : rename_fault S cred to dir number found.dir to_dir target ≡ None
      → Attempted ≡ Becomes (renamed S dir name to_dir to_name number) number
  rename-becomes fault = asked-told None fault

-- onto the inode itself nothing is done
pub rename-own : (S : State) (cred : Caller) (to : List (List ℕ)) (dir : ℕ) (name : List ℕ) (number : ℕ) (inode : Inode) (to_dir : ℕ) (to_name : List ℕ)
    → passes (λ n. n == number) (named S to_dir to_name) ≡ true
    → rename_over S cred to dir name number inode to_dir to_name (named S to_dir to_name) ≡ Answer (Done number no_change)
rename-own S cred to dir name number inode to_dir to_name own = rw own refl

-- what is there is an inode
pub some-inode : (o : Option Inode) → IsSome o → (inode : Inode) × o ≡ Some inode
some-inode None some = cc
some-inode (Some inode) some = (inode, refl)

-- where all tests are passed, so are those of what is replaced
pub tests-passed : (S : State) (cred : Caller) (to : List (List ℕ)) (dir number : ℕ) (is_dir : Bool) (to_dir : ℕ) (target : Option ℕ)
    → rename_fault S cred to dir number is_dir to_dir target ≡ None
    → ((is_dir && passes (λ n. not (is_directory S n)) target) ≡ false) × ((not is_dir && passes (λ n. is_directory S n) target) ≡ false)
    × (passes (λ n. not (is_empty S n)) target ≡ false)
tests-passed S cred to dir number is_dir to_dir target fault =
    by (is_dir && meets S to number) (is_dir && passes (λ n. not (is_directory S n)) target) (not is_dir && passes (λ n. is_directory S n) target)
    (not (may_remove S cred dir number)) (passes (λ n. not (may_remove S cred to_dir n)) target) (passes (λ n. not (is_empty S n)) target)
    (adds_too_many S dir is_dir to_dir target) fault
  where
    by : (below onto_file onto_directory may_not kept full many : Bool)
        → ◌≡◌ {A = Option Refusal} (cond below (Some EINVAL) (cond onto_file (Some ENOTDIR) (cond onto_directory (Some EISDIR)
        (cond may_not (Some EPERM) (cond kept (Some EPERM) (cond full (Some ENOTEMPTY) (cond many (Some EMLINK) None))))))) None
        → (onto_file ≡ false) × (onto_directory ≡ false) × (full ≡ false)
    by true a b p k e m fault = cc
    by false true b p k e m fault = cc
    by false false true p k e m fault = cc
    by false false false true k e m fault = cc
    by false false false false true e m fault = cc
    by false false false false false true m fault = cc
    by false false false false false false m fault = (refl, refl, refl)
