-- What is done by link, unlink, rmdir and rename.
use Rattle.std.proofs.Common.{◌≡◌, ℕ, ◌==◌, Bool, true, false, not, ◌&&◌, cond, List, Option, Some, None, is_some, refl, ap, subst, ◌∙◌, tests, arith, inl, inr}
use Rattle.std.specs.BTreeMap.{is_at}
use Rattle.std.specs.List.Sorted.{IsStrictlySortedBy}
use Rattle.std.specs.Map.{keys_of, lookup, remove_entry}
use Rattle.std.proofs.lemmas.Map.{lookup-remove_entry}
use Rattle.std.proofs.lemmas.Map.Keys.{IsDistinct-from_sorted}
use Rattle.qplain.specs.declared.bounds.TheConstants.{ROOT}
use Rattle.qplain_laws.proofs.Orders.{sorted-remove}
use Rattle.qplain_laws.proofs.Fitting.{not_both}
use Rattle.qplain_laws.proofs.Reaching.{walk-kept}
use Rattle.std.proofs.lemmas.Bool.{and_left, and_right, cond-false, cond-true}
use Rattle.qplain.specs.declared.call.Call.{Call}
use Rattle.qplain.specs.declared.call.Call.TheVariants.{Link, Unlink, Rmdir, Rename}
use Rattle.qplain.specs.declared.refusal.Refusal.TheVariants.{EBUSY, EINVAL, ENOTDIR, ENOTEMPTY, EEXIST, EISDIR, EMLINK, EPERM}
use Rattle.qplain.specs.declared.reply.Reply.TheVariants.{Done}
use Rattle.qplain.specs.Caller.{Caller}
use Rattle.qplain.specs.State.{Inode, NameKey, State, inode_at, is_directory, name_key_cmp, named}
use Rattle.qplain.specs.Use.{has_too_many_links, is_empty}
use Rattle.qplain.specs.Walk.{components}
use Rattle.qplain.specs.Attempt.{Attempt, Refuse, Answer, Becomes, no_change}
use Rattle.qplain.specs.Rights.{may_remove}
use Rattle.qplain.specs.Names.{link_as, link_to, rmdir_as, rmdir_at, swept, unless_too_many_links, unlink_as, unlink_at, with_name, without_name}
use Rattle.qplain.specs.Renames.{meets, passes, rename_as, rename_from, rename_to, renamed}
use Rattle.qplain.specs.Calls.{attempt_of}
use Rattle.qplain_laws.specs.Done.{HasDone, HasLeft, LeadsNowhere, LeadsTo}
use Rattle.qplain_laws.specs.Laws.{FitsTogether, IsLawful}
use Rattle.qplain_laws.proofs.Doing.{IsPlace, OnDone, at_name-done, at_path-done, in_parent-done, leads-no_place, leads-place, pick, place-kept, unless_refused}
use Rattle.qplain_laws.proofs.Finding.{name-laws, same-key}
use Rattle.qplain_laws.proofs.Moving.{named-renamed, parent-renamed}
use Rattle.qplain_laws.proofs.Leaving.{dead-removed, directory-left, keeps-removed, not-in}
use Rattle.qplain_laws.proofs.Reaching.{keeps-linked}
use Rattle.qplain_laws.proofs.Sweeping.{named-without}
use Rattle.qplain_laws.proofs.Tables.{lookup-insert_new, name_key_total}
use Rattle.qplain_laws.proofs.Trying.{none-from_not_some}

-- without a key, what was not there is not there
remove-absent : (es : List (NameKey × ℕ)) (k q : NameKey) → IsStrictlySortedBy name_key_cmp (keys_of es) → lookup (is_at (name_key_cmp q)) es ≡ None
    → lookup (is_at (name_key_cmp q)) (remove_entry (is_at (name_key_cmp k)) es) ≡ None
remove-absent es k q sorted none =
    lookup-remove_entry name-laws (is_at (name_key_cmp k)) (λ x y e. name-laws.congr k x y e) q es (IsDistinct-from_sorted name_key_cmp (keys_of es) sorted)
    ∙ ap (cond (is_at (name_key_cmp k) q) None) none ∙ either (is_at (name_key_cmp k) q)
  where
    either : (b : Bool) → ◌≡◌ {A = Option ℕ} (cond b None None) None
    either true = refl
    either false = refl

-- nor is the key's own
pub remove-itself : (es : List (NameKey × ℕ)) (k : NameKey) → IsStrictlySortedBy name_key_cmp (keys_of es)
    → lookup (is_at (name_key_cmp k)) (remove_entry (is_at (name_key_cmp k)) es) ≡ None
remove-itself es k sorted =
    lookup-remove_entry name-laws (is_at (name_key_cmp k)) (λ x y e. name-laws.congr k x y e) k es (IsDistinct-from_sorted name_key_cmp (keys_of es) sorted)
    ∙ cond-true (is_at (name_key_cmp k) k) None (lookup (is_at (name_key_cmp k)) es) (name-laws.refl k)

-- a name that passes the test for a number leads to it
passes-number : (number : ℕ) (o : Option ℕ) → passes (λ n. n == number) o ≡ true → o ≡ Some number
passes-number number None h = cc
passes-number number (Some n) h = let same : n ≡ number = grind (arith, tests, h) in ap (λ m. Some m) same

module _ (S : State) (cred : Caller) (lawful : IsLawful S) where
  fits : FitsTogether S
  fits = lawful.parts

  -- the fact of a call
  abbrev Has : Call → ℕ → State → Type 0
  Has call number T = HasDone cred S call number T

  -- ---- names that come and go

  -- a path leads where it led under a further name
  further-kept : (dir : ℕ) (name : List ℕ) (number : ℕ) → named S dir name ≡ None → (path : List ℕ) (q : ℕ) → LeadsTo S path q
      → LeadsTo (with_name S dir name number) path q
  further-kept dir name number absent path q leads =
      walk-kept S (with_name S dir name number) (λ n. false) (keeps-linked S dir name number absent) (λ m nm x e. absurd (cc))
      ROOT (components path) q leads refl

  pub link-done : (from to : List ℕ) → OnDone (Has (Link from to)) S (attempt_of S cred (Link from to))
  link-done from to =
      let P : ℕ → State → Type 0 = Has (Link from to) in
      at_path-done P S (link_to S to) from (λ number inode leads there.
      in_parent-done P S EEXIST (link_as S number inode) to (λ dir name place stands.
      let T : State = with_name S dir name number in
      unless_refused P S inode.dir EPERM (cond (is_some (named S dir name)) (Refuse EEXIST) (unless_too_many_links T number)) (λ file.
      unless_refused P S (is_some (named S dir name)) EEXIST (unless_too_many_links T number) (λ free.
      unless_refused P S (has_too_many_links T) EMLINK (Becomes T number) (λ few.
      let absent : named S dir name ≡ None = none-from_not_some (named S dir name) free in
      let led : named T dir name ≡ Some number =
      lookup-insert_new name_key_total S.names (dir, name) number (dir, name) absent
      ∙ cond-true (is_at (name_key_cmp (dir, name)) (dir, name)) (Some number) (named S dir name) (name-laws.refl (dir, name)) in (
        leads,
        further-kept dir name number absent from number leads,
        leads-place T to dir name number
            (place-kept S T (λ n. false) (keeps-linked S dir name number absent) (λ m nm x e. absurd (cc)) to dir name refl stands place) led,
      ))))))

  removed : (path : List ℕ) (dir : ℕ) (name : List ℕ) (number : ℕ) (inode : Inode) → IsPlace S path dir name → is_directory S dir ≡ true
      → named S dir name ≡ Some number → inode_at S number ≡ Some inode → (inode.dir && not (is_empty S number)) ≡ false
      → LeadsTo S path number × LeadsNowhere (swept (without_name S dir name)) path
  removed path dir name number inode place stands led there empty =
      let T : State = swept (without_name S dir name) in
      let apart : (number == dir) ≡ false = not-in S dir name number inode fits led there empty dir name number led in
      let placed : IsPlace T path dir name =
      place-kept S T (λ n. number == n) (keeps-removed S dir name number inode fits led there empty) (dead-removed S dir name number inode fits led there empty)
      path dir name apart (directory-left S dir name number inode fits led there empty dir stands apart) place in
      let gone : named T dir name ≡ None =
      named-without S dir name number led dir name fits.names.in_order
      ∙ cond-true (is_at (name_key_cmp (dir, name)) (dir, name)) None (named S dir name) (name-laws.refl (dir, name)) in
      (leads-place S path dir name number place led, leads-no_place T path dir name placed gone)

  pub unlink-done : (path : List ℕ) → OnDone (Has (Unlink path)) S (attempt_of S cred (Unlink path))
  unlink-done path =
      let P : ℕ → State → Type 0 = Has (Unlink path) in
      in_parent-done P S EISDIR (unlink_as S cred) path (λ dir name place stands.
      at_name-done P S (unlink_at S cred dir name) dir name (λ number inode led there.
      let becomes : Attempt = Becomes (swept (without_name S dir name)) number in
      unless_refused P S inode.dir EISDIR (cond (not (may_remove S cred dir number)) (Refuse EPERM) becomes) (λ file.
      unless_refused P S (not (may_remove S cred dir number)) EPERM becomes (λ may.
      removed path dir name number inode place stands led there (and_left inode.dir (not (is_empty S number)) file)))))

  pub rmdir-done : (path : List ℕ) → OnDone (Has (Rmdir path)) S (attempt_of S cred (Rmdir path))
  rmdir-done path =
      let P : ℕ → State → Type 0 = Has (Rmdir path) in
      in_parent-done P S EBUSY (rmdir_as S cred) path (λ dir name place stands.
      at_name-done P S (rmdir_at S cred dir name) dir name (λ number inode led there.
      let becomes : Attempt = Becomes (swept (without_name S dir name)) number in
      let empties : Attempt = cond (not (is_empty S number)) (Refuse ENOTEMPTY) becomes in
      unless_refused P S (not inode.dir) ENOTDIR (cond (not (may_remove S cred dir number)) (Refuse EPERM) empties) (λ directory.
      unless_refused P S (not (may_remove S cred dir number)) EPERM empties (λ may.
      unless_refused P S (not (is_empty S number)) ENOTEMPTY becomes (λ empty.
      removed path dir name number inode place stands led there (and_right inode.dir (not (is_empty S number)) empty))))))

  -- the first name of a rename is there no more
  unnamed : (dir : ℕ) (name : List ℕ) (number to_dir : ℕ) (to_name : List ℕ) → named S dir name ≡ Some number
      → passes (λ n. n == number) (named S to_dir to_name) ≡ false → named (renamed S dir name to_dir to_name number) dir name ≡ None
  unnamed dir name number to_dir to_name led other =
      let U : State = without_name S dir name in
      let V : State = without_name U to_dir to_name in
      let sorted_U : IsStrictlySortedBy name_key_cmp (keys_of U.names) =
      sorted-remove name_key_cmp (is_at (name_key_cmp (dir, name))) S.names fits.names.in_order in
      let in_U : named U dir name ≡ None =
      named-without S dir name number led dir name fits.names.in_order
      ∙ cond-true (is_at (name_key_cmp (dir, name)) (dir, name)) None (named S dir name) (name-laws.refl (dir, name)) in
      let in_V : named V dir name ≡ None = remove-absent U.names (to_dir, to_name) (dir, name) sorted_U in_U in
      let free : named V to_dir to_name ≡ None = remove-itself U.names (to_dir, to_name) sorted_U in
      let apart : is_at (name_key_cmp (dir, name)) (to_dir, to_name) ≡ false =
      not_both (is_at (name_key_cmp (dir, name)) (to_dir, to_name)) (λ same.
      let it : named S to_dir to_name ≡ Some number = same-key name-laws (dir, name) (to_dir, to_name) same S.names ∙ led in
      let itself : (number == number) ≡ true = grind (arith, tests) in
      let yes : passes (λ n. n == number) (named S to_dir to_name) ≡ true = ap (passes (λ n. n == number)) it ∙ itself in
      cc) in
      lookup-insert_new name_key_total V.names (to_dir, to_name) number (dir, name) free
      ∙ cond-false (is_at (name_key_cmp (dir, name)) (to_dir, to_name)) (Some number) (named V dir name) apart ∙ in_V

  -- so the first path's last name has left its directory
  left : (path : List ℕ) (dir : ℕ) (name : List ℕ) → IsPlace S path dir name → (T : State) → named T dir name ≡ None → HasLeft S T path
  left path dir name place T none d nm placed last =
      let same_dir : dir ≡ d = cc in
      let same_name : name ≡ nm = cc in
      subst (λ (n : ℕ). named T n nm ≡ None) same_dir (subst (λ (n : List ℕ). named T dir n ≡ None) same_name none)

  pub rename-done : (from to : List ℕ) → OnDone (Has (Rename from to)) S (attempt_of S cred (Rename from to))
  rename-done from to =
      let P : ℕ → State → Type 0 = Has (Rename from to) in
      in_parent-done P S EBUSY (rename_from S cred to) from (λ dir name place from_stands.
      at_name-done P S (rename_to S cred to dir name) dir name (λ number inode led there.
      in_parent-done P S EBUSY (rename_as S cred to dir name number inode) to (λ to_dir to_name to_place stands.
      let leads : LeadsTo S from number = leads-place S from dir name number place led in
      let names : List (List ℕ) = components to in
      let target : Option ℕ = named S to_dir to_name in
      let T : State = renamed S dir name to_dir to_name number in
      let becomes : Attempt = unless_too_many_links T number in
      let empties : Attempt = cond (passes (λ n. not (is_empty S n)) target) (Refuse ENOTEMPTY) becomes in
      let replaces : Attempt = cond (passes (λ n. not (may_remove S cred to_dir n)) target) (Refuse EPERM) empties in
      let moves : Attempt = cond (not (may_remove S cred dir number)) (Refuse EPERM) replaces in
      let file_too : Attempt = cond (not inode.dir && passes (λ n. is_directory S n) target) (Refuse EISDIR) moves in
      let dir_too : Attempt = cond (inode.dir && passes (λ n. not (is_directory S n)) target) (Refuse ENOTDIR) file_too in
      let apart : Attempt = cond (inode.dir && meets S names number) (Refuse EINVAL) dir_too in
      pick P S (passes (λ n. n == number) target) (Answer (Done number no_change)) apart
      (λ at n change is.
      let same : number ≡ n = cc in
      let again : LeadsTo S to number = leads-place S to to_dir to_name number to_place (passes-number number target at) in
      subst (λ m. HasDone cred S (Rename from to) m S) same (leads, again, inl again))
      (λ other.
      unless_refused P S (inode.dir && meets S names number) EINVAL dir_too (λ outside.
      unless_refused P S (inode.dir && passes (λ n. not (is_directory S n)) target) ENOTDIR file_too (λ a.
      unless_refused P S (not inode.dir && passes (λ n. is_directory S n) target) EISDIR moves (λ b.
      unless_refused P S (not (may_remove S cred dir number)) EPERM replaces (λ may.
      unless_refused P S (passes (λ n. not (may_remove S cred to_dir n)) target) EPERM empties (λ may_too.
      unless_refused P S (passes (λ n. not (is_empty S n)) target) ENOTEMPTY becomes (λ empty.
      unless_refused P S (has_too_many_links T) EMLINK (Becomes T number) (λ few.
      let placed : IsPlace T to to_dir to_name = record {
        parent = parent-renamed S names dir name number inode to_dir to_name fits to_place.parent outside led there stands other empty;
        last = to_place.last;
      } in (
        leads,
        leads-place T to to_dir to_name number placed
            (named-renamed S names dir name number inode to_dir to_name fits to_place.parent outside led there stands other empty),
        inr (left from dir name place T (unnamed dir name number to_dir to_name led other)),
      ))))))))))))
