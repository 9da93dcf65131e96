-- Names stay names: the parts of a path are, which a call is not refused for.
use Rattle.std.proofs.Common.{◌≡◌, ◌⊎◌, ℕ, ◌≤◌, Bool, true, false, nat_le, nat_lt, cond, List, [], ◌∷◌, length, take, drop, Some, inl, inr, refl, sym, subst, ◌∙◌, codes, arith, tests, ⊎_elim}
use Rattle.std.specs.List.{AllByRecursion, list_all, list_any, onto_first, slice_split}
use Rattle.std.specs.BTreeMap.{is_at}
use Rattle.std.proofs.lemmas.Bool.{and_parts, or_parts}
use Rattle.std.proofs.lemmas.List.Elements.{All-from_recursion, All-weaker}
use Rattle.qplain.specs.declared.bounds.TheConstants.{MAX_NAME, MAX_PATH}
use Rattle.qplain.specs.declared.call.Call.{Call}
use Rattle.qplain.specs.declared.call.Call.TheVariants.{Create, Mkdir, Write, Truncate, Read, Stat as AskStat, Link, Unlink, Rmdir, Rename, Chown, SetQuota, SetGrace, Quota as AskQuota}
use Rattle.qplain.specs.Caller.{Caller}
use Rattle.qplain.specs.Calls.{IsCall, paths_of}
use Rattle.qplain.specs.Paths.{ArePathBytes, is_path_byte}
use Rattle.qplain.specs.State.{NameKey, State, name_key_cmp, named}
use Rattle.qplain.specs.Step.{step}
use Rattle.qplain.specs.Walk.{components, is_name, is_slash, is_text, is_too_long, is_well_formed, last_name}
use Rattle.qplain_laws.specs.Changes.{changed_paths}
use Rattle.qplain_laws.specs.Laws.{IsLawful}
use Rattle.qplain_laws.specs.PathNames.{AreNamed, IsPathName, NamesStayNames}
use Rattle.qplain_laws.proofs.Becoming.{HasGoodArguments}
use Rattle.qplain_laws.proofs.Finding.{each-found-by, found-key}
use Rattle.qplain_laws.proofs.Lawful.{steps_stay_lawful}
use Rattle.qplain_laws.proofs.NamesApart.{Apart, key-name}
use Rattle.qplain_laws.proofs.OtherNames.{other_names_stay}
use Rattle.qplain_laws.proofs.Settling.{step-passed}
use Rattle.qplain_laws.proofs.Tables.{name_key_total}

-- ---- the parts of a path

-- bytes that print, with no slash
abbrev IsPart : List ℕ → Type 0
IsPart part = (list_all is_path_byte part ≡ true) × (list_any is_slash part ≡ false)

onto-parts : (x : ℕ) (parts : List (List ℕ)) → is_path_byte x ≡ true → is_slash x ≡ false → AllByRecursion IsPart parts
    → AllByRecursion IsPart (onto_first x parts)
onto-parts x [] prints other all = ((rw prints refl, rw other refl), tt)
onto-parts x (part ∷ parts) prints other all = ((rw prints all.0.0, rw other all.0.1), all.1)

split-parts : (bytes : List ℕ) → list_all is_path_byte bytes ≡ true → AllByRecursion IsPart (slice_split is_slash bytes)
split-parts [] prints = ((refl, refl), tt)
split-parts (b ∷ bytes) prints =
    let both = and_parts (is_path_byte b) (list_all is_path_byte bytes) prints in
    by both.0 (split-parts bytes both.1) (is_slash b) refl
  where
    by : is_path_byte b ≡ true → AllByRecursion IsPart (slice_split is_slash bytes) → (c : Bool) → is_slash b ≡ c
        → AllByRecursion IsPart (cond c ([] ∷ slice_split is_slash bytes) (onto_first b (slice_split is_slash bytes)))
    by prints rest true e = ((refl, refl), rest)
    by prints rest false e = onto-parts b (slice_split is_slash bytes) prints e rest

components-parts : (path : List ℕ) → list_all is_path_byte path ≡ true → AllByRecursion IsPart (components path)
components-parts path prints = by (is_text (codes "/") path) (slice_split is_slash path) (split-parts path prints)
  where
    by : (root : Bool) (parts : List (List ℕ)) → AllByRecursion IsPart parts → AllByRecursion IsPart (cond root [] (drop 1 parts))
    by true parts all = tt
    by false [] all = tt
    by false (part ∷ parts) all = all.1

-- ---- the names of a path

-- parts that are names, and not too long
names-of : (parts : List (List ℕ)) → AllByRecursion IsPart parts → list_all is_name parts ≡ true
    → list_any (λ part. nat_lt MAX_NAME (length part)) parts ≡ false → AllByRecursion IsPathName parts
names-of [] are own short = tt
names-of (part ∷ parts) are own short =
    let owns = and_parts (is_name part) (list_all is_name parts) own in
    let shorts = or_parts (nat_lt MAX_NAME (length part)) (list_any (λ p. nat_lt MAX_NAME (length p)) parts) short in
    let few : length part ≤ MAX_NAME = grind (arith, tests, shorts.0) in
    (record { own = owns.0; short = few; prints = are.0.0; whole = are.0.1 }, names-of parts are.1 owns.1 shorts.1)

-- all of a path are names
abbrev HasNames : List ℕ → Type 0
HasNames path = AllByRecursion IsPathName (components path)

path-names : (path : List ℕ) → ArePathBytes path → is_well_formed path ≡ true → is_too_long path ≡ false → HasNames path
path-names path bytes formed short =
    names-of (components path) (components-parts path bytes.each)
    (and_parts (list_any is_slash (take 1 path)) (list_all is_name (components path)) formed).1
    (or_parts (nat_lt MAX_PATH (length path)) (list_any (λ name. nat_lt MAX_NAME (length name)) (components path)) short).1

-- the last of names is a name
last-named : (names : List (List ℕ)) (name : List ℕ) → AllByRecursion IsPathName names → last_name names ≡ Some name → IsPathName name
last-named [] name all is = cc
last-named (one ∷ []) name all is = let same : one ≡ name = cc in subst IsPathName same all.0
last-named (one ∷ next ∷ names) name all is = last-named (next ∷ names) name all.1 is

-- ---- the paths that a call changes

one-path : (path : List ℕ) → ArePathBytes path → list_all is_well_formed (path ∷ []) ≡ true → list_any is_too_long (path ∷ []) ≡ false
    → AllByRecursion HasNames (path ∷ [])
one-path path bytes formed short =
    (path-names path bytes (and_parts (is_well_formed path) true formed).0 (or_parts (is_too_long path) false short).0, tt)

two-paths : (from to : List ℕ) → ArePathBytes from × ArePathBytes to → list_all is_well_formed (from ∷ to ∷ []) ≡ true
    → list_any is_too_long (from ∷ to ∷ []) ≡ false → AllByRecursion HasNames (from ∷ to ∷ [])
two-paths from to bytes formed short =
    let forms = and_parts (is_well_formed from) (list_all is_well_formed (to ∷ [])) formed in
    let shorts = or_parts (is_too_long from) (list_any is_too_long (to ∷ [])) short in
    (path-names from bytes.0 forms.0 shorts.0, one-path to bytes.1 forms.1 shorts.1)

changed-names : (call : Call) → IsCall call → list_all is_well_formed (paths_of call) ≡ true → list_any is_too_long (paths_of call) ≡ false
    → AllByRecursion HasNames (changed_paths call)
changed-names (Create path) is formed short = one-path path is formed short
changed-names (Mkdir path) is formed short = one-path path is formed short
changed-names (Write path off bytes) is formed short = tt
changed-names (Truncate path size) is formed short = tt
changed-names (Read path off len) is formed short = tt
changed-names (AskStat path) is formed short = tt
changed-names (Link from to) is formed short = (two-paths from to is formed short).1
changed-names (Unlink path) is formed short = one-path path is formed short
changed-names (Rmdir path) is formed short = one-path path is formed short
changed-names (Rename from to) is formed short = two-paths from to is formed short
changed-names (Chown path uid gid project) is formed short = tt
changed-names (SetQuota kind id limits) is formed short = tt
changed-names (SetGrace graces) is formed short = tt
changed-names (AskQuota kind id) is formed short = tt

-- ---- every step

-- bytes are a name, or they are none
name_or_none : (name : List ℕ) → IsPathName name ⊎ (IsPathName name → ⊥)
name_or_none name = by (is_name name) (nat_le (length name) MAX_NAME) (list_all is_path_byte name) (list_any is_slash name) refl refl refl refl
  where
    by : (own short prints cut : Bool) → is_name name ≡ own → nat_le (length name) MAX_NAME ≡ short → list_all is_path_byte name ≡ prints
        → list_any is_slash name ≡ cut → IsPathName name ⊎ (IsPathName name → ⊥)
    by true true true false e f g h = inl (record { own = e; short = grind (arith, tests, f); prints = g; whole = h })
    by false b c d e f g h = inr (λ is. cc (sym e ∙ is.own))
    by true false c d e f g h = inr (λ is. let few : length name ≤ MAX_NAME = is.short in absurd (grind (arith, tests, f, few)))
    by true true false d e f g h = inr (λ is. cc (sym g ∙ is.prints))
    by true true true true e f g h = inr (λ is. cc (sym h ∙ is.whole))

module _ (S : State) (cred : Caller) (moment : ℕ) (call : Call) (lawful : IsLawful S) (is : IsCall call) (are : AreNamed S) where
  abbrev T : State
  T = (step S cred moment call).0

  -- a name after the call is one at the end of a path, or led there before
  name-after : HasGoodArguments S cred moment call → (e : NameKey × ℕ) → named T e.0.0 e.0.1 ≡ Some e.1 → IsPathName e.0.1
  name-after good e led =
      ⊎_elim (λ name. name)
      (λ none.
      let apart = All-weaker HasNames (Apart S e.0.0 e.0.1) (λ path names place. none (last-named (components path) e.0.1 names place.1))
      (changed_paths call) (All-from_recursion HasNames (changed_paths call) (changed-names call is good.formed good.short)) in
      let before = sym (other_names_stay S cred moment call e.0.0 e.0.1 lawful apart) ∙ led in
      let key = found-key (λ x. IsPathName x.0.1) (is_at (name_key_cmp e.0)) S.names e.1 are before in
      subst IsPathName (sym (key-name e.0.0 key.0.0 e.0.1 key.0.1 key.1)) key.2)
      (name_or_none e.0.1)

  names-after : HasGoodArguments S cred moment call → AreNamed T
  names-after good =
      let sorted = (steps_stay_lawful S cred moment call lawful).parts.names.in_order in
      All-weaker (λ e. named T e.0.0 e.0.1 ≡ Some e.1) (λ e. IsPathName e.0.1) (name-after good) T.names
      (All-from_recursion (λ e. named T e.0.0 e.0.1 ≡ Some e.1) T.names (each-found-by name_key_total T.names sorted))

pub names_stay_names : NamesStayNames
names_stay_names S cred moment call lawful is are =
    step-passed AreNamed S cred moment call are (names-after S cred moment call lawful is are)
