-- What a name in place of another leaves: a state that fits together, its names and its inodes.
use Rattle.std.proofs.Common.{◌≡◌, ℕ, ◌+◌, ◌≤◌, ◌<◌, ◌==◌, Bool, true, false, not, cond, List, [], ◌∷◌, All, sum_by, slice_index_or, Option, Some, None, is_some, refl, ap, ◌∙◌, tests, arith}
use Rattle.std.specs.List.Sorted.{IsStrictlySortedBy}
use Rattle.std.specs.Map.{keys_of, lookup, remove_entry, values_of}
use Rattle.std.specs.Ordering.{nat_cmp}
use Rattle.std.specs.BTreeMap.{is_at}
use Rattle.std.proofs.lemmas.Bool.{and_from, and_parts, cond-false, cond-true}
use Rattle.std.proofs.lemmas.Map.{lookup-remove_entry}
use Rattle.std.proofs.lemmas.Map.Keys.{IsDistinct-from_sorted}
use Rattle.qplain.specs.declared.bounds.TheConstants.{ROOT}
use Rattle.qplain.specs.State.{Inode, NameKey, State, inode_at, is_directory, name_key_cmp, named}
use Rattle.qplain.specs.Use.{charge_to, has_name, has_too_many_links, is_empty, names_to, weight}
use Rattle.qplain.specs.Names.{with_name, without_name}
use Rattle.qplain.specs.Renames.{passes, renamed}
use Rattle.qplain_laws.specs.Laws.{FitsTogether, leads}
use Rattle.qplain_laws.specs.Replaces.{Replaces}
use Rattle.qplain_laws.proofs.Tables.{All-insert_new, name_key_total, sum_by-insert_new}
use Rattle.qplain_laws.proofs.Orders.{All-remove, sorted-insert, sorted-remove, sum-remove}
use Rattle.qplain_laws.proofs.Filtering.{filter-all}
use Rattle.qplain_laws.proofs.Fitting.{not_both, some-is_dir}
use Rattle.qplain_laws.proofs.Finding.{found-key, name-laws, same-key}
use Rattle.qplain_laws.proofs.Sweeping.{few-from_right, has_name-there, key-dir, named-from_right, names_to-without, swept_fits, unfilled-empty}
use Rattle.qplain_laws.proofs.Losing.{Replaces-held, Replaces-lost, inode_at-lost, inodes-held, inodes-lost, one_name-lost, same-has_name}

-- without a key that is not there, all stay
pub remove-none : {K X : Type 0} (test : K → Bool) (es : List (K × X)) → lookup test es ≡ None → remove_entry test es ≡ es
remove-none test [] none = refl
remove-none test (e ∷ es) none =
    elim (test e.0) as (λ b. cond b (Some e.1) (lookup test es) ≡ None → cond b es (e ∷ remove_entry test es) ≡ e ∷ es) [
      | true ↦ λ h. cc
      | false ↦ λ h. ap (λ l. e ∷ l) (remove-none test es h)
    ] none

module _ (S : State) (dir : ℕ) (name : List ℕ) (number : ℕ) (inode : Inode) (to_dir : ℕ) (to_name : List ℕ) (fits : FitsTogether S)
    (led : named S dir name ≡ Some number) (there : inode_at S number ≡ Some inode) (stands : is_directory S to_dir ≡ true)
    (other : passes (λ n. n == number) (named S to_dir to_name) ≡ false) (empty : passes (λ n. not (is_empty S n)) (named S to_dir to_name) ≡ false) where
  -- without the first name, without either, and with the second
  abbrev U : State
  U = without_name S dir name

  abbrev V : State
  V = without_name U to_dir to_name

  abbrev W : State
  W = with_name V to_dir to_name number

  -- the two names differ
  differ : is_at (name_key_cmp (dir, name)) (to_dir, to_name) ≡ false
  differ = not_both (is_at (name_key_cmp (dir, name)) (to_dir, to_name)) (λ same.
      let it : named S to_dir to_name ≡ Some number = same-key name-laws (dir, name) (to_dir, to_name) same S.names ∙ led in
      let itself : (number == number) ≡ true = grind (arith, tests) in
      let yes : passes (λ n. n == number) (named S to_dir to_name) ≡ true = ap (passes (λ n. n == number)) it ∙ itself in
      cc)

  pub sorted-U : IsStrictlySortedBy name_key_cmp (keys_of (without_name S dir name).names)
  sorted-U = sorted-remove name_key_cmp (is_at (name_key_cmp (dir, name))) S.names fits.names.in_order

  -- the second leads where it led when the first is gone, and then nowhere
  pub named-U : named (without_name S dir name) to_dir to_name ≡ named S to_dir to_name
  named-U =
      lookup-remove_entry name-laws (is_at (name_key_cmp (dir, name))) (λ x y e. name-laws.congr (dir, name) x y e) (to_dir, to_name) S.names
      (IsDistinct-from_sorted name_key_cmp (keys_of S.names) fits.names.in_order)
      ∙ cond-false (is_at (name_key_cmp (dir, name)) (to_dir, to_name)) None (named S to_dir to_name) differ

  pub named-V : named (without_name (without_name S dir name) to_dir to_name) to_dir to_name ≡ None
  named-V =
      lookup-remove_entry name-laws (is_at (name_key_cmp (to_dir, to_name))) (λ x y e. name-laws.congr (to_dir, to_name) x y e) (to_dir, to_name) U.names
      (IsDistinct-from_sorted name_key_cmp (keys_of U.names) sorted-U)
      ∙ cond-true (is_at (name_key_cmp (to_dir, to_name)) (to_dir, to_name)) None (named U to_dir to_name) (name-laws.refl (to_dir, to_name))

  -- the target loses one name
  names_to-V : (q : ℕ) (o : Option ℕ) → named U to_dir to_name ≡ o → names_to V q + cond (passes (λ n. n == q) o) 1 0 ≡ names_to U q
  names_to-V q None none =
      let same : V.names ≡ U.names = remove-none (is_at (name_key_cmp (to_dir, to_name))) U.names none in
      let counts : names_to V q ≡ names_to U q = ap (λ names. names_to (record U { names = names }) q) same in
      omega (arith, counts)
  names_to-V q (Some t) found = sum-remove (λ v. cond (v == q) 1 0) (is_at (name_key_cmp (to_dir, to_name))) U.names t found

  -- how many names lead to a number after all
  pub names_to-renamed : (q : ℕ)
      → names_to (renamed S dir name to_dir to_name number) q + cond (passes (λ n. n == q) (named S to_dir to_name)) 1 0 ≡ names_to S q
  names_to-renamed q =
      let a = names_to-without S dir name number led q in
      let b = names_to-V q (named S to_dir to_name) named-U in
      let c : names_to W q ≡ names_to V q + cond (number == q) 1 0 =
      sum_by-insert_new (λ (e : NameKey × ℕ). cond (e.1 == q) 1 0) name_key_cmp V.names (to_dir, to_name) number named-V in
      omega (arith, a, b, c)

  fewer : (q : ℕ) → names_to W q ≤ names_to S q
  fewer q = let sum = names_to-renamed q in omega (arith, sum)

  -- all numbers but the target's keep their names
  pub has_name-renamed : (q : ℕ) → passes (λ n. n == q) (named S to_dir to_name) ≡ false
      → has_name (with_name (without_name (without_name S dir name) to_dir to_name) to_dir to_name number) q ≡ has_name S q
  has_name-renamed q apart =
      let sum = names_to-renamed q in
      let none : ◌≡◌ {A = ℕ} (cond (passes (λ n. n == q) (named S to_dir to_name)) 1 0) 0 = rw apart refl in
      let same : names_to W q ≡ names_to S q = omega (arith, sum, none) in
      same-has_name S W q same

  -- no name stands in the target
  pub unfilled-target : (o : Option ℕ) → passes (λ n. not (is_empty S n)) o ≡ false → All (λ e. passes (λ n. n == e.0.0) o ≡ false) S.names
  unfilled-target None h = λ k d below. refl
  unfilled-target (Some t) h = λ k d below.
      let e : NameKey × ℕ = slice_index_or S.names k d in
      let apart : (e.0.0 == t) ≡ false = unfilled-empty S fits t h k d below in
      let flipped : (t == e.0.0) ≡ false = grind (arith, tests, apart) in
      flipped

  -- so the target is not where the new name stands
  pub outside : (o : Option ℕ) → named S to_dir to_name ≡ o → passes (λ n. not (is_empty S n)) o ≡ false → passes (λ n. n == to_dir) o ≡ false
  outside None is h = refl
  outside (Some t) is h =
      let key = found-key (λ e. passes (λ n. n == e.0.0) (Some t) ≡ false) (is_at (name_key_cmp (to_dir, to_name))) S.names t (unfilled-target (Some t) h) is in
      let same : to_dir ≡ key.0.0 = key-dir to_dir to_name key.0 key.1 in
      let apart : (t == key.0.0) ≡ false = key.2 in
      ap (λ n. t == n) same ∙ apart

  pub sorted-W : IsStrictlySortedBy name_key_cmp (keys_of (renamed S dir name to_dir to_name number).names)
  sorted-W =
      sorted-insert name_key_total V.names (to_dir, to_name) number
      (sorted-remove name_key_cmp (is_at (name_key_cmp (to_dir, to_name))) U.names sorted-U)

  -- what holds of all names, and of the new one, holds of those that stand then
  pub All-renamed : (P : NameKey × ℕ → Type 0) → All P S.names → P ((to_dir, to_name), number) → All P (renamed S dir name to_dir to_name number).names
  All-renamed P all new =
      All-insert_new P name_key_cmp V.names (to_dir, to_name) number named-V
      (All-remove P (is_at (name_key_cmp (to_dir, to_name))) U.names (All-remove P (is_at (name_key_cmp (dir, name))) S.names all)) new

  pub lead-W : All (λ e. leads S e ≡ true) (renamed S dir name to_dir to_name number).names
  lead-W =
      All-renamed (λ e. leads S e ≡ true) fits.names.lead
      (and_from (is_directory S to_dir) (is_some (inode_at S number)) stands (ap is_some there))

  -- a name in place of another, and of the target's, leaves parts that fit together
  pub renamed_fits : has_too_many_links (renamed S dir name to_dir to_name number) ≡ false → FitsTogether (renamed S dir name to_dir to_name number)
  renamed_fits few =
      swept_fits S W.names fits sorted-W lead-W
      (λ k d below.
      let e : ℕ × Inode = slice_index_or S.inodes k d in
      few-from_right (e.0 == ROOT) e.1.dir (names_to S e.0) (names_to W e.0) (fewer e.0) (fits.names.counted k d below))
      (All-renamed (λ e. has_name W e.0.0 ≡ true)
      (λ k d below.
      let e : NameKey × ℕ = slice_index_or S.names k d in
      let at : is_directory S e.0.0 ≡ true = (and_parts (is_directory S e.0.0) (is_some (inode_at S e.1)) (fits.names.lead k d below)).0 in
      has_name-renamed e.0.0 (unfilled-target (named S to_dir to_name) empty k d below)
      ∙ has_name-there S fits e.0.0 (some-is_dir (inode_at S e.0.0) at))
      (has_name-renamed to_dir (outside (named S to_dir to_name) refl empty) ∙ has_name-there S fits to_dir (some-is_dir (inode_at S to_dir) stands)))
      few

  -- ---- the inodes that are left

  -- where the second name led nowhere, all inodes stay
  pub inodes-moved : named S to_dir to_name ≡ None → (renamed S dir name to_dir to_name number).inodes ≡ S.inodes
  inodes-moved none =
      filter-all (λ (e : ℕ × Inode). has_name W e.0) S.inodes (λ k d below.
      let e : ℕ × Inode = slice_index_or S.inodes k d in
      has_name-renamed e.0 (ap (passes (λ n. n == e.0)) none) ∙ named-from_right (e.0 == ROOT) e.1.dir (names_to S e.0) (fits.names.counted k d below))

  -- then nothing is taken
  pub Replaces-moved : named S to_dir to_name ≡ None → Replaces S (renamed S dir name to_dir to_name number) None None
  Replaces-moved none = record {
    size = refl;
    most_inodes = refl;
    graces = refl;
    holders = refl;
    totals = λ sort. ap (λ es. sum_by (weight sort) (values_of es) + 0) (inodes-moved none);
    uses = λ kind id sort. ap (λ es. sum_by (charge_to kind id sort) (values_of es) + 0) (inodes-moved none);
  }

  module _ (t : ℕ) (replaced : Inode) (led_to : named S to_dir to_name ≡ Some t) (there_too : inode_at S t ≡ Some replaced) where
    -- what is replaced has one name less
    pub names_to-target : names_to (renamed S dir name to_dir to_name number) t + 1 ≡ names_to S t
    names_to-target =
        let sum = names_to-renamed t in
        let itself : (t == t) ≡ true = grind (arith, tests) in
        let one : ◌≡◌ {A = ℕ} (cond (passes (λ n. n == t) (named S to_dir to_name)) 1 0) 1 =
        ap (λ o. cond (passes (λ n. n == t) o) 1 0) led_to ∙ rw itself refl in
        omega (arith, sum, one)

    others-keep : (q : ℕ) → (t == q) ≡ false → has_name W q ≡ has_name S q
    others-keep q apart = has_name-renamed q (ap (passes (λ n. n == q)) led_to ∙ apart)

    -- with its last name it goes, and nothing else does
    pub inodes-replaced : names_to S t ≡ 1 → (renamed S dir name to_dir to_name number).inodes ≡ remove_entry (is_at (nat_cmp t)) S.inodes
    inodes-replaced last = inodes-lost S W.names t replaced fits there_too names_to-target others-keep last

    -- what stands at a number then
    pub inode_at-replaced : names_to S t ≡ 1 → (q : ℕ)
        → inode_at (renamed S dir name to_dir to_name number) q ≡ cond (is_at (nat_cmp t) q) None (inode_at S q)
    inode_at-replaced last q = inode_at-lost S W.names t replaced fits there_too names_to-target others-keep last q

    -- a directory that is replaced has one name
    pub one_name-replaced : replaced.dir ≡ true → names_to S t ≡ 1
    one_name-replaced directory = one_name-lost S W.names t replaced fits there_too names_to-target others-keep directory

    -- then no inode stands where it stood
    pub Replaces-replaced : names_to S t ≡ 1 → Replaces S (renamed S dir name to_dir to_name number) (Some replaced) None
    Replaces-replaced last =
        let r = Replaces-lost S W.names t replaced fits there_too names_to-target others-keep last in
        record { size = r.size; most_inodes = r.most_inodes; graces = r.graces; holders = r.holders; totals = r.totals; uses = r.uses }

    -- where it has more names, all inodes stay
    pub inodes-held_on : 1 < names_to S t → (renamed S dir name to_dir to_name number).inodes ≡ S.inodes
    inodes-held_on more = inodes-held S W.names t replaced fits there_too names_to-target others-keep more

    -- and it stands where it stood
    pub Replaces-held_on : 1 < names_to S t → Replaces S (renamed S dir name to_dir to_name number) (Some replaced) (Some replaced)
    Replaces-held_on more =
        let r = Replaces-held S W.names t replaced fits there_too names_to-target others-keep more in
        record { size = r.size; most_inodes = r.most_inodes; graces = r.graces; holders = r.holders; totals = r.totals; uses = r.uses }
