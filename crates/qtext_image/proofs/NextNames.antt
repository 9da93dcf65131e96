-- Where one name more may lead.
use Rattle.std.proofs.Common.{◌≡◌, ℕ, ◌+◌, ◌==◌, Bool, true, false, not, ◌&&◌, ◌||◌, cond, nat_le, nat_lt, List, [], ◌∷◌, ◌++◌, Option, Some, None, is_some, count_by, refl, sym, ap, subst, ◌∙◌, arith, tests}
use Rattle.std.specs.List.{list_all, list_any, AllByRecursion}
use Rattle.std.specs.Map.{keys_of, values_of}
use Rattle.std.specs.Ordering.{nat_cmp}
use Rattle.std.specs.BTreeMap.{is_at}
use Rattle.std.proofs.lemmas.Bool.{and_parts, eq-eqb, eqb-true}
use Rattle.std.proofs.lemmas.List.Elements.{recursion_from_All}
use Rattle.std.proofs.lemmas.List.Sums.{sum_by-append, sum_by-cons}
use Rattle.qplain.specs.declared.bounds.TheConstants.{MAX_LINKS, ROOT}
use Rattle.qplain.specs.State.{Inode, NameKey, State, inode_at, is_dir, is_directory, name_key_cmp}
use Rattle.qplain.specs.Use.{has_too_many_links, links_of, names_to}
use Rattle.qplain_laws.specs.Laws.{leads}
use Rattle.qplain_laws.proofs.Finding.{found-at, found-key}
use Rattle.qplain_laws.proofs.Tables.{same-number}
use Rattle.qplain_image.specs.Rows.{Row}
use Rattle.qtext.proofs.Joining.{and_both, not_true}
use Rattle.qtext_image.specs.Faults.{are_numbers_fit, do_lead, do_rise, has_few_names, has_good_names, has_known_owners, is_ordered, is_path_name}
use Rattle.qtext_image.specs.NextFaults.{is_behind, may_lead}
use Rattle.qtext_image.proofs.NextLists.{all-end, and-true, both-ways, map-end, rise-end}
use Rattle.qtext_image.proofs.NextTests.{IsTold}
use Rattle.qtext_image.proofs.Tests.{all-passed, rise-sorted}

-- ---- the tests of one inode

-- an inode has few names and links
abbrev fits : State → ℕ × Inode → Bool
fits S e = not (nat_lt MAX_LINKS (links_of S e.0 e.1.dir)) && has_few_names S e

both-all : {X : Type 0} (p q : X → Bool) (xs : List X) → (not (list_any q xs) && list_all p xs) ≡ list_all (λ x. not (q x) && p x) xs
both-all p q [] = refl
both-all p q (x ∷ xs) = by (q x) (p x) (list_any q xs) (list_all p xs) (both-all p q xs)
  where
    by : (a b c d : Bool) → (not c && d) ≡ list_all (λ y. not (q y) && p y) xs
        → (not (a || c) && (b && d)) ≡ ((not a && b) && list_all (λ y. not (q y) && p y) xs)
    by true b c d same = refl
    by false true c d same = same
    by false false true d same = refl
    by false false false d same = refl

count-end : {X : Type 0} (p : X → Bool) (xs : List X) (x : X) → count_by p (xs ++ x ∷ []) ≡ count_by p xs + cond (p x) 1 0
count-end {X} p xs x =
    let parts = sum_by-append (λ (y : X). cond (p y) 1 0) xs (x ∷ []) in
    let one = sum_by-cons (λ (y : X). cond (p y) 1 0) x [] in
    omega (arith, parts, one)

-- ---- numbers

few-kept : (same root dir : Bool) (n m : ℕ) → m ≡ n + cond same 1 0 → cond root (n == 0) (cond dir (nat_le n 1) true) ≡ true
    → (same ≡ true → (root ≡ false) × (dir ≡ true → (n == 0) ≡ true)) → cond root (m == 0) (cond dir (nat_le m 1) true) ≡ true
few-kept false true dir n m is few first = grind (arith, tests, is, few)
few-kept false false true n m is few first = grind (arith, tests, is, few)
few-kept false false false n m is few first = refl
few-kept true true dir n m is few first = absurd (cc (first refl).0)
few-kept true false true n m is few first = let none = (first refl).1 refl in grind (arith, tests, is, none)
few-kept true false false n m is few first = refl

links-kept : (same : Bool) (n m : ℕ) → m ≡ n + cond same 1 0 → nat_lt MAX_LINKS n ≡ false → (same ≡ true → nat_lt n MAX_LINKS ≡ true)
    → nat_lt MAX_LINKS m ≡ false
links-kept false n m is few more = grind (arith, tests, is, few)
links-kept true n m is few more = let low = more refl in grind (arith, tests, is, low)

first-leads : (root dir : Bool) (n m k l : ℕ) → m ≡ n + 1 → l ≡ k + cond dir 1 0 → cond root (m == 0) (cond dir (nat_le m 1) true) ≡ true
    → (dir ≡ false → nat_lt MAX_LINKS m ≡ false) → nat_lt MAX_LINKS l ≡ false
    → (not root && cond dir (n == 0 && nat_lt k MAX_LINKS) (nat_lt n MAX_LINKS)) ≡ true
first-leads true dir n m k l is more few own links = absurd (grind (arith, tests, is, few))
first-leads false true n m k l is more few own links =
    let none : (n == 0) ≡ true = grind (arith, tests, is, few) in
    let low : nat_lt k MAX_LINKS ≡ true = grind (arith, tests, more, links) in
    rw (none, low) refl
first-leads false false n m k l is more few own links = let high = own refl in grind (arith, tests, is, high)

-- ---- one name more

module _ (S : State) (key : NameKey) (number : ℕ) where
  abbrev pub T : State
  T = record S { names = S.names ++ (key, number) ∷ [] }

  names-more : (m : ℕ) → names_to T m ≡ names_to S m + cond (number == m) 1 0
  names-more m = count-end (λ (e : NameKey × ℕ). e.1 == m) S.names (key, number)

  links-more : (m : ℕ) → links_of T m true ≡ links_of S m true + cond (key.0 == m && is_directory S number) 1 0
  links-more m =
      let more = count-end (λ (e : NameKey × ℕ). e.0.0 == m && is_directory S e.1) S.names (key, number) in
      omega (arith, more)

  -- where all have few names and links the name may lead there
  leads-fit : leads S (key, number) ≡ true → list_all (fits T) S.inodes ≡ true → may_lead S key.0 number ≡ true
  leads-fit led all =
      by (inode_at S key.0) (inode_at S number) refl refl (and_parts (is_directory S key.0) (is_some (inode_at S number)) led).0
      (and_parts (is_directory S key.0) (is_some (inode_at S number)) led).1
    where
      found : (m : ℕ) (inode : Inode) → inode_at S m ≡ Some inode → fits T (m, inode) ≡ true
      found m inode there =
          let at = found-key (λ e. fits T e ≡ true) (is_at (nat_cmp m)) S.inodes inode (all-passed (fits T) S.inodes all) there in
          subst (λ n. fits T (n, inode) ≡ true) (sym (same-number m at.0 at.1)) at.2

      own : (dir : Bool) → not (nat_lt MAX_LINKS (links_of T number dir)) ≡ true → dir ≡ false → nat_lt MAX_LINKS (names_to T number) ≡ false
      own true few is = absurd (cc is)
      own false few is = not_true (nat_lt MAX_LINKS (names_to T number)) few

      by : (d n : Option Inode) → inode_at S key.0 ≡ d → inode_at S number ≡ n → is_directory S key.0 ≡ true → is_some (inode_at S number) ≡ true
          → may_lead S key.0 number ≡ true
      by d None there stands at some = absurd (cc (sym (ap is_some stands) ∙ some))
      by None n there stands at some = absurd (cc (sym (ap is_dir there) ∙ at))
      by (Some parent) (Some inode) there stands at some =
          let is : parent.dir ≡ true = sym (ap is_dir there) ∙ at in
          let dir : is_directory S number ≡ inode.dir = ap is_dir stands in
          let up = and_parts (not (nat_lt MAX_LINKS (links_of T key.0 parent.dir))) (has_few_names T (key.0, parent)) (found key.0 parent there) in
          let down = and_parts (not (nat_lt MAX_LINKS (links_of T number inode.dir))) (has_few_names T (number, inode)) (found number inode stands) in
          let links : nat_lt MAX_LINKS (links_of T key.0 true) ≡ false =
          not_true (nat_lt MAX_LINKS (links_of T key.0 true)) (subst (λ b. not (nat_lt MAX_LINKS (links_of T key.0 b)) ≡ true) is up.0) in
          let here : (number == number) ≡ true = eq-eqb number number refl in
          let there_too : (key.0 == key.0) ≡ true = eq-eqb key.0 key.0 refl in
          ap (λ b. not (number == ROOT) && cond b (names_to S number == 0 && nat_lt (links_of S key.0 true) MAX_LINKS) (nat_lt
          (names_to S number) MAX_LINKS)) dir
          ∙ first-leads (number == ROOT) inode.dir (names_to S number) (names_to T number) (links_of S key.0 true) (links_of T key.0 true)
          (names-more number ∙ ap (λ b. names_to S number + cond b 1 0) here)
          (links-more key.0 ∙ (λ i. links_of S key.0 true + cond (there_too i && dir i) 1 0))
          down.1 (own inode.dir down.0) links

  -- and only there
  fit-where : may_lead S key.0 number ≡ true → (e : ℕ × Inode) → inode_at S e.0 ≡ Some e.1 → fits S e ≡ true → fits T e ≡ true
  fit-where may e there fit =
      let parts = and_parts (not (nat_lt MAX_LINKS (links_of S e.0 e.1.dir))) (has_few_names S e) fit in
      and_both (not (nat_lt MAX_LINKS (links_of T e.0 e.1.dir))) (has_few_names T e)
      (ap not (linked e.1.dir refl (not_true (nat_lt MAX_LINKS (links_of S e.0 e.1.dir)) parts.0)))
      (few-kept (number == e.0) (e.0 == ROOT) e.1.dir (names_to S e.0) (names_to T e.0) (names-more e.0) parts.1 (λ same. (root same, first same)))
    where
      rule : Bool → Bool
      rule b = cond b (names_to S number == 0 && nat_lt (links_of S key.0 true) MAX_LINKS) (nat_lt (names_to S number) MAX_LINKS)

      may_root : (not (number == ROOT)) ≡ true
      may_root = (and_parts (not (number == ROOT)) _ may).0

      may_rule : cond (is_directory S number) (names_to S number == 0 && nat_lt (links_of S key.0 true) MAX_LINKS) (nat_lt (names_to S number) MAX_LINKS) ≡ true
      may_rule = (and_parts (not (number == ROOT)) _ may).1

      is : (number == e.0) ≡ true → number ≡ e.0
      is same = eqb-true number e.0 same

      dir_is : (number == e.0) ≡ true → is_directory S number ≡ e.1.dir
      dir_is same = ap (λ n. is_directory S n) (is same) ∙ ap is_dir there

      root : (number == e.0) ≡ true → (e.0 == ROOT) ≡ false
      root same = not_true (e.0 == ROOT) (subst (λ n. not (n == ROOT) ≡ true) (is same) may_root)

      led : (b : Bool) → is_directory S number ≡ b
          → cond b (names_to S number == 0 && nat_lt (links_of S key.0 true) MAX_LINKS) (nat_lt (names_to S number) MAX_LINKS) ≡ true
      led b at = subst (λ c. cond c (names_to S number == 0 && nat_lt (links_of S key.0 true) MAX_LINKS) (nat_lt (names_to S number) MAX_LINKS)
          ≡ true) at may_rule

      first : (number == e.0) ≡ true → e.1.dir ≡ true → (names_to S e.0 == 0) ≡ true
      first same dir =
          subst (λ n. (names_to S n == 0) ≡ true) (is same)
          (and_parts (names_to S number == 0) (nat_lt (links_of S key.0 true) MAX_LINKS) (led true (dir_is same ∙ dir))).0

      linked : (dir : Bool) → e.1.dir ≡ dir → nat_lt MAX_LINKS (links_of S e.0 dir) ≡ false → nat_lt MAX_LINKS (links_of T e.0 dir) ≡ false
      linked false at few =
          links-kept (number == e.0) (names_to S e.0) (names_to T e.0) (names-more e.0) few
          (λ same. subst (λ n. nat_lt (names_to S n) MAX_LINKS ≡ true) (is same) (led false (dir_is same ∙ at)))
      linked true at few =
          links-kept (key.0 == e.0 && is_directory S number) (links_of S e.0 true) (links_of T e.0 true) (links-more e.0) few
          (λ same.
          let both = and_parts (key.0 == e.0) (is_directory S number) same in
          subst (λ n. nat_lt (links_of S n true) MAX_LINKS ≡ true) (eqb-true key.0 e.0 both.0)
          (and_parts (names_to S number == 0) (nat_lt (links_of S key.0 true) MAX_LINKS) (led true both.1)).1)

  each-fit : may_lead S key.0 number ≡ true → (es : List (ℕ × Inode)) → AllByRecursion (λ e. inode_at S e.0 ≡ Some e.1) es
      → list_all (fits S) es ≡ true → list_all (fits T) es ≡ true
  each-fit may [] there all = refl
  each-fit may (e ∷ es) there all =
      let parts = and_parts (fits S e) (list_all (fits S) es) all in
      and_both (fits T e) (list_all (fits T) es) (fit-where may e there.0 parts.0) (each-fit may es there.1 parts.1)

  pub lead-more : IsTold S → do_lead T ≡ (leads S (key, number) && may_lead S key.0 number)
  lead-more told =
      let there = recursion_from_All (λ (e : ℕ × Inode). inode_at S e.0
      ≡ Some e.1) S.inodes (found-at S (rise-sorted nat_cmp (keys_of S.inodes) told.numbers_rise)) in
      let before : list_all (fits S) S.inodes ≡ true =
      sym (both-all (has_few_names S) (λ e. nat_lt MAX_LINKS (links_of S e.0 e.1.dir)) S.inodes) ∙ rw (told.links, told.few) refl in
      ap (λ b. (b && not (has_too_many_links T)) && list_all (has_few_names T) S.inodes) (all-end (leads S) S.names (key, number) told.lead)
      ∙ by (leads S (key, number)) refl there before
    where
      by : (b : Bool) → leads S (key, number) ≡ b → AllByRecursion (λ e. inode_at S e.0 ≡ Some e.1) S.inodes → list_all (fits S) S.inodes ≡ true
          → ((b && not (has_too_many_links T)) && list_all (has_few_names T) S.inodes) ≡ (b && may_lead S key.0 number)
      by false led there before = refl
      by true led there before =
          both-all (has_few_names T) (λ e. nat_lt MAX_LINKS (links_of T e.0 e.1.dir)) S.inodes
          ∙ both-ways (list_all (fits T) S.inodes) (may_lead S key.0 number) (leads-fit led) (λ may. each-fit may S.inodes there before)

  pub name-order : IsTold S → is_ordered T ≡ is_behind name_key_cmp (keys_of S.names) key
  name-order told =
      let names : do_rise name_key_cmp (keys_of (S.names ++ (key, number) ∷ [])) ≡ is_behind name_key_cmp (keys_of S.names) key =
      ap (do_rise name_key_cmp) (map-end (λ (x : NameKey × ℕ). x.0) S.names (key, number)) ∙ rise-end name_key_cmp (keys_of S.names) key told.names_rise in
      rw (told.holders_rise, told.numbers_rise, names, told.hold, told.granted, told.begin) (and-true _ ∙ and-true _ ∙ and-true _)

  pub name-tests : (first second : Row) (rest : List Row) → IsTold S
      → (are_numbers_fit (first ∷ second ∷ rest) T ≡ true) × (has_good_names T ≡ is_path_name key.1)
      × (list_all (has_known_owners T) (values_of S.inodes) ≡ true) × (do_lead T ≡ (leads S (key, number) && may_lead S key.0 number))
  name-tests first second rest told = (
    rw (told.bounds, told.next, told.graces, told.holders, told.inodes) refl,
    rw (told.called, told.single, all-end (λ (e : NameKey × ℕ). is_path_name e.0.1) S.names (key, number) told.paths) refl,
    told.known,
    lead-more told,
  )
