-- Each plain result touches one inode, and what that one's owners use.
use Rattle.std.proofs.Common.{◌≡◌, ℕ, ◌+◌, ◌<◌, ◌==◌, Bool, true, false, not, nat_lt, cond, List, sum_by, Option, Some, None, refl, sym, ap, ◌∙◌, tests, arith}
use Rattle.std.specs.Map.{lookup, values_of}
use Rattle.std.specs.Ordering.{nat_cmp}
use Rattle.std.specs.BTreeMap.{is_at}
use Rattle.std.specs.Cmp.{unsigned_ties}
use Rattle.std.proofs.lemmas.Bool.{cond-false}
use Rattle.qrules.specs.declared.kind.Kind.{Kind}
use Rattle.qrules.specs.Sort.{Sort}
use Rattle.qplain.specs.Caller.{Caller}
use Rattle.qplain.specs.State.{Inode, State, inode_at, is_directory, named}
use Rattle.qplain.specs.Use.{charge_to, is_empty, names_to, use_of}
use Rattle.qplain.specs.Files.{with_inode}
use Rattle.qplain.specs.Names.{created, swept, without_name}
use Rattle.qplain.specs.Renames.{passes, renamed}
use Rattle.qplain_laws.specs.Laws.{IsLawful}
use Rattle.qplain_laws.specs.Replaces.{Replaces, charge_of}
use Rattle.qplain_laws.proofs.Becoming.{HoldsOfResults}
use Rattle.qplain_laws.proofs.Finding.{led-inode}
use Rattle.qplain_laws.proofs.Linking.{inode_at-created, inode_at-created-next, inode_at-with_inode}
use Rattle.qplain_laws.proofs.Removing.{Replaces-last, inode_at-last, inodes-more}
use Rattle.qplain_laws.proofs.Renaming.{Replaces-replaced, inode_at-replaced, inodes-held_on, inodes-moved, names_to-target}
use Rattle.qplain_laws.proofs.Replacing.{Replaces-changed, Replaces-created}
use Rattle.qplain_laws.proofs.Sweeping.{names_to-without}
use Rattle.qplain_laws.proofs.Tables.{absent-fresh, at-itself}

-- what a plain result changes: the inode of this number alone, and what its owners use
pub record OnlyAt (S T : State) (number : ℕ) : Type 0 where
  pub inodes : (q : ℕ) → (number == q) ≡ false → inode_at T q ≡ inode_at S q
  pub uses : (kind : Kind) (id : ℕ) (sort : Sort)
      → use_of T kind id sort + charge_of kind id sort (inode_at S number) ≡ use_of S kind id sort + charge_of kind id sort (inode_at T number)

-- some inode is the only one
abbrev pub Touches : State → State → Type 0
Touches S T = (number : ℕ) × OnlyAt S T number

-- ---- each plain result

-- where the inodes are the same, none is changed
untouched : (S T : State) → T.inodes ≡ S.inodes → Touches S T
untouched S T same = (
  0,
  record {
    inodes = λ q other. ap (lookup (is_at (nat_cmp q))) same;
    uses = λ kind id sort i.
        sum_by (charge_to kind id sort) (values_of (same i)) + charge_of kind id sort (lookup (is_at (nat_cmp 0)) (sym same i));
  },
)

-- where an inode stands in place of another, that is the only one
touched-one : (S T : State) (number : ℕ) (from to : Option Inode) → Replaces S T from to → inode_at S number ≡ from → inode_at T number ≡ to
    → ((q : ℕ) → (number == q) ≡ false → inode_at T q ≡ inode_at S q) → Touches S T
touched-one S T number from to replaces before after others = (
  number,
  record {
    inodes = others;
    uses = λ kind id sort.
        ap (λ o. use_of T kind id sort + charge_of kind id sort o) before ∙ replaces.uses kind id sort
        ∙ ap (λ o. use_of S kind id sort + charge_of kind id sort o) (sym after);
  },
)

not-at : (number q : ℕ) → (number == q) ≡ false → is_at (nat_cmp number) q ≡ false
not-at number q apart = sym (unsigned_ties number q) ∙ apart

module _ (S : State) (lawful : IsLawful S) where
  touched-created : (inode : Inode) (dir : ℕ) (name : List ℕ) → Touches S (created S inode dir name)
  touched-created inode dir name =
      let none : inode_at S S.next ≡ None = absent-fresh S.inodes S.next lawful.parts.inodes.fresh in
      touched-one S (created S inode dir name) S.next None (Some inode) (Replaces-created S inode dir name none) none
      (inode_at-created-next S inode dir name none) (λ q apart.
      let flipped : (q == S.next) ≡ false = grind (arith, tests, apart) in
      inode_at-created S inode dir name q none ∙ cond-false (is_at (nat_cmp q) S.next) (Some inode) (inode_at S q) (not-at q S.next flipped))

  touched-changed : (number : ℕ) (inode after : Inode) → inode_at S number ≡ Some inode → Touches S (with_inode S number after)
  touched-changed number inode after there =
      let at : (q : ℕ) → inode_at (with_inode S number after) q ≡ cond (is_at (nat_cmp number) q) (Some after) (inode_at S q) =
      λ q. inode_at-with_inode S number inode after q there in
      touched-one S (with_inode S number after) number (Some inode) (Some after) (Replaces-changed S number inode after there) there
      (at number ∙ ap (λ b. cond b (Some after) (inode_at S number)) (at-itself number))
      (λ q apart. at q ∙ cond-false (is_at (nat_cmp number) q) (Some after) (inode_at S q) (not-at number q apart))

  -- where an inode went, that is the only one
  touched-gone : (T : State) (number : ℕ) (inode : Inode) → inode_at S number ≡ Some inode → Replaces S T (Some inode) None
      → ((q : ℕ) → inode_at T q ≡ cond (is_at (nat_cmp number) q) None (inode_at S q)) → Touches S T
  touched-gone T number inode there replaces at =
      touched-one S T number (Some inode) None replaces there (at number ∙ ap (λ b. cond b None (inode_at S number)) (at-itself number))
      (λ q apart. at q ∙ cond-false (is_at (nat_cmp number) q) None (inode_at S q) (not-at number q apart))

  touched-removed : (dir : ℕ) (name : List ℕ) (number : ℕ) (inode : Inode) → named S dir name ≡ Some number → inode_at S number ≡ Some inode
      → Touches S (swept (without_name S dir name))
  touched-removed dir name number inode led there = by (nat_lt 1 (names_to S number)) refl
    where
      T : State
      T = swept (without_name S dir name)

      by : (b : Bool) → nat_lt 1 (names_to S number) ≡ b → Touches S (swept (without_name S dir name))
      by true more =
          let l : 1 < names_to S number = grind (arith, tests, more) in
          untouched S T (inodes-more S dir name number inode lawful.parts led there l)
      by false last =
          let sum = names_to-without S dir name number led number in
          let itself : (number == number) ≡ true = grind (arith, tests) in
          let counted : ◌≡◌ {A = ℕ} (cond (number == number) 1 0) 1 = rw itself refl in
          let one : names_to S number ≡ 1 = grind (arith, tests, sum, counted, last) in
          touched-gone T number inode there (Replaces-last S dir name number inode lawful.parts led there one)
          (inode_at-last S dir name number inode lawful.parts led there one)

  module _ (dir : ℕ) (name : List ℕ) (number : ℕ) (inode : Inode) (to_dir : ℕ) (to_name : List ℕ) (led : named S dir name ≡ Some number)
      (there : inode_at S number ≡ Some inode) (stands : is_directory S to_dir ≡ true)
      (other : passes (λ n. n == number) (named S to_dir to_name) ≡ false) (empty : passes (λ n. not (is_empty S n)) (named S to_dir to_name) ≡ false) where
    touched-over : (t : ℕ) (replaced : Inode) → named S to_dir to_name ≡ Some t → inode_at S t ≡ Some replaced
        → Touches S (renamed S dir name to_dir to_name number)
    touched-over t replaced led_to there_too = by (nat_lt 1 (names_to S t)) refl
      where
        T : State
        T = renamed S dir name to_dir to_name number

        by : (b : Bool) → nat_lt 1 (names_to S t) ≡ b → Touches S (renamed S dir name to_dir to_name number)
        by true more =
            let l : 1 < names_to S t = grind (arith, tests, more) in
            untouched S T (inodes-held_on S dir name number inode to_dir to_name lawful.parts led there stands other empty t replaced led_to there_too l)
        by false last =
            let sum : names_to T t + 1 ≡ names_to S t =
            names_to-target S dir name number inode to_dir to_name lawful.parts led there stands other empty t replaced led_to there_too in
            let one : names_to S t ≡ 1 = grind (arith, tests, sum, last) in
            touched-gone T t replaced there_too
            (Replaces-replaced S dir name number inode to_dir to_name lawful.parts led there stands other empty t replaced led_to there_too one)
            (inode_at-replaced S dir name number inode to_dir to_name lawful.parts led there stands other empty t replaced led_to there_too one)

    touched-renamed : Touches S (renamed S dir name to_dir to_name number)
    touched-renamed = by (named S to_dir to_name) refl
      where
        by : (o : Option ℕ) → named S to_dir to_name ≡ o → Touches S (renamed S dir name to_dir to_name number)
        by None none =
            untouched S (renamed S dir name to_dir to_name number)
            (inodes-moved S dir name number inode to_dir to_name lawful.parts led there stands other empty none)
        by (Some t) led_to = let found = led-inode S lawful to_dir to_name t led_to in touched-over t found.0 led_to found.1

  -- so it is in each
  pub results_touch : (cred : Caller) → HoldsOfResults (Touches S) S cred
  results_touch cred = record {
    created = λ inode dir name own known sound stands absent few. touched-created inode dir name;
    changed = λ number inode after there follows may. touched-changed number inode after there;
    removed = λ dir name number inode led there empty may. touched-removed dir name number inode led there;
    linked = λ number inode dir name there file stands absent few. untouched S _ refl;
    renamed = λ to dir name number inode to_dir to_name placed outside led there stands other empty may may_too few.
        touched-renamed dir name number inode to_dir to_name led there stands other empty;
    limited = λ kind id limits may. untouched S _ refl;
    graced = λ graces may. untouched S _ refl;
  }
