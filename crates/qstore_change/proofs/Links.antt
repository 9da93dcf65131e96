-- The kept link counts after each change of inodes and names.
use Rattle.std.proofs.Common.{◌≡◌, ℕ, ◌+◌, ◌-◌, ◌<◌, ◌==◌, Bool, true, false, not, ◌||◌, cond, List, Option, Some, None, refl, sym, ap, ◌∙◌, rules, arith}
use Rattle.std.specs.Option.{IsSome, option_map}
use Rattle.std.specs.Ordering.{nat_cmp}
use Rattle.std.specs.Cmp.{eq_by_cmp_equiv, nat_cmp_total, unsigned_ties}
use Rattle.std.specs.BTreeMap.{insert_entry, is_at}
use Rattle.std.specs.List.Sorted.{IsStrictlySortedBy}
use Rattle.std.specs.Map.{keys_of, lookup, remove_entry, set_value}
use Rattle.std.proofs.lemmas.Map.{lookup-remove_entry, lookup-set_value}
use Rattle.std.proofs.lemmas.Map.Keys.{IsDistinct-from_sorted}
use Rattle.qplain.specs.declared.owners.Owners.{Owners}
use Rattle.qplain.specs.State.{Inode, State, inode_at, named, new_file}
use Rattle.qplain.specs.Use.{links_of}
use Rattle.qplain.specs.Names.{created, swept, without_name}
use Rattle.qplain.specs.Files.{with_inode}
use Rattle.qplain_laws.specs.Laws.{IsLawful}
use Rattle.qplain_laws.proofs.Fitting.{links_of-changed, or_right}
use Rattle.qplain_laws.proofs.Tables.{lookup-insert_new, same-number}
use Rattle.qplain_laws.proofs.Settling.{absent-next}
use Rattle.qplain_laws.proofs.Linking.{inode_at-created, inode_at-with_inode, links_of-created-others, links_of-new_file}
use Rattle.qplain_laws.proofs.Removing.{inode_at-last, inodes-more, links_of-unlinked, links_of-unlinked-others}
use Rattle.qstore_tree.specs.TreeOf.{AreLinks}

-- the links of what stands at a number, if an inode does
abbrev pub links_at : State → ℕ → Option Inode → Option ℕ
links_at S number o = option_map (λ inode. links_of S number inode.dir) o

-- where an inode is not there, no links are kept
pub none-kept : (S : State) (links : List (ℕ × ℕ)) (number : ℕ) → AreLinks S links → inode_at S number ≡ None → lookup (is_at (nat_cmp number)) links ≡ None
none-kept S links number kept absent = kept number ∙ ap (links_at S number) absent

-- where one is, its links are
pub links-there : (S : State) (links : List (ℕ × ℕ)) (number : ℕ) (inode : Inode) → AreLinks S links → inode_at S number ≡ Some inode
    → lookup (is_at (nat_cmp number)) links ≡ Some (links_of S number inode.dir)
links-there S links number inode kept there = kept number ∙ ap (links_at S number) there

module _ (S : State) (links : List (ℕ × ℕ)) (kept : AreLinks S links) (lawful : IsLawful S) (owners : Owners) (dir : ℕ)
    (name : List ℕ) (absent : named S dir name ≡ None) where
  abbrev S1 : State
  S1 = created S (new_file owners) dir name

  old_links : (number : ℕ) (o : Option Inode) → inode_at S number ≡ o → links_at S number o ≡ links_at S1 number o
  old_links number None there = refl
  old_links number (Some inode) there =
      ap Some (sym (links_of-created-others S (new_file owners) dir name lawful.parts absent number inode inode.dir there refl))

  by_slot : (number : ℕ) (b : Bool) → is_at (nat_cmp number) S.next ≡ b
      → cond b (Some 1) (lookup (is_at (nat_cmp number)) links) ≡ links_at S1 number (cond b (Some (new_file owners)) (inode_at S number))
  by_slot number true at_next =
      ap Some (sym (links_of-new_file S (new_file owners) dir name lawful.parts absent)
      ∙ ap (λ n. links_of S1 n false) (sym (same-number number S.next at_next)))
  by_slot number false other = kept number ∙ old_links number (inode_at S number) refl

  -- a new file has one link, and the others keep theirs
  pub links-created : AreLinks S1 (insert_entry nat_cmp links S.next 1)
  links-created number =
      lookup-insert_new nat_cmp_total links S.next 1 number (none-kept S links S.next kept (absent-next S lawful))
      ∙ by_slot number (is_at (nat_cmp number) S.next) refl
      ∙ ap (links_at S1 number) (sym (inode_at-created S (new_file owners) dir name number (absent-next S lawful)))

module _ (S : State) (links : List (ℕ × ℕ)) (kept : AreLinks S links) (number : ℕ) (inode after : Inode) (there : inode_at S number ≡ Some inode)
    (same : after.dir ≡ inode.dir) where
  changed : (q : ℕ) (b : Bool) → is_at (nat_cmp number) q ≡ b → links_at S q (inode_at S q) ≡ links_at S q (cond b (Some after) (inode_at S q))
  changed q true at =
      ap (λ n. links_at S q (inode_at S n)) (sym (same-number number q at)) ∙ ap (links_at S q) there ∙ ap (λ b. Some (links_of S q b)) (sym same)
  changed q false other = refl

  -- another inode in the place of one leaves all links, if it is as much a directory
  pub links-changed : AreLinks (with_inode S number after) links
  links-changed q =
      kept q ∙ changed q (is_at (nat_cmp number) q) refl
      ∙ ap (links_at S q) (sym (inode_at-with_inode S number inode after q there))
      ∙ ap (λ (f : Inode → ℕ). option_map f (inode_at (with_inode S number after) q)) (λ k i. sym (links_of-changed S number inode after there same q i.dir) k)

-- another number is not the same
pub other-number : (number q : ℕ) (b : Bool) → is_at (nat_cmp number) q ≡ false → (b || not (number == q)) ≡ true
other-number number q b other = or_right b (not (number == q)) (ap not (unsigned_ties number q ∙ other))

-- it is some
pub kept-some : (o : Option ℕ) (n : ℕ) → o ≡ Some n → IsSome o
kept-some None n there = cc
kept-some (Some m) n there = search rules

module _ (S : State) (links : List (ℕ × ℕ)) (kept : AreLinks S links) (lawful : IsLawful S) (dir : ℕ) (name : List ℕ) (number : ℕ) (inode : Inode)
    (led : named S dir name ≡ Some number) (there : inode_at S number ≡ Some inode) (file : inode.dir ≡ false) where
  abbrev T : State
  T = swept (without_name S dir name)

  -- every other inode keeps its links
  others : (q : ℕ) (o : Option Inode) → is_at (nat_cmp number) q ≡ false → links_at S q o ≡ links_at T q o
  others q None other = refl
  others q (Some i) other =
      ap Some (sym (links_of-unlinked-others S dir name number inode lawful.parts led there file q i.dir (other-number number q i.dir other)))

  -- the file has a link
  pub some-links : links_of T number false + 1 ≡ links_of S number false
  some-links = links_of-unlinked S dir name number inode lawful.parts led there file

  -- with its last name go the links of a file
  pub links-last : IsStrictlySortedBy nat_cmp (keys_of links) → links_of S number false ≡ 1 → AreLinks T (remove_entry (is_at (nat_cmp number)) links)
  links-last in_order last q =
      let laws = eq_by_cmp_equiv nat_cmp_total in
      lookup-remove_entry laws (is_at (nat_cmp number)) (λ x y e. laws.congr number x y e) q links (IsDistinct-from_sorted nat_cmp (keys_of links) in_order)
      ∙ by (is_at (nat_cmp number) q) refl
      ∙ ap (links_at T q) (sym (inode_at-last S dir name number inode lawful.parts led there last q))
    where
      by : (b : Bool) → is_at (nat_cmp number) q ≡ b → cond b None (lookup (is_at (nat_cmp q)) links) ≡ links_at T q (cond b None (inode_at S q))
      by true at = refl
      by false other = kept q ∙ others q (inode_at S q) other

  -- a file that has more has one less then
  pub links-more : 1 < links_of S number false → AreLinks T (set_value (is_at (nat_cmp number)) links (links_of S number false - 1))
  links-more more q =
      let laws = eq_by_cmp_equiv nat_cmp_total in
      lookup-set_value laws (is_at (nat_cmp number)) (λ x y e. laws.congr number x y e) q (links_of S number false - 1) links
      (kept-some (lookup (is_at (nat_cmp number)) links) (links_of S number inode.dir) (links-there S links number inode kept there))
      ∙ by (is_at (nat_cmp number) q) refl
      ∙ ap (λ es. links_at T q (lookup (is_at (nat_cmp q)) es)) (sym (inodes-more S dir name number inode lawful.parts led there more))
    where
      less : links_of S number false - 1 ≡ links_of T number false
      less = let sum = some-links in omega (arith, sum)

      by : (b : Bool) → is_at (nat_cmp number) q ≡ b
          → cond b (Some (links_of S number false - 1)) (lookup (is_at (nat_cmp q)) links) ≡ links_at T q (inode_at S q)
      by true at =
          let same : number ≡ q = same-number number q at in
          ap Some (less ∙ ap (λ b. links_of T number b) (sym file)) ∙ ap (links_at T number) (sym there) ∙ ap (λ n. links_at T n (inode_at S n)) same
      by false other = kept q ∙ others q (inode_at S q) other
