-- What is known of a name and of a record of which nothing is wrong, and of an opening that has taken it in.
use Rattle.std.proofs.Common.{◌≡◌, ℕ, ◌+◌, ◌<◌, ◌^◌, ◌==◌, Bool, true, false, not, ◌&&◌, ◌||◌, cond, nat_lt, List, [], ◌∷◌, ◌++◌, Option, Some, None, is_some, option_map, refl, sym, ap, subst, ◌∙◌, arith, tests}
use Rattle.std.specs.BTreeMap.{insert_entry, is_at}
use Rattle.std.specs.List.{list_all}
use Rattle.std.specs.List.Sorted.{IsStrictlySortedBy}
use Rattle.std.specs.Map.{keys_of, lookup, set_value}
use Rattle.std.specs.Ordering.{nat_cmp}
use Rattle.std.proofs.lemmas.Bool.{and_parts}
use Rattle.qplain.specs.declared.bounds.TheConstants.{MAX_LINKS, ROOT}
use Rattle.qplain.specs.Paths.{is_path_byte}
use Rattle.qplain.specs.State.{Inode, NameKey, State, inode_at, is_dir, is_directory, name_key_cmp}
use Rattle.qplain.specs.Use.{links_of, names_to}
use Rattle.qplain_laws.specs.Laws.{leads}
use Rattle.qplain_laws.proofs.Tables.{name_key_total}
use Rattle.qstore_tree.specs.Tree.{RoomyTree}
use Rattle.qstore_tree.specs.TreeOf.{AreLinks}
use Rattle.qstore_tree.proofs.Directories.{directory-there}
use Rattle.qstore_change.proofs.ParentLinks.{order-recounted}
use Rattle.qtext_image.specs.Faults.{is_path_name}
use Rattle.qtext_image.specs.NextFaults.{has_graces, is_behind, may_lead, name_fault}
use Rattle.qtext_image.proofs.Passing.{path-name}
use Rattle.qstore_open.specs.declared.last_name.LastName.{LastName}
use Rattle.qstore_open.specs.declared.named.Named.{Named}
use Rattle.qstore_open.specs.declared.opening.Opening.TheInside.{Inside}
use Rattle.qstore_open.specs.Kept.{IsKept, IsLast, key_of, state_in, told_in}
use Rattle.qstore_open.specs.Named.{is_among}
use Rattle.qstore_open.specs.Told.{Told}
use Rattle.qstore_open.proofs.Lasts.{absent-end, insert-end, is-last-end}
use Rattle.qstore_open.proofs.MoreInodes.{fault-kept}
use Rattle.qstore_open.proofs.MoreNames.{links-in-directory, links-in-file, named-directory, named-file, named_too}

-- a name of which nothing is wrong
pub record IsFine (S : State) (key : NameKey) (number : ℕ) : Type 0 where
  pub behind : is_behind name_key_cmp (keys_of S.names) key ≡ true
  pub path : is_path_name key.1 ≡ true
  pub directory : is_directory S key.0 ≡ true
  pub there : is_some (inode_at S number) ≡ true
  pub may : may_lead S key.0 number ≡ true

pub fine-name : (S : State) (key : NameKey) (number : ℕ) → name_fault S key number ≡ None → IsFine S key number
fine-name S key number none =
    let order = fault-kept (has_graces S && is_behind name_key_cmp (keys_of S.names) key) _ _ none in
    let path = fault-kept (is_path_name key.1) _ _ order.1 in
    let lead = fault-kept (leads S (key, number) && may_lead S key.0 number) _ _ path.1 in
    let both = and_parts (leads S (key, number)) (may_lead S key.0 number) lead.0 in
    let led = and_parts (is_directory S key.0) (is_some (inode_at S number)) both.0 in
    record {
      behind = (and_parts (has_graces S) (is_behind name_key_cmp (keys_of S.names) key) order.0).1;
      path = path.0;
      directory = led.0;
      there = led.1;
      may = both.1;
    }

pub prints : (name : List ℕ) → is_path_name name ≡ true → list_all is_path_byte name ≡ true
prints name is = (path-name name is).prints

few-directory : (S : State) (dir number : ℕ) → may_lead S dir number ≡ true → is_directory S number ≡ true → nat_lt (links_of S dir true) MAX_LINKS ≡ true
few-directory S dir number may directory =
    let second = (and_parts (not (number == ROOT)) _ may).1 in
    let here = subst (λ b. cond b (names_to S number == 0 && nat_lt (links_of S dir true) MAX_LINKS) (nat_lt (names_to S number) MAX_LINKS)
    ≡ true) directory second in
    (and_parts (names_to S number == 0) (nat_lt (links_of S dir true) MAX_LINKS) here).1

few-file : (S : State) (dir number : ℕ) → may_lead S dir number ≡ true → is_directory S number ≡ false → nat_lt (names_to S number) MAX_LINKS ≡ true
few-file S dir number may file =
    let second = (and_parts (not (number == ROOT)) _ may).1 in
    subst (λ b. cond b (names_to S number == 0 && nat_lt (links_of S dir true) MAX_LINKS) (nat_lt (names_to S number) MAX_LINKS) ≡ true) file second

-- one name more may lead to a directory that has none, and to a file
pub may-directory : (T : State) (dir number links : ℕ) → (number == ROOT) ≡ false → is_directory T number ≡ true → nat_lt 0 (names_to T number) ≡ false
    → links ≡ links_of T dir true → nat_lt links MAX_LINKS ≡ may_lead T dir number
may-directory T dir number links other directory none is =
    let no-names : (names_to T number == 0) ≡ true = grind (arith, tests, none) in
    rw (other, directory, no-names, is) refl

pub may-file : (T : State) (dir number links : ℕ) → (number == ROOT) ≡ false → is_directory T number ≡ false
    → links ≡ names_to T number → nat_lt links MAX_LINKS ≡ may_lead T dir number
may-file T dir number links other file is = rw (other, file, is) refl

pub unnamed-directory : (b : Bool) (n : ℕ) (among : Bool) → among ≡ (b && nat_lt 0 n) → b ≡ true → among ≡ false → nat_lt 0 n ≡ false
unnamed-directory true n among is yes-so no-so = sym is ∙ no-so
unnamed-directory false n among is yes-so no-so = absurd (cc yes-so)

pub some-there : {A : Type 0} (o : Option A) → is_some o ≡ true → (x : A) × (o ≡ Some x)
some-there None is = absurd (cc is)
some-there (Some x) is = (x, refl)

module _ (o : Inside) (kept : IsKept o) (now : Told) (view : told_in o ≡ now) (dir number : ℕ) (name : List ℕ)
    (none : name_fault now.state (dir, name) number ≡ None) where
  S : State
  S = state_in o

  fine-told : IsFine now.state (dir, name) number
  fine-told = fine-name now.state (dir, name) number none

  fine-in : IsFine (state_in o) (dir, name) number
  fine-in = fine-name (state_in o) (dir, name) number (ap (λ t. name_fault t.state (dir, name) number) view ∙ none)

  pub text-of : list_all is_path_byte name ≡ true
  text-of = prints name fine-in.path

  pub stands-in : is_dir (lookup (is_at (nat_cmp dir)) o.tree.inodes) ≡ true
  stands-in = fine-in.directory

  pub unnamed : (tree : RoomyTree) → tree.names ≡ o.tree.names → lookup (is_at (name_key_cmp (dir, name))) tree.names ≡ None
  unnamed tree same = ap (lookup (is_at (name_key_cmp (dir, name)))) same ∙ absent-end name_key_cmp name_key_total o.tree.names (dir, name) fine-in.behind

  -- the links that are kept of the directory, and of a file
  pub parent-links : (lookup (is_at (nat_cmp dir)) o.tree.links ≡ Some (links_of (state_in o) dir true))
  parent-links =
      let parent = directory-there (inode_at (state_in o) dir) fine-in.directory in
      kept.tree.links dir ∙ ap (option_map (λ i. links_of (state_in o) dir i.dir)) parent.there ∙ ap (λ b. Some (links_of (state_in o) dir b)) parent.directory

  pub own-links : is_directory now.state number ≡ false → lookup (is_at (nat_cmp number)) o.tree.links ≡ Some (names_to (state_in o) number)
  own-links file =
      let here = some-there (inode_at (state_in o) number) fine-in.there in
      let plain : here.0.dir ≡ false = sym (ap is_dir here.1) ∙ ap (λ t. is_directory t.state number) view ∙ file in
      kept.tree.links number ∙ ap (option_map (λ i. links_of (state_in o) number i.dir)) here.1 ∙ ap (λ b. Some (links_of (state_in o) number b)) plain

  pub few-in : is_directory now.state number ≡ true → links_of (state_in o) dir true + 1 < 2 ^ 64
  few-in directory =
      grind (arith, tests, few-directory (state_in o) dir number fine-in.may (ap (λ t. is_directory t.state number) view ∙ directory))

  pub few-own : is_directory now.state number ≡ false → names_to (state_in o) number + 1 < 2 ^ 64
  few-own file =
      grind (arith, tests, few-file (state_in o) dir number fine-in.may (ap (λ t. is_directory t.state number) view ∙ file))

  -- what is told then
  pub told-named : (after : RoomyTree) (named : Named) (last : LastName) → after.inodes ≡ o.tree.inodes
      → after.names ≡ insert_entry name_key_cmp o.tree.names (dir, name) number
      → told_in (record o { tree = after; named = named; last_name = Some last })
      ≡ record { state = record now.state { names = now.state.names ++ ((dir, name), number) ∷ [] }; records = now.records }
  told-named after named last inodes names =
      let end = insert-end name_key_cmp name_key_total o.tree.names (dir, name) number fine-in.behind in
      (λ i. record { state = record (state_in o) { inodes = inodes i; names = (names ∙ end) i }; records = (told_in o).records })
      ∙ (λ i. record { state = record (view i).state { names = (view i).state.names ++ ((dir, name), number) ∷ [] }; records = (view i).records })

  -- and kept
  kept-named : (after : RoomyTree) (named : Named) (last : LastName) → after.inodes ≡ o.tree.inodes
      → after.names ≡ insert_entry name_key_cmp o.tree.names (dir, name) number → key_of last ≡ (dir, name)
      → AreLinks (named_too (state_in o) dir number name) after.links → IsStrictlySortedBy nat_cmp (keys_of after.links)
      → ((n : ℕ) → is_among n named.numbers.keys ≡ (is_directory (state_in o) n && nat_lt 0 (names_to (named_too (state_in o) dir number name) n)))
      → IsKept (record o { tree = after; named = named; last_name = Some last })
  kept-named after named last inodes names key links sorted among =
      let p : Inside = record o { tree = after; named = named; last_name = Some last } in
      let end : after.names ≡ o.tree.names ++ ((dir, name), number) ∷ [] =
      names ∙ insert-end name_key_cmp name_key_total o.tree.names (dir, name) number fine-in.behind in
      let same : state_in p ≡ named_too (state_in o) dir number name = (λ i. record (state_in o) { inodes = inodes i; names = end i }) in
      record {
        tree = record {
          inodes = refl;
          names = refl;
          links = subst (λ (T : State). AreLinks T after.links) (sym same) links;
          in_order = sorted;
        };
        numbers = subst (λ (es : List (ℕ × Inode)). IsLast nat_cmp (keys_of es) o.last) (sym inodes) kept.numbers;
        keys = subst (λ (es : List (NameKey × ℕ)). IsLast name_key_cmp (keys_of es) (Some (key_of last))) (sym end)
            (subst (λ (k : NameKey). IsLast name_key_cmp (keys_of (o.tree.names ++ ((dir, name), number) ∷ [])) (Some k)) (sym key)
            (is-last-end name_key_cmp o.tree.names (dir, name) number kept.keys.rise fine-in.behind));
        named = λ n. among n ∙ (λ i. is_directory (sym same i) n && nat_lt 0 (names_to (sym same i) n));
        limit = kept.limit;
      }

  pub kept-directory : is_directory now.state number ≡ true → (after : RoomyTree) (named : Named) (last : LastName) → after.inodes ≡ o.tree.inodes
      → after.names ≡ insert_entry name_key_cmp o.tree.names (dir, name) number → key_of last ≡ (dir, name)
      → after.links ≡ set_value (is_at (nat_cmp dir)) o.tree.links (links_of (state_in o) dir true + 1)
      → ((n : ℕ) → is_among n named.numbers.keys ≡ (number == n || is_among n o.named.numbers.keys))
      → IsKept (record o { tree = after; named = named; last_name = Some last })
  kept-directory directory after named last inodes names key links added =
      let directory-in : is_directory (state_in o) number ≡ true = ap (λ t. is_directory t.state number) view ∙ directory in
      kept-named after named last inodes names key
      (subst (AreLinks (named_too (state_in o) dir number name)) (sym links)
      (links-in-directory (state_in o) dir number name directory-in o.tree.links kept.tree.links fine-in.directory))
      (subst (λ (ls : List (ℕ × ℕ)). IsStrictlySortedBy nat_cmp (keys_of ls)) (sym links)
      (order-recounted o.tree.links dir (links_of (state_in o) dir true + 1) kept.tree.in_order))
      (named-directory (state_in o) dir number name o.named.numbers.keys named.numbers.keys directory-in kept.named added)

  pub kept-file : is_directory now.state number ≡ false → (after : RoomyTree) (last : LastName) → after.inodes ≡ o.tree.inodes
      → after.names ≡ insert_entry name_key_cmp o.tree.names (dir, name) number → key_of last ≡ (dir, name)
      → after.links ≡ set_value (is_at (nat_cmp number)) o.tree.links (names_to (state_in o) number + 1)
      → IsKept (record o { tree = after; last_name = Some last })
  kept-file file after last inodes names key links =
      let file-in : is_directory (state_in o) number ≡ false = ap (λ t. is_directory t.state number) view ∙ file in
      let here = some-there (inode_at (state_in o) number) fine-in.there in
      kept-named after o.named last inodes names key
      (subst (AreLinks (named_too (state_in o) dir number name)) (sym links)
      (links-in-file (state_in o) dir number name file-in o.tree.links here.0 kept.tree.links here.1))
      (subst (λ (ls : List (ℕ × ℕ)). IsStrictlySortedBy nat_cmp (keys_of ls)) (sym links)
      (order-recounted o.tree.links number (names_to (state_in o) number + 1) kept.tree.in_order))
      (named-file (state_in o) dir number name o.named.numbers.keys file-in kept.named)
