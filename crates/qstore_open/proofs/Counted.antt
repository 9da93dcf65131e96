-- What is counted of rows is what the state uses, and an inode that names lead up from has its names.
use Rattle.std.proofs.Common.{◌≡◌, ℕ, zero, suc, ◌+◌, ◌<◌, ◌≤◌, ◌==◌, Bool, true, false, ◌&&◌, ◌||◌, cond, count_by, nat_le, nat_lt, List, [], ◌∷◌, ◌++◌, append-nil, length, map, Some, Result, refl, sym, ap, subst, ◌∙◌, arith, tests, ⊎_elim, sum_by}
use Rattle.std.specs.List.{list_all, list_any}
use Rattle.std.specs.Map.{lookup, values_of}
use Rattle.std.specs.Ordering.{nat_cmp}
use Rattle.std.specs.BTreeMap.{is_at}
use Rattle.std.proofs.lemmas.Bool.{and_parts}
use Rattle.std.proofs.lemmas.List.{length-map}
use Rattle.std.proofs.lemmas.List.Sums.{sum_by-cons}
use Rattle.qrules.specs.declared.inode_row.InodeRow.{InodeRow}
use Rattle.qrules.specs.declared.kind.Kind.{Kind}
use Rattle.qrules.specs.declared.kind.Kind.TheVariants.{User, Group, Project}
use Rattle.qrules.specs.declared.name_row.NameRow.{NameRow}
use Rattle.qrules.specs.Sort.{Inodes, Blocks}
use Rattle.qrules.proofs.Ranks.{each_kind}
use Rattle.qplain.specs.declared.bounds.TheConstants.{ROOT}
use Rattle.qplain.specs.State.{Inode, NameKey, State, is_dir, is_directory}
use Rattle.qplain.specs.Use.{charge_to, names_to, total_of, weight}
use Rattle.qplain_laws.specs.Laws.{has_right_names}
use Rattle.qplain_image.specs.Parts.{HolderPart}
use Rattle.qtext_image.specs.Counts.{is_below_root, is_in_tree}
use Rattle.qtext_image.specs.Faults.{has_few_names}
use Rattle.qaudit.specs.declared.counts.CountRow.{CountRow}
use Rattle.qaudit.specs.declared.counts.Counts.{Counts}
use Rattle.qaudit.specs.Differences.{counted_of, counts_in}
use Rattle.qaudit.specs.Recount.{blocks_to, count_of, counts_by, is_owned, recount_of}
use Rattle.qaudit_checks.proofs.Rows.{sum_by-rows}
use Rattle.qaudit_checks.proofs.Uses.{counted-own}
use Rattle.qstore_tree.specs.Tree.{RoomyTree, kept_row}
use Rattle.qstore_open.specs.declared.bounds.Bounds.{Bounds}
use Rattle.qstore_open.specs.declared.ending.WrongLine.{WrongLine}
use Rattle.qstore_open.specs.declared.reach.Reach.{Reach}
use Rattle.qstore_open.specs.declared.records.ToldRecord.{ToldRecord}
use Rattle.qstore_open.specs.declared.records.ToldRecords.{ToldRecords}
use Rattle.qstore_open.specs.Counting.{AreCounted, AreCountsOf, FindsTree, IsOpened, goes_on, rows_line}
use Rattle.qstore_open.specs.Ending.{end_line, inodes_line, is_placed, records_line}
use Rattle.qstore_open.specs.Reaching.{has}
use Rattle.qstore_open.specs.Told.{part_of, parts_of}
use Rattle.qstore_open.proofs.Levels.{both, either, same-test}

-- ---- uses and totals

module _ (S : State) (links : List (ℕ × ℕ)) (names : List NameRow) where
  blocks-same : (kind : Kind) (id : ℕ) (e : ℕ × Inode) → blocks_to kind id (kept_row links e) ≡ charge_to kind id Blocks e.1
  blocks-same kind id e = each_kind (λ k. blocks_to k id (kept_row links e) ≡ charge_to k id Blocks e.1) refl refl refl kind

  inodes-same : (kind : Kind) (id : ℕ) (e : ℕ × Inode) → cond (is_owned kind id (kept_row links e)) 1 0 ≡ charge_to kind id Inodes e.1
  inodes-same kind id e = each_kind (λ k. cond (is_owned k id (kept_row links e)) 1 0 ≡ charge_to k id Inodes e.1) refl refl refl kind

  -- what is counted of an id
  counted : (kind : Kind) (id : ℕ)
      → counted_of (counts_in kind (recount_of (map (kept_row links) S.inodes) names)) id ≡ count_of kind (map (kept_row links) S.inodes) id
  counted kind id =
      ap (λ counts. counted_of counts id)
      (each_kind (λ k. counts_in k (recount_of (map (kept_row links) S.inodes) names) ≡ counts_by k (map (kept_row links) S.inodes)) refl refl refl kind)
      ∙ counted-own kind (map (kept_row links) S.inodes) id

  pub uses-counted : (kind : Kind) → AreCountsOf S kind (counts_in kind (recount_of (map (kept_row links) S.inodes) names))
  uses-counted kind = record {
    blocks = λ id. ap (λ c. c.blocks) (counted kind id)
        ∙ sum_by-rows (blocks_to kind id) (charge_to kind id Blocks) (kept_row links) S.inodes (blocks-same kind id);
    inodes = λ id. ap (λ c. c.inodes) (counted kind id)
        ∙ sum_by-rows (λ r. cond (is_owned kind id r) 1 0) (charge_to kind id Inodes) (kept_row links) S.inodes (inodes-same kind id);
  }

  pub blocks-counted : sum_by (λ row. row.blocks) (map (kept_row links) S.inodes) ≡ total_of S Blocks
  blocks-counted = sum_by-rows (λ (row : InodeRow). row.blocks) (weight Blocks) (kept_row links) S.inodes (λ e. refl)

many : (es : List (ℕ × Inode)) → length es ≡ sum_by (weight Inodes) (values_of es)
many [] = refl
many (e ∷ es) = omega (arith, many es, sum_by-cons (weight Inodes) e.1 (values_of es))

pub inodes-counted : (S : State) → length S.inodes ≡ total_of S Inodes
inodes-counted S = many S.inodes

-- ---- names

any-counted : {X : Type 0} (p : X → Bool) (xs : List X) → list_any p xs ≡ true → 0 < count_by p xs
any-counted p [] found = absurd (cc found)
any-counted {X} p (x ∷ xs) found =
    let sum = sum_by-cons (λ (y : X). cond (p y) 1 0) x xs in
    ⊎_elim
    (λ here. let one : ◌≡◌ {A = ℕ} (cond (p x) 1 0) 1 = rw here refl in omega (arith, sum, one))
    (λ later. let more = any-counted p xs later in omega (arith, sum, more))
    (either (p x) (list_any p xs) found)

any-first : {X : Type 0} (p q : X → Bool) (xs : List X) → list_any (λ x. p x && q x) xs ≡ true → list_any p xs ≡ true
any-first p q [] found = found
any-first p q (x ∷ xs) found = by (p x) refl (any-first p q xs) found
  where
    by : (b : Bool) → p x ≡ b → (list_any (λ y. p y && q y) xs ≡ true → list_any p xs ≡ true)
        → ((b && q x) || list_any (λ y. p y && q y) xs) ≡ true → (b || list_any p xs) ≡ true
    by true is later found = refl
    by false is later found = later found

named : (S : State) (k number : ℕ) → is_below_root S k number ≡ true → (number == ROOT) ≡ false → 0 < names_to S number
named S zero number below other = absurd (cc (sym other ∙ below))
named S (suc k) number below other =
    ⊎_elim
    (λ root. absurd (cc (sym other ∙ root)))
    (λ led. any-counted (λ (e : NameKey × ℕ). e.1 == number) S.names
    (any-first (λ (e : NameKey × ℕ). e.1 == number) (λ e. is_below_root S k e.0.0) S.names led))
    (either (number == ROOT) (list_any (λ (e : NameKey × ℕ). e.1 == number && is_below_root S k e.0.0) S.names) below)

-- where there are few names, an inode that names lead up from has as many as it may
pub placed : (S : State) (e : ℕ × Inode) → has_few_names S e ≡ true → is_placed S e ≡ is_in_tree S e.0
placed S e few =
    same-test (is_placed S e) (is_in_tree S e.0)
    (λ is. (and_parts (has_right_names S e) (is_in_tree S e.0) is).1)
    (λ is. both (has_right_names S e) (is_in_tree S e.0) (by (e.0 == ROOT) e.1.dir refl few (named S (length S.inodes) e.0 is)) is)
  where
    by : (root dir : Bool) → (e.0 == ROOT) ≡ root → cond root (names_to S e.0 == 0) (cond dir (nat_le (names_to S e.0) 1) true) ≡ true
        → ((e.0 == ROOT) ≡ false → 0 < names_to S e.0)
        → cond root (names_to S e.0 == 0) (cond dir (names_to S e.0 == 1) (nat_lt 0 (names_to S e.0))) ≡ true
    by true dir is few some = few
    by false true is few some = let more = some is in grind (arith, tests, few, more)
    by false false is few some = let more = some is in grind (arith, tests, more)

-- ---- the bounds

module _ (S : State) (records : List HolderPart) where
  -- more inodes than there may be
  pub too-many : S.most_inodes < total_of S Inodes → end_line S records ≡ Some 2
  too-many more =
      let over : nat_le (total_of S Inodes) S.most_inodes ≡ false = grind (arith, tests, more) in
      ap (λ b. cond b (records_line S 4 records) (Some 2)) (none (nat_le (total_of S Blocks) S.size) (nat_le (total_of S Inodes) S.most_inodes)
      (is_directory S ROOT) over)
    where
      none : (a b c : Bool) → b ≡ false → (a && b && c) ≡ false
      none true b c e = rw e refl
      none false b c e = refl

  -- more blocks than there may be, or no root
  pub not-within : (nat_le (total_of S Blocks) S.size && is_directory S ROOT) ≡ false → end_line S records ≡ Some 2
  not-within none =
      ap (λ b. cond b (records_line S 4 records) (Some 2)) (all (nat_le (total_of S Blocks) S.size) (nat_le (total_of S Inodes) S.most_inodes)
      (is_directory S ROOT) none)
    where
      all : (a b c : Bool) → (a && c) ≡ false → (a && b && c) ≡ false
      all true true c e = e
      all true false c e = refl
      all false b c e = refl

  pub within : (nat_le (total_of S Blocks) S.size && is_directory S ROOT) ≡ true → total_of S Inodes ≤ S.most_inodes
      → end_line S records ≡ records_line S 4 records
  within right inodes =
      let low : nat_le (total_of S Inodes) S.most_inodes ≡ true = grind (arith, tests, inodes) in
      let parts = and_parts (nat_le (total_of S Blocks) S.size) (is_directory S ROOT) right in
      λ i. cond (parts.0 i && low i && parts.1 i) (records_line S 4 records) (Some 2)

-- ---- lines

module _ (S : State) (reach : Reach) (found : (number : ℕ) → has reach number ≡ is_in_tree S number) (links : List (ℕ × ℕ)) where
  inodes-same-line : (line : ℕ) (es : List (ℕ × Inode)) → list_all (has_few_names S) es ≡ true
      → rows_line reach line (map (kept_row links) es) ≡ inodes_line S line es
  inodes-same-line line [] few = refl
  inodes-same-line line (e ∷ es) few =
      let parts = and_parts (has_few_names S e) (list_all (has_few_names S) es) few in
      let next : ℕ = line + 1 + length e.1.file.allocated in
      (λ i. cond ((found e.0 ∙ sym (placed S e parts.0)) i) (inodes-same-line next es parts.1 i) (Some line))

-- the lines of inodes are those of their rows
pub rows-line : (S : State) (counts : Counts) (told : List InodeRow) (reach : Reach) (line : ℕ) → AreCounted S counts told → FindsTree S reach
    → rows_line reach line told ≡ inodes_line S line S.inodes
rows-line S counts told reach line are finds =
    ap (rows_line reach line) are.inodes.1 ∙ inodes-same-line S reach finds are.inodes.0 line S.inodes are.few_names

-- what was told of records of one kind
abbrev pub TellLines : List CountRow → List ToldRecord → ℕ → Result ℕ WrongLine → Type 0
TellLines counts ts from result =
    (S : State) (kind : Kind) (rest : List HolderPart) → AreCountsOf S kind counts
    → records_line S from (map (part_of kind) ts ++ rest) ≡ goes_on (λ behind. records_line S behind rest) result

lines-told : (S : State) (kind : Kind) (rest : List HolderPart) (counts given : List CountRow) (ts told : List ToldRecord) (from : ℕ)
    (result r : Result ℕ WrongLine)
    → TellLines given told from result → given ≡ counts → told ≡ ts → result ≡ r → AreCountsOf S kind counts
    → records_line S from (map (part_of kind) ts ++ rest) ≡ goes_on (λ behind. records_line S behind rest) r
lines-told S kind rest counts given ts told from result r tell same_counts same_records was are =
    ap (λ l. records_line S from (map (part_of kind) l ++ rest)) (sym same_records)
    ∙ tell S kind rest (subst (AreCountsOf S kind) (sym same_counts) are)
    ∙ ap (goes_on (λ behind. records_line S behind rest)) was

-- the records of groups with those behind them, and those of projects
abbrev pub groups_of : ToldRecords → List HolderPart
groups_of R = map (part_of Group) R.groups.items ++ map (part_of Project) R.projects.items

abbrev pub projects_of : ToldRecords → List HolderPart
projects_of R = map (part_of Project) R.projects.items

-- what was told of each kind, where what is counted is the state's
module _ (S : State) (R : ToldRecords) (counts : Counts) (told : List InodeRow) (are : AreCounted S counts told) (from : ℕ) where
  pub users-told : {given : List CountRow} {ts : List ToldRecord} {result r : Result ℕ WrongLine} → TellLines given ts from result
      → given ≡ counts.users → ts ≡ R.users.items → result ≡ r
      → records_line S from (parts_of R) ≡ goes_on (λ behind. records_line S behind (groups_of R)) r
  users-told {given} {ts} {result} {r} tell same_counts same_records was =
      lines-told S User (groups_of R) counts.users given R.users.items ts from result r tell same_counts same_records was (are.uses User)

  pub groups-told : {given : List CountRow} {ts : List ToldRecord} {result r : Result ℕ WrongLine} → TellLines given ts from result
      → given ≡ counts.groups → ts ≡ R.groups.items → result ≡ r
      → records_line S from (groups_of R) ≡ goes_on (λ behind. records_line S behind (projects_of R)) r
  groups-told {given} {ts} {result} {r} tell same_counts same_records was =
      lines-told S Group (projects_of R) counts.groups given R.groups.items ts from result r tell same_counts same_records was (are.uses Group)

  pub projects-told : {given : List CountRow} {ts : List ToldRecord} {result r : Result ℕ WrongLine} → TellLines given ts from result
      → given ≡ counts.projects → ts ≡ R.projects.items → result ≡ r
      → records_line S from (projects_of R) ≡ goes_on (λ behind. inodes_line S behind S.inodes) r
  projects-told {given} {ts} {result} {r} tell same_counts same_records was =
      ap (records_line S from) (sym (append-nil (projects_of R)))
      ∙ lines-told S Project [] counts.projects given R.projects.items ts from result r tell same_counts same_records was (are.uses Project)

-- ---- what was counted of a tree

module _ (S : State) (bounds : Bounds) (tree : RoomyTree) (is : IsOpened S bounds tree) (told : List InodeRow) (are : told
    ≡ map (kept_row tree.links) tree.inodes) where
  pub rows-are : told ≡ map (kept_row tree.links) S.inodes
  rows-are = are ∙ ap (map (kept_row tree.links)) is.is_of.inodes

  pub told-many : length told ≡ total_of S Inodes
  told-many = ap length rows-are ∙ length-map S.inodes (kept_row tree.links) ∙ inodes-counted S

  module _ (counts : Counts) (given : List InodeRow) (same : given ≡ told) (recounted : counts ≡ recount_of given []) where
    counts-are : counts ≡ recount_of (map (kept_row tree.links) S.inodes) []
    counts-are = recounted ∙ ap (λ rows. recount_of rows []) (same ∙ rows-are)

    pub counted-all : (rows : List InodeRow) → rows ≡ told → AreCounted S counts rows
    counted-all rows own = record {
      uses = λ kind. subst (λ n. AreCountsOf S kind (counts_in kind n)) (sym counts-are) (uses-counted S tree.links [] kind);
      inodes = (tree.links, own ∙ rows-are);
      few_names = is.few_names;
    }

    -- the blocks are within the bounds and the root is there in the tree as in the state
    pub within-tree : (nat_le counts.blocks bounds.size && is_dir (lookup (is_at (nat_cmp ROOT)) tree.inodes))
        ≡ (nat_le (total_of S Blocks) S.size && is_directory S ROOT)
    within-tree =
        let blocks : counts.blocks ≡ total_of S Blocks = ap (λ n. n.blocks) counts-are ∙ blocks-counted S tree.links [] in
        λ i. nat_le (blocks i) (sym is.size i) && is_dir (lookup (is_at (nat_cmp ROOT)) (is.is_of.inodes i))
