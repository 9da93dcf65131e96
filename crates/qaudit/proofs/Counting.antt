-- Rows counted one after the other come to what the sums over all of them say.
use Rattle.std.proofs.Common.{◌≡◌, ℕ, ◌+◌, ◌^◌, ◌≤◌, ◌<◌, ◌==◌, Bool, true, false, cond, List, [], ◌∷◌, ◌++◌, length, map, take, get_or, Option, Some, None}
use Rattle.std.proofs.Common.{refl, sym, ap, ◌∙◌, append_assoc, append-nil, arith, add-one, All, count_by, le_trans}
use Rattle.std.specs.declared.cmp.Ordering.{Ordering}
use Rattle.std.specs.declared.cmp.Ordering.TheVariants.{Less, Equal, Greater}
use Rattle.std.specs.BTreeMap.{insert_entry, is_at}
use Rattle.std.specs.BTreeSet.{insert_key}
use Rattle.std.specs.List.{cons_option, filter_map, sum_by}
use Rattle.std.specs.Map.{keys_of, lookup, values_of}
use Rattle.std.specs.Option.{unwrap_or}
use Rattle.std.specs.Ordering.{match_ordering, nat_cmp}
use Rattle.std.proofs.Math.Seq.{take-suc}
use Rattle.std.proofs.lemmas.List.{length-take-le}
use Rattle.std.proofs.lemmas.List.Elements.{All-head, All-tail, filter_map-append}
use Rattle.std.proofs.lemmas.List.Sums.{count_by-le-length, fold_push, sum_by-append, sum_by-le-sum_by, sum_by_more_le_part}
use Rattle.qrules.specs.declared.inode_row.InodeRow.{InodeRow}
use Rattle.qrules.specs.declared.kind.Kind.{Kind}
use Rattle.qaudit.specs.declared.counts.CountRow.{CountRow}
use Rattle.qaudit.specs.Differences.{no_use}
use Rattle.qaudit.specs.Owners.{with_owner, with_row}
use Rattle.qrules.specs.Kinds.{is_id}
use Rattle.qaudit.specs.Recount.{ascending, blocks_to, count_of, counts_by, is_owned, owner_of}

keys-match : {K X : Type 0} (o : Ordering) (es fs gs : List (K × X))
    → keys_of (match_ordering o es fs gs) ≡ match_ordering o (keys_of es) (keys_of fs) (keys_of gs)
keys-match Less es fs gs = refl
keys-match Equal es fs gs = refl
keys-match Greater es fs gs = refl

-- the keys after an insertion
pub keys-insert_entry : {K X : Type 0} (cmp : K → K → Ordering) (es : List (K × X)) (k : K) (v : X)
    → keys_of (insert_entry cmp es k v) ≡ insert_key cmp (keys_of es) k
keys-insert_entry cmp [] k v = refl
keys-insert_entry cmp (e ∷ es) k v =
    keys-match (cmp k e.0) ((k, v) ∷ e ∷ es) ((e.0, v) ∷ es) (e ∷ insert_entry cmp es k v)
    ∙ ap (λ ks. match_ordering (cmp k e.0) (k ∷ e.0 ∷ keys_of es) (e.0 ∷ keys_of es) (e.0 ∷ ks)) (keys-insert_entry cmp es k v)

-- what the entries say of an owner
abbrev pub entry_of : List (ℕ × CountRow) → ℕ → CountRow
entry_of es q = unwrap_or (lookup (is_at (nat_cmp q)) es) (no_use q)

-- these are the owners of these rows, and of each is told what its rows come to
pub record AreCounted (kind : Kind) (rows : List InodeRow) (owners : List ℕ) (told : ℕ → CountRow) : Type 0 where
  pub keys : owners ≡ ascending (filter_map (owner_of kind) rows)
  pub counts : (q : ℕ) → told q ≡ count_of kind rows q

-- before the first row
pub none_counted : (kind : Kind) (es : List (ℕ × CountRow)) → es ≡ [] → AreCounted kind [] (keys_of es) (entry_of es)
none_counted kind es none = record {
  keys = rw none refl;
  counts = λ q. rw none refl;
}

-- the numbers in order, with one more where there is one
with_last : (numbers : List ℕ) (owner : Option ℕ)
    → ascending (numbers ++ cons_option owner []) ≡ with_owner (ascending numbers) owner
with_last numbers None = ap ascending (append-nil numbers)
with_last numbers (Some id) = fold_push (insert_key nat_cmp) [] numbers id

-- one row more of the owners in order
ascending-push : (kind : Kind) (rows : List InodeRow) (row : InodeRow)
    → ascending (filter_map (owner_of kind) (rows ++ row ∷ []))
    ≡ with_owner (ascending (filter_map (owner_of kind) rows)) (owner_of kind row)
ascending-push kind rows row =
    ap ascending (filter_map-append (owner_of kind) rows (row ∷ [])) ∙ with_last (filter_map (owner_of kind) rows) (owner_of kind row)

-- the count of an owner
abbrev count_row : ℕ → ℕ → ℕ → CountRow
count_row q blocks inodes = record { id = q; blocks = blocks; inodes = inodes }

-- with what a row adds, told whether the row is the owner's
added : (q blocks after inodes more amount : ℕ) (mine : Bool) → after ≡ blocks + cond mine amount 0
    → more ≡ inodes + cond mine 1 0
    → count_row q after more ≡ cond mine (with_row (count_row q blocks inodes) amount) (count_row q blocks inodes)
added q blocks after inodes more amount true sum count = λ i. record { id = q; blocks = sum i; inodes = count i }
added q blocks after inodes more amount false sum count =
    let same_blocks : after ≡ blocks = omega (arith, sum) in
    let same_inodes : more ≡ inodes = omega (arith, count) in
    λ i. record { id = q; blocks = same_blocks i; inodes = same_inodes i }

-- what an owner's rows come to, with one row more
count_of-push : (kind : Kind) (rows : List InodeRow) (row : InodeRow) (q : ℕ) → count_of kind (rows ++ row ∷ []) q
    ≡ cond (is_owned kind q row) (with_row (count_of kind rows q) row.blocks) (count_of kind rows q)
count_of-push kind rows row q =
    let mine : ℕ = cond (is_owned kind q row) row.blocks 0 in
    let one : ℕ = cond (is_owned kind q row) 1 0 in
    let blocks : sum_by (blocks_to kind q) (rows ++ row ∷ []) ≡ sum_by (blocks_to kind q) rows + mine =
    sum_by-append (blocks_to kind q) rows (row ∷ []) ∙ omega arith in
    let inodes : sum_by (λ r. cond (is_owned kind q r) 1 0) (rows ++ row ∷ []) ≡ sum_by (λ r. cond (is_owned kind q r) 1 0) rows + one =
    sum_by-append (λ r. cond (is_owned kind q r) 1 0) rows (row ∷ []) ∙ omega arith in
    added q (sum_by (blocks_to kind q) rows) (sum_by (blocks_to kind q) (rows ++ row ∷ []))
    (sum_by (λ r. cond (is_owned kind q r) 1 0) rows) (sum_by (λ r. cond (is_owned kind q r) 1 0) (rows ++ row ∷ []))
    row.blocks (is_owned kind q row) blocks inodes

-- one row more
pub one_counted : (kind : Kind) (rows : List InodeRow) (count : ℕ) (row d : InodeRow) (old new : List ℕ) (before after : ℕ → CountRow)
    → AreCounted kind (take count rows) old before → count < length rows → row ≡ get_or rows count d
    → new ≡ with_owner old (owner_of kind row)
    → ((q : ℕ) → after q ≡ cond (is_id q (owner_of kind row)) (with_row (before q) row.blocks) (before q))
    → AreCounted kind (take (count + 1) rows) new after
one_counted kind rows count row d old new before after so_far few is keys counts =
    let first : take (count + 1) rows ≡ take count rows ++ row ∷ [] = rw (add-one, is) (take-suc rows count d few) in
    record {
      keys = rw first (keys ∙ ap (λ ks. with_owner ks (owner_of kind row)) so_far.keys
          ∙ sym (ascending-push kind (take count rows) row));
      counts = λ q. rw first (counts q
          ∙ ap (λ n. cond (is_owned kind q row) (with_row n row.blocks) n) (so_far.counts q)
          ∙ sym (count_of-push kind (take count rows) row q));
    }

-- where each entry is what a look-up finds, the values are what the look-ups say of the keys
values-found : (f : ℕ → CountRow) (all es : List (ℕ × CountRow)) → ((q : ℕ) → entry_of all q ≡ f q)
    → All (λ e. lookup (is_at (nat_cmp e.0)) all ≡ Some e.1) es → values_of es ≡ map f (keys_of es)
values-found f all [] says found = refl
values-found f all (e ∷ es) says found =
    let Found : ℕ × CountRow → Type 0 = λ e. lookup (is_at (nat_cmp e.0)) all ≡ Some e.1 in
    let here : e.1 ≡ f e.0 = ap (λ o. unwrap_or o (no_use e.0)) (sym (All-head Found e es found)) ∙ says e.0 in
    ap (λ c. c ∷ values_of es) here ∙ ap (λ cs. f e.0 ∷ cs) (values-found f all es says (All-tail Found e es found))

-- when all rows are counted, the values are the counts by id
pub values-counted : (kind : Kind) (rows : List InodeRow) (es : List (ℕ × CountRow)) → AreCounted kind rows (keys_of es) (entry_of es)
    → All (λ e. lookup (is_at (nat_cmp e.0)) es ≡ Some e.1) es → values_of es ≡ counts_by kind rows
values-counted kind rows es counted found =
    values-found (count_of kind rows) es es counted.counts found ∙ ap (map (count_of kind rows)) counted.keys

part : (mine : Bool) (blocks : ℕ) → cond mine blocks 0 ≤ blocks
part true blocks = omega arith
part false blocks = omega arith

-- with one row more, an owner's blocks are still among all blocks
pub blocks_fit : (kind : Kind) (rows : List InodeRow) (count : ℕ) (row d : InodeRow) (owners : List ℕ) (told : ℕ → CountRow) (q : ℕ)
    → AreCounted kind (take count rows) owners told → count < length rows → row ≡ get_or rows count d
    → sum_by (λ r. r.blocks) rows < 2 ^ 64 → (told q).blocks + row.blocks < 2 ^ 64
blocks_fit kind rows count row d owners told q so_far few is fits =
    let within = sum_by_more_le_part (blocks_to kind q) (λ r. r.blocks) rows count d few (λ r. part (is_owned kind q r) r.blocks) in
    le_trans (rw (so_far.counts q, is) (omega (arith, within))) fits

-- and its rows are among all rows
pub inodes_fit : (kind : Kind) (rows : List InodeRow) (count : ℕ) (owners : List ℕ) (told : ℕ → CountRow) (q : ℕ)
    → AreCounted kind (take count rows) owners told → count < length rows → (told q).inodes ≤ count
inodes_fit kind rows count owners told q so_far few =
    let mine : (told q).inodes ≡ count_by (is_owned kind q) (take count rows) = ap (λ n. n.inodes) (so_far.counts q) in
    let within = count_by-le-length (is_owned kind q) (take count rows) in
    let taken = length-take-le count rows (omega (arith, few)) in
    omega (arith, mine, within, taken)

-- when all rows are counted, an owner's blocks and rows are among all of them
pub all_blocks_fit : (kind : Kind) (rows : List InodeRow) (owners : List ℕ) (told : ℕ → CountRow) (q : ℕ)
    → AreCounted kind rows owners told → sum_by (λ r. r.blocks) rows < 2 ^ 64 → (told q).blocks < 2 ^ 64
all_blocks_fit kind rows owners told q counted fits =
    let mine : (told q).blocks ≡ sum_by (blocks_to kind q) rows = ap (λ n. n.blocks) (counted.counts q) in
    let within = sum_by-le-sum_by (blocks_to kind q) (λ r. r.blocks) rows (λ r. part (is_owned kind q r) r.blocks) in
    omega (arith, mine, within, fits)

pub all_inodes_fit : (kind : Kind) (rows : List InodeRow) (owners : List ℕ) (told : ℕ → CountRow) (q : ℕ)
    → AreCounted kind rows owners told → (told q).inodes ≤ length rows
all_inodes_fit kind rows owners told q counted =
    let mine : (told q).inodes ≡ count_by (is_owned kind q) rows = ap (λ n. n.inodes) (counted.counts q) in
    let within = count_by-le-length (is_owned kind q) rows in
    omega (arith, mine, within)

-- a value of the entries that are left is pushed
pub values_push : (old new all : List CountRow) (es rest : List (ℕ × CountRow)) (e : ℕ × CountRow) → es ≡ e ∷ rest
    → new ≡ old ++ e.1 ∷ [] → old ++ values_of es ≡ all → new ++ values_of rest ≡ all
values_push old new all es rest e first pushed so_far =
    ap (λ rows. rows ++ values_of rest) pushed ∙ append_assoc old (e.1 ∷ []) (values_of rest)
    ∙ sym (ap (λ es. old ++ values_of es) first) ∙ so_far
