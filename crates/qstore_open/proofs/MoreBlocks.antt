-- An opening with one block more in the file of its last inode.
use Rattle.std.proofs.Common.{◌≡◌, ℕ, ◌+◌, ◌-◌, ◌*◌, ◌≤◌, ◌==◌, min, Bool, true, false, not, ◌&&◌, cond, nat_lt, nat_le, List, [], ◌∷◌, length, Some, None, Ok, option_map, count_by, is_some, refl, sym, ap, subst, ◌∙◌, arith, tests}
use Rattle.std.specs.BTreeMap.{is_at}
use Rattle.std.specs.List.{list_all}
use Rattle.std.specs.List.Sorted.{IsStrictlySortedBy}
use Rattle.std.specs.Map.{keys_of, lookup, set_value}
use Rattle.std.specs.Ordering.{is_lt, nat_cmp}
use Rattle.std.proofs.lemmas.Bool.{and_parts, eqb-true, eq-eqb, ltb-true}
use Rattle.std.proofs.lemmas.Cmp.{nat_cmp_total}
use Rattle.std.proofs.lemmas.Map.{keys-set_value}
use Rattle.hex.specs.Hex.{decode_of}
use Rattle.hex.proofs.HexLemmas.{decode_of-ok}
use Rattle.qblocks.specs.declared.block.TheConstants.{BLOCK_SIZE}
use Rattle.qblocks.specs.declared.file.TheConstants.{MAX_SIZE}
use Rattle.qblocks.specs.File.{File, after_write, begins_below, empty_file, next_from, size_of}
use Rattle.qplain.specs.State.{Inode, NameKey, State, inode_at, is_dir, is_directory, name_key_cmp}
use Rattle.qplain.specs.Use.{names_to}
use Rattle.qplain.specs.Files.{with_inode}
use Rattle.qplain_image.specs.Blocks.{with_block}
use Rattle.qplain_image.specs.Rows.{with_last_block}
use Rattle.qplain_laws.proofs.Tables.{at-itself, same-number}
use Rattle.qplain_laws.proofs.Linking.{inode_at-with_inode}
use Rattle.qstore_change.proofs.Links.{links-changed}
use Rattle.qstore_tree.specs.Tree.{RoomyTree}
use Rattle.qstore_tree.specs.TreeOf.{AreLinks}
use Rattle.qtext.specs.declared.text_fault.TextKind.TheVariants.{BadHex}
use Rattle.qtext_image.specs.Faults.{BadOrder, InText, do_rise}
use Rattle.qtext_image.specs.NextFaults.{are_none, block_fault, is_behind, last_file, open_file}
use Rattle.qtext_image_read.specs.Digits.{bytes_of}
use Rattle.qstore_open.specs.declared.opening.Opening.TheInside.{Inside}
use Rattle.qstore_open.specs.Kept.{IsKept, IsLast, key_of, last_of, state_in, told_in}
use Rattle.qstore_open.specs.Told.{Told}
use Rattle.qstore_open.proofs.Lasts.{greater, last-below, last-none, none-mapped, none-told}

-- ---- the digits of a block

-- digits that decode are two a byte
pub digits-twice : (digits : List ℕ) → decode_of digits ≡ Ok (bytes_of digits) → length digits ≡ 2 * length (bytes_of digits)
digits-twice digits are = (decode_of-ok digits (bytes_of digits) are).2

-- ---- what is wrong with a block

-- so many digits tell the bytes that belong to a place
pub bytes-told : (file : File) (k : ℕ) (digits : List ℕ) (size off room : ℕ) → size ≡ size_of file → off ≡ k * BLOCK_SIZE
    → room ≡ min BLOCK_SIZE (size - off) → decode_of digits ≡ Ok (bytes_of digits) → length digits ≡ 2 * room
    → length (bytes_of digits) ≡ min BLOCK_SIZE (size_of file - k * BLOCK_SIZE)
bytes-told file k digits size off room is at room-is are told =
    let twice = digits-twice digits are in
    let so-many : length (bytes_of digits) ≡ room = omega (arith, twice, told) in
    so-many ∙ room-is ∙ (λ i. min BLOCK_SIZE (is i - at i))

-- and where they tell those, they are so many
pub digits-told : (file : File) (k : ℕ) (digits : List ℕ) (size off room : ℕ) → size ≡ size_of file → off ≡ k * BLOCK_SIZE
    → room ≡ min BLOCK_SIZE (size - off) → decode_of digits ≡ Ok (bytes_of digits)
    → length (bytes_of digits) ≡ min BLOCK_SIZE (size_of file - k * BLOCK_SIZE) → length digits ≡ 2 * room
digits-told file k digits size off room is at room-is are whole =
    digits-twice digits are ∙ ap (λ n. 2 * n) (whole ∙ sym (room-is ∙ (λ i. min BLOCK_SIZE (is i - at i))))

-- an index stands behind others where none is found from it on
pub behind-next : (k : ℕ) (ks : List ℕ) → is_behind nat_cmp ks k ≡ not (is_some (next_from k ks))
behind-next k [] = refl
behind-next k (x ∷ ks) = ap (λ b. b && is_behind nat_cmp ks k) (less x) ∙ by (nat_le k x) (behind-next k ks)
  where
    less : (x : ℕ) → is_lt (nat_cmp x k) ≡ not (nat_le k x)
    less x = grind (arith, tests)

    by : (b : Bool) → is_behind nat_cmp ks k ≡ not (is_some (next_from k ks))
        → (not b && is_behind nat_cmp ks k) ≡ not (is_some (cond b (Some x) (next_from k ks)))
    by true rest = refl
    by false rest = rest

module _ (file : File) (k : ℕ) (bytes : List ℕ) where
  module _ (begins : begins_below (size_of file) k ≡ true) where
    -- it has not the bytes of its place
    pub not-long : (length bytes ≡ min BLOCK_SIZE (size_of file - k * BLOCK_SIZE) → ⊥) → block_fault file (k, bytes) ≡ Some (InText BadHex)
    not-long never = rw begins (by (length bytes == min BLOCK_SIZE (size_of file - k * BLOCK_SIZE)) refl)
      where
        by : (b : Bool) → (length bytes == min BLOCK_SIZE (size_of file - k * BLOCK_SIZE)) ≡ b
            → cond (not b) (Some (InText BadHex)) (cond (not (is_behind nat_cmp file.allocated k)) (Some BadOrder) None) ≡ Some (InText BadHex)
        by true is = absurd (never (eqb-true _ _ is))
        by false is = refl

    -- else it is told by whether a block is found from it on
    pub long : length bytes ≡ min BLOCK_SIZE (size_of file - k * BLOCK_SIZE)
        → block_fault file (k, bytes) ≡ cond (is_some (next_from k file.allocated)) (Some BadOrder) None
    long is = rw (begins, eq-eqb (length bytes) (min BLOCK_SIZE (size_of file - k * BLOCK_SIZE)) is, behind-next k file.allocated) (by (is_some
        (next_from k file.allocated)))
      where
        by : (b : Bool) → cond (not (not b)) (Some BadOrder) None ≡ cond b (Some BadOrder) None
        by true = refl
        by false = refl

    -- what is long ends at the size or before it
    pub long-short : (n : ℕ) → n ≡ min BLOCK_SIZE (size_of file - k * BLOCK_SIZE) → n ≤ BLOCK_SIZE
    long-short n is = grind (arith, is)

    pub long-fits : (n : ℕ) → n ≡ min BLOCK_SIZE (size_of file - k * BLOCK_SIZE) → size_of file ≤ MAX_SIZE → k * BLOCK_SIZE + n ≤ MAX_SIZE
    long-fits n is bound = let below = ltb-true (k * BLOCK_SIZE) (size_of file) begins in grind (arith, is, below, bound)

-- ---- the last entry

not-at : (n x : ℕ) → is_lt (nat_cmp x n) ≡ true → is_at (nat_cmp n) x ≡ false
not-at n x below = rw (greater nat_cmp nat_cmp_total n x below) refl

at-same : (n x : ℕ) → Some x ≡ Some n → is_at (nat_cmp n) x ≡ true
at-same n x same = let e : x ≡ n = cc same in subst (λ m. is_at (nat_cmp n) m ≡ true) (sym e) (at-itself n)

-- the entry of the last number is the last one
pub last-entry : (es : List (ℕ × Inode)) (n : ℕ) → do_rise nat_cmp (keys_of es) ≡ true → last_of (keys_of es) ≡ Some n
    → (inode : Inode) × (lookup (is_at (nat_cmp n)) es ≡ Some inode) × (last_file es ≡ inode.file)
last-entry [] n rise last = absurd (cc last)
last-entry (e ∷ []) n rise last = (e.1, ap (λ b. cond b (Some e.1) None) (at-same n e.0 last), refl)
last-entry (e ∷ other ∷ rest) n rise last =
    let parts = and_parts (list_all (λ k. is_lt (nat_cmp e.0 k)) (keys_of (other ∷ rest))) (do_rise nat_cmp (keys_of (other ∷ rest))) rise in
    let apart = not-at n e.0 (last-below nat_cmp e.0 (keys_of (other ∷ rest)) n parts.0 last) in
    let further = last-entry (other ∷ rest) n parts.1 last in
    (further.0, ap (λ b. cond b (Some e.1) (lookup (is_at (nat_cmp n)) (other ∷ rest))) apart ∙ further.1, further.2)

-- with one block more in its file
module _ (b : ℕ × List ℕ) (n : ℕ) (inode : Inode) where
  abbrev pub longer : Inode
  longer = record inode { file = with_block inode.file b }

  pub set-last : (es : List (ℕ × Inode)) → do_rise nat_cmp (keys_of es) ≡ true → last_of (keys_of es) ≡ Some n → lookup (is_at (nat_cmp n)) es ≡ Some inode
      → set_value (is_at (nat_cmp n)) es longer ≡ with_last_block b es
  set-last [] rise last there = refl
  set-last (e ∷ []) rise last there =
      let here = at-same n e.0 last in
      let same : Some e.1 ≡ Some inode = sym (ap (λ t. cond t (Some e.1) None) here) ∙ there in
      let is : inode ≡ e.1 = cc same in
      ap (λ t. cond t ((e.0, longer) ∷ []) (e ∷ [])) here ∙ ap (λ (i : Inode). (e.0, record i { file = with_block i.file b }) ∷ []) is
  set-last (e ∷ other ∷ rest) rise last there =
      let parts = and_parts (list_all (λ k. is_lt (nat_cmp e.0 k)) (keys_of (other ∷ rest))) (do_rise nat_cmp (keys_of (other ∷ rest))) rise in
      let apart = not-at n e.0 (last-below nat_cmp e.0 (keys_of (other ∷ rest)) n parts.0 last) in
      let later = sym (ap (λ t. cond t (Some e.1) (lookup (is_at (nat_cmp n)) (other ∷ rest))) apart) ∙ there in
      ap (λ t. cond t ((e.0, longer) ∷ other ∷ rest) (e ∷ set_value (is_at (nat_cmp n)) (other ∷ rest) longer)) apart
      ∙ ap (λ l. e ∷ l) (set-last (other ∷ rest) parts.1 last later)

-- what is put into a tree with the same inodes
pub block-put : (old mid new : List (ℕ × Inode)) (number k : ℕ) (bytes input : List ℕ) (inode : Inode) → mid ≡ old → input ≡ bytes
    → new ≡ set_value (is_at (nat_cmp number)) mid (record inode { file = after_write inode.file (k * BLOCK_SIZE) input })
    → new ≡ set_value (is_at (nat_cmp number)) old (longer (k, bytes) number inode)
block-put old mid new number k bytes input inode same is put =
    put ∙ (λ i. set_value (is_at (nat_cmp number)) (same i) (record inode { file = after_write inode.file (k * BLOCK_SIZE) (is i) }))

no-entries : (es : List (ℕ × Inode)) → last_of (keys_of es) ≡ None → es ≡ []
no-entries [] none = refl
no-entries (e ∷ es) none = absurd (cc (last-none nat_cmp (keys_of (e ∷ es)) none))

-- ---- of an opening that tells so much

module _ (o : Inside) (now : Told) (view : told_in o ≡ now) (kept : IsKept o) where
  unnamed : is_some o.last_name ≡ false → are_none o.tree.names ≡ true
  unnamed before = sym (none-mapped key_of o.last_name ∙ none-told name_key_cmp o.tree.names (option_map key_of o.last_name) kept.keys.is) ∙ ap not before

  open-last : is_some o.last_name ≡ false → open_file now.state ≡ last_file o.tree.inodes
  open-last before = ap (λ t. open_file t.state) (sym view) ∙ ap (λ b. cond b (last_file o.tree.inodes) empty_file) (unnamed before)

  -- where no inode is told, no file is open
  pub open-none : is_some o.last_name ≡ false → o.last ≡ None → open_file now.state ≡ empty_file
  open-none before none = open-last before ∙ ap last_file (no-entries o.tree.inodes (kept.numbers.is ∙ none))

  -- else an inode stands at the last number, whose file is open before all names
  pub open-there : (n : ℕ) → is_some o.last_name ≡ false → o.last ≡ Some n
      → (inode : Inode) × (lookup (is_at (nat_cmp n)) o.tree.inodes ≡ Some inode) × (open_file now.state ≡ inode.file)
  open-there n before is =
      let found = last-entry o.tree.inodes n kept.numbers.rise (kept.numbers.is ∙ is) in
      (found.0, found.1, open-last before ∙ found.2)

  pub open-found : (n : ℕ) → is_some o.last_name ≡ false → o.last ≡ Some n → (inode : Inode)
      → Some inode ≡ lookup (is_at (nat_cmp n)) o.tree.inodes → open_file now.state ≡ inode.file
  open-found n before is inode found =
      let there = open-there n before is in
      let both : Some inode ≡ Some there.0 = found ∙ there.1 in
      let same : there.0 ≡ inode = cc both in
      there.2 ∙ ap (λ (i : Inode). i.file) same

  -- ---- with one block more

  module _ (b : ℕ × List ℕ) (number : ℕ) (inode : Inode) (there : inode_at now.state number ≡ Some inode) (after : RoomyTree)
      (inodes : after.inodes ≡ set_value (is_at (nat_cmp number)) o.tree.inodes (longer b number inode))
      (names : after.names ≡ o.tree.names) (links : after.links ≡ o.tree.links) where
    abbrev S : State
    S = state_in o

    abbrev p : Inside
    p = record o { tree = after }

    stands : inode_at S number ≡ Some inode
    stands = ap (λ t. inode_at t.state number) view ∙ there

    abbrev W : State
    W = with_inode S number (longer b number inode)

    same : W ≡ state_in p
    same i = record S { inodes = sym inodes i; names = sym names i }

    directory-by : (q : ℕ) (t : Bool) → is_at (nat_cmp number) q ≡ t → is_dir (inode_at S q) ≡ is_dir (cond t (Some (longer b number inode)) (inode_at S q))
    directory-by q true at = ap (λ n. is_dir (inode_at S n)) (sym (same-number number q at)) ∙ ap is_dir stands
    directory-by q false at = refl

    directory-kept : (q : ℕ) → is_directory S q ≡ is_directory (state_in p) q
    directory-kept q =
        directory-by q (is_at (nat_cmp number) q) refl ∙ ap is_dir (sym (inode_at-with_inode S number inode (longer b number inode) q stands))
        ∙ ap (λ T. is_directory T q) same

    pub kept-block : IsKept p
    kept-block = record {
      tree = record {
        inodes = refl;
        names = refl;
        links = subst (λ (T : State). AreLinks T after.links) same
            (subst (AreLinks W) (sym links) (links-changed S o.tree.links kept.tree.links number inode (longer b number inode) stands refl));
        in_order = subst (λ (l : List (ℕ × ℕ)). IsStrictlySortedBy nat_cmp (keys_of l)) (sym links) kept.tree.in_order;
      };
      numbers = subst (λ (ks : List ℕ). IsLast nat_cmp ks o.last)
          (sym (ap keys_of inodes ∙ keys-set_value (is_at (nat_cmp number)) o.tree.inodes (longer b number inode))) kept.numbers;
      keys = subst (λ (ns : List (NameKey × ℕ)). IsLast name_key_cmp (keys_of ns) (option_map key_of o.last_name)) (sym names) kept.keys;
      named = λ n. kept.named n ∙ ap (λ d. d && nat_lt 0 (names_to S n)) (directory-kept n)
          ∙ ap (λ (ns : List (NameKey × ℕ)). is_directory (state_in p) n && nat_lt 0 (count_by (λ e. e.1 == n) ns)) (sym names);
      limit = kept.limit;
    }

    pub told-block : last_of (keys_of now.state.inodes) ≡ Some number
        → told_in p ≡ record { state = record now.state { inodes = with_last_block b now.state.inodes }; records = now.records }
    told-block last =
        let set = set-last b number inode o.tree.inodes kept.numbers.rise (ap (λ t. last_of (keys_of t.state.inodes)) view ∙ last) stands in
        (λ i. record { state = record (state_in o) { inodes = (inodes ∙ set) i; names = names i }; records = (told_in o).records })
        ∙ (λ i. record { state = record (view i).state { inodes = with_last_block b (view i).state.inodes }; records = (view i).records })
