-- The rows of a state that a store may begin with are what their types can hold.
use Rattle.std.proofs.Common.{◌≡◌, ℕ, ◌*◌, ◌<◌, ◌≤◌, ◌^◌, ◌==◌, zero, suc, Bool, true, false, ◌&&◌, ◌||◌, nat_le, nat_lt, List, [], ◌∷◌, ◌++◌, length, map, take, drop, All, Option, Some, None, is_some, slice_index_or, refl, sym, ap, subst, ◌∙◌, arith, tests}
use Rattle.std.specs.List.{flat_map, list_all, list_any, AllByRecursion}
use Rattle.std.specs.Map.{values_of}
use Rattle.std.specs.Ordering.{nat_cmp}
use Rattle.std.specs.BTreeMap.{is_at}
use Rattle.std.proofs.lemmas.Bool.{and_parts, eqb-true}
use Rattle.std.proofs.lemmas.List.Elements.{All-append, All-cons, All-head, All-map, All-nil, All-tail, recursion_from_All}
use Rattle.qrules.specs.declared.kind.Kind.{Kind}
use Rattle.qrules.specs.declared.kind.Kind.TheVariants.{User, Group, Project}
use Rattle.qrules.specs.declared.limits.Limits.{Limits}
use Rattle.qrules.specs.declared.limits.TheConstants.{MAX_LIMIT}
use Rattle.qrules.specs.declared.graces.Graces.{Graces}
use Rattle.qrules.specs.declared.graces.TheConstants.{MAX_GRACE}
use Rattle.qrules.specs.Kinds.{is_same_kind}
use Rattle.qrules.specs.Range.{are_graces_in_range, are_limits_in_range}
use Rattle.qrules.specs.Sort.{Inodes, Blocks}
use Rattle.qblocks.specs.declared.block.TheConstants.{BLOCK_SIZE}
use Rattle.qblocks.specs.File.{File, begins_below, size_of}
use Rattle.qplain.specs.declared.edition.Edition.{Edition}
use Rattle.qplain.specs.declared.edition.Edition.TheVariants.{One, Two}
use Rattle.qplain.specs.declared.owners.Owners.{Owners}
use Rattle.qplain.specs.declared.principal.Principal.{Principal}
use Rattle.qplain.specs.declared.setup.TheConstants.{MAX_BLOCKS, MAX_INODES}
use Rattle.qplain.specs.Editions.{file_limit_of}
use Rattle.qplain.specs.Held.{IsEnd}
use Rattle.qplain.specs.Known.{is_holder}
use Rattle.qplain.specs.Paths.{ArePathBytes, is_path_byte}
use Rattle.qplain.specs.Principals.{is_letter, is_name_byte, is_principal_in_range, is_principal_name}
use Rattle.qplain.specs.Ranges.{AreBytes, AreLimits, IsOwner}
use Rattle.qplain.specs.Setups.{Setting, principals_in}
use Rattle.qplain.specs.State.{Holder, Inode, NameKey, State, holder_of, inode_at, is_directory, start}
use Rattle.qplain.specs.Use.{use_of}
use Rattle.qplain_laws.specs.Beginnings.{IsStateOf}
use Rattle.qplain_laws.specs.Laws.{AreKnown, identity_of, is_known_owner}
use Rattle.qplain_laws.specs.PathNames.{IsPathName}
use Rattle.qplain_laws.specs.SettingRanges.{IsEndInRange, IsHolderInRange}
use Rattle.qplain_laws.specs.Sizes.{IsRightSized}
use Rattle.qplain_laws.proofs.Finding.{found-key}
use Rattle.qplain_laws.proofs.Fitting.{some-is_dir}
use Rattle.qplain_laws.proofs.Replacing.{use-le-total}
use Rattle.qplain_laws.proofs.Start.{all-declared, principals-ranged}
use Rattle.qplain_laws.proofs.Tables.{same-number}
use Rattle.qplain_laws.proofs.Tallying.{setup-small}
use Rattle.qplain_image.specs.Blocks.{block_in}
use Rattle.qplain_image.specs.Rows.{Directory, FileHead, Block, Name, holder_row, inode_rows, rows_by, rows_of}
use Rattle.qtext.proofs.Joining.{and_both, passes_weaker}
use Rattle.qtext_image.specs.Held.{AreOwners, IsStateTyped, IsRow}

-- ---- numbers

limits-small : (l : Limits) → are_limits_in_range l ≡ true → AreLimits l
limits-small l is =
    let inode_hard = and_parts _ (nat_le l.inode_hard MAX_LIMIT) is in
    let inode_soft = and_parts _ (nat_le l.inode_soft MAX_LIMIT) inode_hard.0 in
    let block = and_parts (nat_le l.block_soft MAX_LIMIT) (nat_le l.block_hard MAX_LIMIT) inode_soft.0 in
    record {
      block_soft = small l.block_soft block.0;
      block_hard = small l.block_hard block.1;
      inode_soft = small l.inode_soft inode_soft.1;
      inode_hard = small l.inode_hard inode_hard.1;
    }
  where
    small : (n : ℕ) → nat_le n MAX_LIMIT ≡ true → n < 2 ^ 64
    small n le = grind (arith, tests)

end-small : (end : Option ℕ) → IsEndInRange end → IsEnd end
end-small None is = tt
end-small (Some end) is = omega (arith, is)

graces-small : (g : Graces) → are_graces_in_range g ≡ true → (g.block < 2 ^ 64) × (g.inode < 2 ^ 64)
graces-small g is =
    let inode = and_parts _ (nat_le g.inode MAX_GRACE) is in
    let some = and_parts _ (nat_le 1 g.inode) inode.0 in
    let block = and_parts (nat_le 1 g.block) (nat_le g.block MAX_GRACE) some.0 in
    (small g.block block.1, small g.inode inode.1)
  where
    small : (n : ℕ) → nat_le n MAX_GRACE ≡ true → n < 2 ^ 64
    small n le = grind (arith, tests)

pub limit-small : (edition : Edition) → file_limit_of edition < 2 ^ 64
limit-small One = omega arith
limit-small Two = omega arith

-- ---- names

letter-prints : (b : ℕ) → is_letter b ≡ true → is_path_byte b ≡ true
letter-prints b is = grind (arith, tests)

name-prints : (b : ℕ) → is_name_byte b ≡ true → is_path_byte b ≡ true
name-prints b is = grind (arith, tests)

-- a principal's name can be a path's
principal-prints : (name : List ℕ) → is_principal_name name ≡ true → ArePathBytes name
principal-prints [] is = absurd (cc is)
principal-prints (first ∷ rest) is =
    let short = and_parts (is_letter first && list_all is_name_byte rest) (nat_le (length rest) 15) is in
    let letters = and_parts (is_letter first) (list_all is_name_byte rest) short.0 in
    record {
      some = grind (arith, tests);
      each = and_both (is_path_byte first) (list_all is_path_byte rest) (letter-prints first letters.0)
          (passes_weaker is_name_byte is_path_byte rest name-prints letters.1);
    }

-- so can each name in a state
name-prints-whole : (name : List ℕ) → IsPathName name → ArePathBytes name
name-prints-whole [] is = absurd (cc is.own)
name-prints-whole (first ∷ rest) is = record { some = grind (arith, tests); each = is.prints }

-- ---- holders

abbrev IsCalled : Holder → Type 0
IsCalled h = is_principal_name h.name ≡ true

declared-called : (kind : Kind) (ps : List Principal) → list_all is_principal_in_range ps ≡ true → All IsCalled (map (holder_of kind) ps)
declared-called kind [] are = All-nil IsCalled
declared-called kind (p ∷ ps) are =
    let parts = and_parts (is_principal_in_range p) (list_all is_principal_in_range ps) are in
    let name = (and_parts (is_principal_name p.name) (are_limits_in_range p.limits) parts.0).0 in
    All-cons IsCalled (holder_of kind p) (map (holder_of kind) ps) name (declared-called kind ps parts.1)

-- names stay where holders stay who they are
called-kept : (gs hs : List Holder) → map identity_of hs ≡ map identity_of gs → All IsCalled gs → All IsCalled hs
called-kept gs [] e all = All-nil IsCalled
called-kept [] (h ∷ hs) e all = absurd (cc e)
called-kept (g ∷ gs) (h ∷ hs) e all =
    let same : identity_of h ≡ identity_of g = cc e in
    let name : h.name ≡ g.name = ap (λ i. i.2) same in
    All-cons IsCalled h hs (ap is_principal_name name ∙ All-head IsCalled g gs all) (called-kept gs hs (cc e) (All-tail IsCalled g gs all))

-- so the holders of a state have names of principals
pub holders-called : (setting : Setting) (S : State) → IsStateOf setting S → All (λ h. is_principal_name h.name ≡ true) S.holders
holders-called setting S is =
    called-kept (start setting).holders S.holders is.keeps.holders
    (all-declared setting is.setup IsCalled (λ kind. declared-called kind (principals_in kind setting) (principals-ranged setting is.setup kind)))

-- ---- owners

declared-small : (kind : Kind) (id : ℕ) (hs : List Holder) → AllByRecursion (λ h. h.id < 2 ^ 32) hs → list_any (is_holder kind id) hs ≡ true → id < 2 ^ 32
declared-small kind id [] small found = absurd (cc found)
declared-small kind id (h ∷ hs) small found = by (is_holder kind id h) refl found (declared-small kind id hs small.1)
  where
    by : (b : Bool) → is_holder kind id h ≡ b → (b || list_any (is_holder kind id) hs) ≡ true
        → (list_any (is_holder kind id) hs ≡ true → id < 2 ^ 32) → id < 2 ^ 32
    by true at found later =
        let same : id ≡ h.id = eqb-true id h.id (and_parts (is_same_kind kind h.kind) (id == h.id) at).1 in
        subst (λ n. n < 2 ^ 32) (sym same) small.0
    by false at found later = later found

owner-small : (S : State) (kind : Kind) (owner : Option ℕ) → All (λ h. h.id < 2 ^ 32) S.holders → is_known_owner S kind owner ≡ true → IsOwner owner
owner-small S kind None ids known = tt
owner-small S kind (Some id) ids known = declared-small kind id S.holders (recursion_from_All (λ (h : Holder). h.id < 2 ^ 32) S.holders ids) known

owners-small : (S : State) (o : Owners) → All (λ h. h.id < 2 ^ 32) S.holders → AreKnown S o → AreOwners o
owners-small S o ids known = record {
  uid = owner-small S User (Some o.uid) ids (known User);
  gid = owner-small S Group (Some o.gid) ids (known Group);
  project = owner-small S Project o.project ids (known Project);
}

-- ---- bytes

taken-bytes : (n : ℕ) (xs : List ℕ) → AreBytes xs → AreBytes (take n xs)
taken-bytes zero xs all i = omega arith
taken-bytes (suc n) [] all i = omega arith
taken-bytes (suc n) (x ∷ xs) all zero = all 0
taken-bytes (suc n) (x ∷ xs) all (suc i) = taken-bytes n xs (λ j. all (suc j)) i

dropped-bytes : (n : ℕ) (xs : List ℕ) → AreBytes xs → AreBytes (drop n xs)
dropped-bytes zero xs all = all
dropped-bytes (suc n) [] all = all
dropped-bytes (suc n) (x ∷ xs) all = dropped-bytes n xs (λ j. all (suc j))

block-small : (file : File) (k : ℕ) → size_of file < 2 ^ 64 → AreBytes file.bytes → begins_below (size_of file) k ≡ true → IsRow (Block (k, block_in file k))
block-small file k size bytes below = (
  grind (arith, tests),
  taken-bytes BLOCK_SIZE (drop (k * BLOCK_SIZE) file.bytes) (dropped-bytes (k * BLOCK_SIZE) file.bytes bytes),
)

blocks-small : (file : File) (ks : List ℕ) → size_of file < 2 ^ 64 → AreBytes file.bytes → AllByRecursion (λ k. begins_below (size_of file) k ≡ true) ks
    → All IsRow (map (λ b. Block b) (map (λ k. (k, block_in file k)) ks))
blocks-small file [] size bytes below = All-nil IsRow
blocks-small file (k ∷ ks) size bytes below =
    All-cons IsRow (Block (k, block_in file k)) _ (block-small file k size bytes below.0) (blocks-small file ks size bytes below.1)

-- ---- inodes

-- what is wanted of an inode beside its number
record IsSmall (e : ℕ × Inode) : Type 0 where
  number : e.0 < 2 ^ 64
  owners : AreOwners e.1.owners
  size : size_of e.1.file < 2 ^ 64
  below : All (λ k. begins_below (size_of e.1.file) k ≡ true) e.1.file.allocated
  bytes : AreBytes e.1.file.bytes

-- as it is in a state of these bounds
abbrev IsFit : ℕ → Inode → Type 0
IsFit limit inode = AreOwners inode.owners × IsRightSized limit inode.file × AreBytes inode.file.bytes

inodes-fit : (limit next : ℕ) (es : List (ℕ × Inode)) → limit < 2 ^ 64 → next < 2 ^ 64 → All (λ e. nat_lt e.0 next ≡ true) es → All (IsFit limit) (values_of es)
    → AllByRecursion IsSmall es
inodes-fit limit next [] small few fresh fit = tt
inodes-fit limit next (e ∷ es) small few fresh fit =
    let low : nat_lt e.0 next ≡ true = All-head (λ e. nat_lt e.0 next ≡ true) e es fresh in
    let is = All-head (IsFit limit) e.1 (values_of es) fit in (
      record {
        number = grind (arith, tests);
        owners = is.0;
        size = omega (arith, is.1.size, small);
        below = is.1.blocks;
        bytes = is.2;
      },
      inodes-fit limit next es small few (All-tail (λ e. nat_lt e.0 next ≡ true) e es fresh) (All-tail (IsFit limit) e.1 (values_of es) fit),
    )

inode-small : (dir : Bool) (e : ℕ × Inode) → IsSmall e → All IsRow (rows_by dir e.0 e.1.owners e.1.file)
inode-small true e is = All-cons IsRow (Directory e.0 e.1.owners) [] (is.number, is.owners) (All-nil IsRow)
inode-small false e is =
    All-cons IsRow (FileHead e.0 e.1.owners (size_of e.1.file)) _ (is.number, is.owners, is.size)
    (blocks-small e.1.file e.1.file.allocated is.size is.bytes
    (recursion_from_All (λ k. begins_below (size_of e.1.file) k ≡ true) e.1.file.allocated is.below))

inodes-small : (es : List (ℕ × Inode)) → AllByRecursion IsSmall es → All IsRow (flat_map inode_rows es)
inodes-small [] all = All-nil IsRow
inodes-small (e ∷ es) all = All-append IsRow (inode_rows e) (flat_map inode_rows es) (inode-small e.1.dir e all.0) (inodes-small es all.1)

-- ---- the state

module _ (setting : Setting) (S : State) (is : IsStateOf setting S) (typed : IsStateTyped S) where
  bounds : (S.size ≤ MAX_BLOCKS) × (S.most_inodes ≤ MAX_INODES)
  bounds =
      let small = setup-small setting is.setup in
      (subst (λ n. n ≤ MAX_BLOCKS) (sym is.keeps.size) small.0, subst (λ n. n ≤ MAX_INODES) (sym is.keeps.most_inodes) small.1)

  uses : (h : Holder) → (use_of S h.kind h.id Blocks < 2 ^ 64) × (use_of S h.kind h.id Inodes < 2 ^ 64)
  uses h = (
    omega (arith, use-le-total S h.kind h.id Blocks, is.lawful.blocks_fit, bounds.0),
    omega (arith, use-le-total S h.kind h.id Inodes, is.lawful.inodes_fit, bounds.1),
  )

  holders : All IsRow (map (holder_row S) S.holders)
  holders = All-map IsRow (holder_row S) S.holders (λ k d below.
      let h : Holder = slice_index_or S.holders k d in
      let ranged : IsHolderInRange h = is.ranges.holders k d below in
      let used = uses h in (
        record {
          id = typed.ids k d below;
          name = principal-prints h.name (holders-called setting S is k d below);
          limits = limits-small h.limits ranged.limits;
          block_end = end-small h.block_end ranged.block_end;
          inode_end = end-small h.inode_end ranged.inode_end;
        },
        used.0,
        used.1,
      ))

  file_limit : S.file_limit < 2 ^ 64
  file_limit = subst (λ n. n < 2 ^ 64) (sym is.keeps.file_limit) (limit-small setting.edition)

  inodes : All IsRow (flat_map inode_rows S.inodes)
  inodes = inodes-small S.inodes (inodes-fit S.file_limit S.next S.inodes file_limit (omega (arith, is.lawful.next_fits)) is.lawful.parts.inodes.fresh
      (λ k d below.
      let inode : Inode = slice_index_or (values_of S.inodes) k d in
      (owners-small S inode.owners typed.ids (is.lawful.parts.inodes.owners_known k d below), is.sized k d below, typed.bytes k d below)))

  there-small : (number : ℕ) → is_some (inode_at S number) ≡ true → number < 2 ^ 64
  there-small number some = by (inode_at S number) refl some
    where
      by : (o : Option Inode) → inode_at S number ≡ o → is_some o ≡ true → number < 2 ^ 64
      by None none some = absurd (cc some)
      by (Some inode) there some =
          let key = found-key (λ e. nat_lt e.0 S.next ≡ true) (is_at (nat_cmp number)) S.inodes inode is.lawful.parts.inodes.fresh there in
          let same : number ≡ key.0 = same-number number key.0 key.1 in
          let below : key.0 < S.next = grind (arith, tests, key.2) in
          omega (arith, same, below, is.lawful.next_fits)

  names : All IsRow (map (λ e. Name e.0 e.1) S.names)
  names = All-map IsRow (λ (e : NameKey × ℕ). Name e.0 e.1) S.names (λ k d below.
      let e : NameKey × ℕ = slice_index_or S.names k d in
      let led = and_parts (is_directory S e.0.0) (is_some (inode_at S e.1)) (is.lawful.parts.names.lead k d below) in (
        there-small e.0.0 (some-is_dir (inode_at S e.0.0) led.0),
        name-prints-whole e.0.1 (is.named k d below),
        there-small e.1 led.1,
      ))

  pub rows-typed : AllByRecursion IsRow (rows_of S)
  rows-typed = (
    (omega (arith, bounds.0), omega (arith, bounds.1), omega (arith, is.lawful.next_fits)),
    (
      graces-small S.graces is.ranges.graces,
      recursion_from_All IsRow (map (holder_row S) S.holders ++ (flat_map inode_rows S.inodes ++ map (λ e. Name e.0 e.1) S.names))
          (All-append IsRow (map (holder_row S) S.holders) (flat_map inode_rows S.inodes ++ map (λ e. Name e.0 e.1) S.names) holders
          (All-append IsRow (flat_map inode_rows S.inodes) (map (λ e. Name e.0 e.1) S.names) inodes names)),
    ),
  )
