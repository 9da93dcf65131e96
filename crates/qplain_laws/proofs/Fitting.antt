-- What every plain result keeps of a lawful state, before its bounds and ends are looked at.
use Rattle.std.proofs.Common.{◌≡◌, ℕ, ◌+◌, ◌==◌, Bool, true, false, not, ◌&&◌, ◌||◌, nat_lt, cond, List, [], ◌∷◌, All, map, IfSome, slice_index_or, Option, Some, None, is_some, refl, sym, ap, subst, ◌∙◌, tests, arith}
use Rattle.std.specs.List.{AllByRecursion, list_any}
use Rattle.std.specs.List.Sorted.{IsStrictlySortedBy}
use Rattle.std.specs.Map.{values_of}
use Rattle.std.specs.declared.cmp.Ordering.TheVariants.{Less}
use Rattle.std.specs.Ordering.{nat_cmp, ordering_then}
use Rattle.std.specs.BTreeMap.{is_at}
use Rattle.std.specs.Cmp.{nat_cmp_total}
use Rattle.std.proofs.lemmas.Map.{keys-set_value}
use Rattle.std.proofs.lemmas.Map.Views.{All-values-insert_entry, All-values-set_value, IfSome-lookup_from_All}
use Rattle.qrules.specs.declared.kind.Kind.{Kind}
use Rattle.qrules.specs.declared.kind.Kind.TheVariants.{Project}
use Rattle.qrules.specs.Kinds.{is_same_kind, rank_of}
use Rattle.qplain.specs.declared.bounds.TheConstants.{MAX_LINKS, ROOT}
use Rattle.qplain.specs.State.{Holder, Inode, NameKey, State, holder_cmp, inode_at, is_dir, is_directory, name_key_cmp, named}
use Rattle.qplain.specs.Use.{has_too_many_links, links_of, names_to, owner}
use Rattle.qplain.specs.Known.{is_holder}
use Rattle.qplain.specs.Files.{with_inode}
use Rattle.qplain.specs.Names.{created, project_of}
use Rattle.qplain_laws.specs.Laws.{AreKnown, FitsTogether, IsSound, has_right_names, is_known_owner, leads}
use Rattle.qplain_laws.proofs.FewLinks.{few-links, none-too_many, too_many-same}
use Rattle.qplain_laws.proofs.Sound.{MayFollow}
use Rattle.qplain_laws.proofs.Orders.{All-changed, sorted-insert}
use Rattle.qplain_laws.proofs.Tables.{All-insert_new, All-keys-set_value, lookup-insert_new, absent-fresh, at-itself, count_by-agree, count_by-none, name_key_total, same-number, seen-set_value, sum_by-insert_new}

-- ---- holders that keep their kind and id

-- the change keeps who each holder is
abbrev pub KeepsHolders : (Holder → Holder) → Type 0
KeepsHolders f = ((h : Holder) → (f h).kind ≡ h.kind) × ((h : Holder) → (f h).id ≡ h.id)

-- the same principals are declared
declared-map : (f : Holder → Holder) → KeepsHolders f → (kind : Kind) (id : ℕ) (hs : List Holder)
    → list_any (is_holder kind id) (map f hs) ≡ list_any (is_holder kind id) hs
declared-map f keeps kind id [] = refl
declared-map f keeps kind id (h ∷ hs) =
    λ i. (is_same_kind kind (keeps.0 h i) && id == keeps.1 h i) || declared-map f keeps kind id hs i

-- and principals of the same kinds
kinds-map : (f : Holder → Holder) → KeepsHolders f → (kind : Kind) (hs : List Holder)
    → list_any (λ h. is_same_kind kind h.kind) (map f hs) ≡ list_any (λ h. is_same_kind kind h.kind) hs
kinds-map f keeps kind [] = refl
kinds-map f keeps kind (h ∷ hs) = λ i. is_same_kind kind (keeps.0 h i) || kinds-map f keeps kind hs i

-- so the same owners are known
known-map : (S : State) (f : Holder → Holder) → KeepsHolders f → (kind : Kind) (o : Option ℕ)
    → is_known_owner (record S { holders = map f S.holders }) kind o ≡ is_known_owner S kind o
known-map S f keeps kind None = ap not (kinds-map f keeps kind S.holders)
known-map S f keeps kind (Some id) = declared-map f keeps kind id S.holders

each-apart-map : (f : Holder → Holder) → KeepsHolders f → (g : Holder) (hs : List Holder)
    → AllByRecursion (λ h. holder_cmp g h ≡ Less) hs → AllByRecursion (λ h. holder_cmp (f g) h ≡ Less) (map f hs)
each-apart-map f keeps g [] above = tt
each-apart-map f keeps g (h ∷ hs) above = (
  (λ i. ordering_then (nat_cmp (rank_of (keeps.0 g i)) (rank_of (keeps.0 h i))) (nat_cmp (keeps.1 g i) (keeps.1 h i)))
      ∙ above.0,
  each-apart-map f keeps g hs above.1,
)

-- holders stay in order
sorted-map : (f : Holder → Holder) → KeepsHolders f → (hs : List Holder) → IsStrictlySortedBy holder_cmp hs → IsStrictlySortedBy holder_cmp (map f hs)
unfolding IsStrictlySortedBy
sorted-map f keeps [] sorted = tt
sorted-map f keeps (h ∷ hs) sorted = (each-apart-map f keeps h hs sorted.0, sorted-map f keeps hs sorted.1)

-- a state whose holders alone were changed, and kept who they are, still fits together
pub fits-map : (S : State) (f : Holder → Holder) → KeepsHolders f → FitsTogether S → FitsTogether (record S { holders = map f S.holders })
fits-map S f keeps fits = record {
  links = too_many-same S (map f S.holders) S.graces ∙ fits.links;
  holders = sorted-map f keeps S.holders fits.holders;
  inodes = record {
    in_order = fits.inodes.in_order;
    fresh = fits.inodes.fresh;
    owners_known = λ k d below kind.
        known-map S f keeps kind (owner kind (slice_index_or (values_of S.inodes) k d).owners) ∙ fits.inodes.owners_known k d below kind;
    sound = fits.inodes.sound;
    root_stands = fits.inodes.root_stands;
  };
  names = record { in_order = fits.names.in_order; lead = fits.names.lead; counted = fits.names.counted };
}

-- ---- a new inode under a new name

and_parts : (a b : Bool) → (a && b) ≡ true → (a ≡ true) × (b ≡ true)
and_parts true b h = (refl, h)
and_parts false b h = cc

and_both : (a b : Bool) → a ≡ true → b ≡ true → (a && b) ≡ true
and_both a b p q = rw (p, q) refl

-- what holds is enough
pub or_right : (a b : Bool) → b ≡ true → (a || b) ≡ true
or_right true b h = refl
or_right false b h = h

or_left : (a b : Bool) → a ≡ true → (a || b) ≡ true
or_left true b h = refl
or_left false b h = cc

or_more : (a b c : Bool) → (a || c) ≡ true → (a || (b || c)) ≡ true
or_more true b c h = refl
or_more false true c h = refl
or_more false false c h = h

later : (n next : ℕ) → nat_lt n next ≡ true → nat_lt n (next + 1) ≡ true
later n next h = grind (arith, tests, h)

-- a directory is there
pub some-is_dir : (o : Option Inode) → is_dir o ≡ true → is_some o ≡ true
some-is_dir None h = cc
some-is_dir (Some inode) h = refl

cond_other : (b : Bool) (x y : Option Inode) → b ≡ false → cond b x y ≡ y
cond_other true x y h = cc
cond_other false x y h = refl

-- a test that is not true is false
pub not_both : (b : Bool) → (b ≡ true → ⊥) → b ≡ false
not_both true h = absurd (h refl)
not_both false h = refl

same-is_some : (S : State) (m n : ℕ) → (m == n) ≡ true → is_some (inode_at S m) ≡ is_some (inode_at S n)
same-is_some S m n same = let equal : m ≡ n = grind (arith, tests, same) in ap (λ q. is_some (inode_at S q)) equal

-- a number at which there is an inode is not one at which there is none
pub apart : (S : State) (m n : ℕ) → is_some (inode_at S m) ≡ true → inode_at S n ≡ None → (m == n) ≡ false
apart S m n there none = not_both (m == n) (λ same.
    let gone : is_some (inode_at S m) ≡ false = same-is_some S m n same ∙ ap (λ o. is_some o) none in
    cc)

-- whether so many names are as many as the root, a directory or a file may have
abbrev pub right : Bool → Bool → ℕ → Bool
right is_root is_dir names = cond is_root (names == 0) (cond is_dir (names == 1) (nat_lt 0 names))

one-right : (is_root is_dir : Bool) → is_root ≡ false → right is_root is_dir 1 ≡ true
one-right true is_dir h = cc
one-right false true h = refl
one-right false false h = refl

module _ (S : State) (inode : Inode) (dir : ℕ) (name : List ℕ) (fits : FitsTogether S) (stands : is_directory S dir ≡ true)
    (absent : named S dir name ≡ None) where
  -- what is at a number then
  after : (q : ℕ) → inode_at (created S inode dir name) q ≡ cond (is_at (nat_cmp q) S.next) (Some inode) (inode_at S q)
  after q = lookup-insert_new nat_cmp_total S.inodes S.next inode q (absent-fresh S.inodes S.next fits.inodes.fresh)

  -- what was there is there still
  stays : (q : ℕ) → is_some (inode_at S q) ≡ true → inode_at (created S inode dir name) q ≡ inode_at S q
  stays q there =
      after q ∙ cond_other (is_at (nat_cmp q) S.next) (Some inode) (inode_at S q) (not_both (is_at (nat_cmp q) S.next) (λ at_next.
      let moved : inode_at S q ≡ None = ap (inode_at S) (same-number q S.next at_next) ∙ absent-fresh S.inodes S.next fits.inodes.fresh in
      let gone : is_some (inode_at S q) ≡ false = ap is_some moved in
      cc))

  directory-stays : (q : ℕ) → is_directory S q ≡ true → is_directory (created S inode dir name) q ≡ true
  directory-stays q h = ap is_dir (stays q (some-is_dir (inode_at S q) h)) ∙ h

  leads-stays : (e : NameKey × ℕ) → leads S e ≡ true → leads (created S inode dir name) e ≡ true
  leads-stays e h =
      let parts : (is_directory S e.0.0 ≡ true) × (is_some (inode_at S e.1) ≡ true) = and_parts (is_directory S e.0.0) (is_some (inode_at S e.1)) h in
      and_both (is_directory (created S inode dir name) e.0.0) (is_some (inode_at (created S inode dir name) e.1))
      (directory-stays e.0.0 parts.0) (ap is_some (stays e.1 parts.1) ∙ parts.1)

  -- the new inode is there
  new_there : is_some (inode_at (created S inode dir name) S.next) ≡ true
  new_there = ap is_some (after S.next ∙ ap (λ b. cond b (Some inode) (inode_at S S.next)) (at-itself S.next))

  -- how many names lead to a number then
  names_to-after : (q : ℕ) → names_to (created S inode dir name) q ≡ names_to S q + cond (S.next == q) 1 0
  names_to-after q = sum_by-insert_new (λ (e : NameKey × ℕ). cond (e.1 == q) 1 0) name_key_cmp S.names (dir, name) S.next absent

  -- no name led to the next number
  unnamed-next : names_to S S.next ≡ 0
  unnamed-next = count_by-none (λ e. e.1 == S.next) S.names (λ k d below.
      let e : NameKey × ℕ = slice_index_or S.names k d in
      apart S e.1 S.next (and_parts (is_directory S e.0.0) (is_some (inode_at S e.1)) (fits.names.lead k d below)).1
      (absent-fresh S.inodes S.next fits.inodes.fresh))

  other-number : (n : ℕ) → nat_lt n S.next ≡ true → (S.next == n) ≡ false
  other-number n below = grind (arith, tests, below)

  counted-stays : (e : ℕ × Inode) → nat_lt e.0 S.next ≡ true → has_right_names S e ≡ true → has_right_names (created S inode dir name) e ≡ true
  counted-stays e below counted =
      let same : names_to (created S inode dir name) e.0 ≡ names_to S e.0 =
      names_to-after e.0 ∙ ap (λ b. names_to S e.0 + cond b 1 0) (other-number e.0 below) ∙ omega arith in
      ap (right (e.0 == ROOT) e.1.dir) same ∙ counted

  root-apart : (S.next == ROOT) ≡ false
  root-apart =
      let differ : (ROOT == S.next) ≡ false =
      apart S ROOT S.next (some-is_dir (inode_at S ROOT) fits.inodes.root_stands) (absent-fresh S.inodes S.next fits.inodes.fresh) in
      grind (arith, tests, differ)

  -- a sound inode of known owners leaves parts that fit together
  pub created_fits : AreKnown S inode.owners → IsSound inode → has_too_many_links (created S inode dir name) ≡ false
      → FitsTogether (created S inode dir name)
  created_fits known sound few = record {
    links = few;
    holders = fits.holders;
    inodes = record {
      in_order = sorted-insert nat_cmp_total S.inodes S.next inode fits.inodes.in_order;
      fresh = All-insert_new (λ e. nat_lt e.0 (S.next + 1) ≡ true) nat_cmp S.inodes S.next inode (absent-fresh S.inodes S.next fits.inodes.fresh)
          (λ k d below. later (slice_index_or S.inodes k d).0 S.next (fits.inodes.fresh k d below)) (grind (arith, tests));
      owners_known = All-values-insert_entry nat_cmp S.next inode (λ i. AreKnown S i.owners) S.inodes fits.inodes.owners_known known;
      sound = All-values-insert_entry nat_cmp S.next inode IsSound S.inodes fits.inodes.sound sound;
      root_stands = directory-stays ROOT fits.inodes.root_stands;
    };
    names = record {
      in_order = sorted-insert name_key_total S.names (dir, name) S.next fits.names.in_order;
      lead = All-insert_new (λ e. leads (created S inode dir name) e ≡ true) name_key_cmp S.names (dir, name) S.next absent
          (λ k d below. leads-stays (slice_index_or S.names k d) (fits.names.lead k d below))
          (and_both (is_directory (created S inode dir name) dir) (is_some (inode_at (created S inode dir name) S.next))
          (directory-stays dir stands) new_there);
      counted = All-insert_new (λ e. has_right_names (created S inode dir name) e ≡ true) nat_cmp S.inodes S.next inode
          (absent-fresh S.inodes S.next fits.inodes.fresh)
          (λ k d below. counted-stays (slice_index_or S.inodes k d) (fits.inodes.fresh k d below) (fits.names.counted k d below))
          (let itself : (S.next == S.next) ≡ true = grind (arith, tests) in
          let one : names_to (created S inode dir name) S.next ≡ 1 = names_to-after S.next ∙ (λ i. unnamed-next i + cond (itself i) 1 0) in
          ap (right (S.next == ROOT) inode.dir) one ∙ one-right (S.next == ROOT) inode.dir root-apart);
    };
  }

-- ---- a changed inode

-- what holds of the owners of every inode, and of every inode by itself, holds of one that is there
pub known-owners : (S : State) (number : ℕ) (inode : Inode) → FitsTogether S → inode_at S number ≡ Some inode → AreKnown S inode.owners
known-owners S number inode fits there =
    let known : IfSome (inode_at S number) (λ i. AreKnown S i.owners) =
    IfSome-lookup_from_All (λ i. AreKnown S i.owners) (is_at (nat_cmp number)) S.inodes fits.inodes.owners_known in
    let at : Option Inode → Type 0 = λ o. IfSome o (λ i. AreKnown S i.owners) in
    subst at there known

-- a directory's project is known
pub known-project : (S : State) (dir : ℕ) → FitsTogether S → is_directory S dir ≡ true
    → is_known_owner S Project (project_of (inode_at S dir)) ≡ true
known-project S dir fits stands = by (inode_at S dir) refl stands
  where
    by : (o : Option Inode) → inode_at S dir ≡ o → is_dir o ≡ true → is_known_owner S Project (project_of o) ≡ true
    by None there h = cc
    by (Some inode) there h = known-owners S dir inode fits there Project

pub sound-there : (S : State) (number : ℕ) (inode : Inode) → FitsTogether S → inode_at S number ≡ Some inode → IsSound inode
sound-there S number inode fits there =
    let sound : IfSome (inode_at S number) IsSound = IfSome-lookup_from_All IsSound (is_at (nat_cmp number)) S.inodes fits.inodes.sound in
    let at : Option Inode → Type 0 = λ o. IfSome o IsSound in
    subst at there sound

module _ (S : State) (number : ℕ) (inode changed : Inode) (there : inode_at S number ≡ Some inode) (same : changed.dir ≡ inode.dir) where
  -- an inode that is as much a directory makes no directory and takes none
  pub directory-same : (q : ℕ) → is_directory (with_inode S number changed) q ≡ is_directory S q
  directory-same q = seen-set_value is_dir (is_at (nat_cmp number)) S.inodes inode changed q there same

  some-same : (q : ℕ) → is_some (inode_at (with_inode S number changed) q) ≡ is_some (inode_at S q)
  some-same q = seen-set_value (λ o. is_some o) (is_at (nat_cmp number)) S.inodes inode changed q there refl

  -- nor does it change a link
  pub links_of-changed : (n : ℕ) (b : Bool) → links_of (with_inode S number changed) n b ≡ links_of S n b
  links_of-changed n false = refl
  links_of-changed n true =
      ap (λ m. 2 + m) (count_by-agree (λ e. e.0.0 == n && is_directory (with_inode S number changed) e.1)
      (λ e. e.0.0 == n && is_directory S e.1) S.names
      (λ k d below. ap (λ b. (slice_index_or S.names k d).0.0 == n && b) (directory-same (slice_index_or S.names k d).1)))

  -- so none has too many links then
  pub few-changed : has_too_many_links S ≡ false → has_too_many_links (with_inode S number changed) ≡ false
  few-changed few =
      let all : All (λ e. nat_lt MAX_LINKS (links_of S e.0 e.1.dir) ≡ false) (with_inode S number changed).inodes =
      All-changed (λ e. nat_lt MAX_LINKS (links_of S e.0 e.1.dir) ≡ false) (is_at (nat_cmp number)) S.inodes inode changed there
      (λ n h. ap (λ b. nat_lt MAX_LINKS (links_of S n b)) same ∙ h) (few-links S few) in
      none-too_many (with_inode S number changed) (λ k d below.
      let e : ℕ × Inode = slice_index_or (with_inode S number changed).inodes k d in
      ap (nat_lt MAX_LINKS) (links_of-changed e.0 e.1.dir) ∙ all k d below)

-- an inode that may follow leaves parts that fit together
pub changed_fits : (S : State) (number : ℕ) (inode changed : Inode) → inode_at S number ≡ Some inode → MayFollow S inode changed
    → FitsTogether S → FitsTogether (with_inode S number changed)
changed_fits S number inode changed there follows fits = record {
  links = few-changed S number inode changed there follows.dir fits.links;
  holders = fits.holders;
  inodes = record {
    in_order = subst (IsStrictlySortedBy nat_cmp) (sym (keys-set_value (is_at (nat_cmp number)) S.inodes changed)) fits.inodes.in_order;
    fresh = All-keys-set_value (λ n. nat_lt n S.next ≡ true) (is_at (nat_cmp number)) S.inodes changed fits.inodes.fresh;
    owners_known = All-values-set_value (is_at (nat_cmp number)) (λ i. AreKnown S i.owners) S.inodes changed
        fits.inodes.owners_known (follows.owners (known-owners S number inode fits there));
    sound = All-values-set_value (is_at (nat_cmp number)) IsSound S.inodes changed fits.inodes.sound (follows.sound (sound-there S number inode fits there));
    root_stands = directory-same S number inode changed there follows.dir ROOT ∙ fits.inodes.root_stands;
  };
  names = record {
    in_order = fits.names.in_order;
    lead = λ k d below.
        let e : NameKey × ℕ = slice_index_or S.names k d in
        (λ i. directory-same S number inode changed there follows.dir e.0.0 i && some-same S number inode changed there follows.dir e.1 i)
        ∙ fits.names.lead k d below;
    counted = All-changed (λ e. has_right_names S e ≡ true) (is_at (nat_cmp number)) S.inodes inode changed there
        (λ n counted. ap (λ b. right (n == ROOT) b (names_to S n)) follows.dir ∙ counted) fits.names.counted;
  };
}
