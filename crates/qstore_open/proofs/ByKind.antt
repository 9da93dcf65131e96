-- Holders of the three kinds, one kind behind the other, and what is asked of those of one kind.
use Rattle.std.proofs.Common.{◌≡◌, ℕ, suc, ◌+◌, ◌==◌, Bool, true, false, not, ◌&&◌, ◌||◌, nat_le, nat_lt, List, [], ◌∷◌, ◌++◌, filter, length, map, refl, sym, ap, ◌∙◌, append_assoc, arith, tests}
use Rattle.std.specs.List.{list_all, list_any}
use Rattle.std.specs.Str.{bytes_eq}
use Rattle.std.specs.Ordering.{is_lt, nat_cmp}
use Rattle.std.specs.declared.cmp.Ordering.TheVariants.{Less, Equal, Greater}
use Rattle.std.proofs.lemmas.Bool.{and_parts, eqb-true}
use Rattle.std.proofs.lemmas.List.{append-nil, length-map, map-append, nil_from_length}
use Rattle.std.proofs.lemmas.List.Elements.{filter-append}
use Rattle.std.proofs.lemmas.List.Folds.{list_all-append, list_any-append}
use Rattle.qrules.specs.declared.kind.Kind.{Kind}
use Rattle.qrules.specs.declared.kind.Kind.TheVariants.{User, Group, Project}
use Rattle.qrules.specs.Kinds.{is_same_kind, rank_of}
use Rattle.qplain.specs.declared.principal.Principal.{Principal}
use Rattle.qplain.specs.Known.{is_holder}
use Rattle.qplain.specs.State.{Holder, holder_cmp}
use Rattle.qplain_image.specs.Parts.{HolderPart}
use Rattle.qplain.specs.declared.principal.TheConstants.{MAX_PRINCIPALS}
use Rattle.qtext_image.specs.Faults.{is_begun_kind}
use Rattle.qtext_image.specs.NextFaults.{are_none, is_behind}
use Rattle.qtext_image.specs.Setups.{principal_of, principals_of}
use Rattle.qstore_open.specs.declared.records.ToldRecord.{ToldRecord}
use Rattle.qstore_open.specs.declared.records.ToldRecords.{ToldRecords}
use Rattle.qstore_open.specs.Told.{IsPushed, are_later_none, first_id, holder_of, part_of, parts_of, records_in}

-- the holders of records of one kind
abbrev pub held : Kind → List ToldRecord → List Holder
held kind ts = map (λ t. (part_of kind t).holder) ts

-- the principals that they are
abbrev pub told_principal : ToldRecord → Principal
told_principal t = record { id = t.id; name = t.name; limits = t.quota.limits }

held-parts : (kind : Kind) (ts : List ToldRecord) → map (λ (t : HolderPart). t.holder) (map (part_of kind) ts) ≡ held kind ts
held-parts kind [] = refl
held-parts kind (t ∷ ts) = ap (λ l. (part_of kind t).holder ∷ l) (held-parts kind ts)

pub holders-are : (r : ToldRecords) → map (λ t. t.holder) (parts_of r)
    ≡ held User r.users.items ++ (held Group r.groups.items ++ held Project r.projects.items)
holders-are r =
    map-append (λ (t : HolderPart). t.holder) (map (part_of User) r.users.items) (map (part_of Group) r.groups.items ++ map (part_of Project) r.projects.items)
    ∙ (λ i. held-parts User r.users.items i
    ++ map-append (λ (t : HolderPart). t.holder) (map (part_of Group) r.groups.items) (map (part_of Project) r.projects.items) i)
    ∙ (λ i. held User r.users.items ++ (held-parts Group r.groups.items i ++ held-parts Project r.projects.items i))

-- ---- which stand before one

pub some-told : {A : Type 0} (x : A) (xs : List A) → are_none (x ∷ xs) ≡ false
some-told x xs = grind (arith, tests)

pub lt-less : (a b : ℕ) → is_lt (nat_cmp a b) ≡ nat_lt a b
lt-less a b = grind (arith, tests)

module _ (h : Holder) where
  behind-lower : (kind : Kind) (ts : List ToldRecord) → nat_cmp (rank_of kind) (rank_of h.kind) ≡ Less → is_behind holder_cmp (held kind ts) h ≡ true
  behind-lower kind [] lower = refl
  behind-lower kind (t ∷ ts) lower = rw (lower, behind-lower kind ts lower) refl

  behind-same : (kind : Kind) (ts : List ToldRecord) → nat_cmp (rank_of kind) (rank_of h.kind) ≡ Equal
      → is_behind holder_cmp (held kind ts) h ≡ list_all (λ t. nat_lt t.id h.id) ts
  behind-same kind [] same = refl
  behind-same kind (t ∷ ts) same = rw (same, behind-same kind ts same, lt-less t.id h.id) refl

  behind-higher : (kind : Kind) (ts : List ToldRecord) → nat_cmp (rank_of kind) (rank_of h.kind) ≡ Greater
      → is_behind holder_cmp (held kind ts) h ≡ are_none ts
  behind-higher kind [] higher = refl
  behind-higher kind (t ∷ ts) higher = rw higher (sym (some-told t ts))

  -- all of them, kind by kind
  pub behind-all : (r : ToldRecords) → is_behind holder_cmp (map (λ t. t.holder) (parts_of r)) h
      ≡ (is_behind holder_cmp (held User r.users.items) h
      && (is_behind holder_cmp (held Group r.groups.items) h && is_behind holder_cmp (held Project r.projects.items) h))
  behind-all r =
      ap (λ hs. is_behind holder_cmp hs h) (holders-are r)
      ∙ list_all-append (λ (other : Holder). is_lt (holder_cmp other h)) (held User r.users.items) (held Group r.groups.items ++ held Project r.projects.items)
      ∙ ap (λ b. is_behind holder_cmp (held User r.users.items) h && b)
      (list_all-append (λ (other : Holder). is_lt (holder_cmp other h)) (held Group r.groups.items) (held Project r.projects.items))

and-true : (a : Bool) → (a && true) ≡ a
and-true true = refl
and-true false = refl

and-other : (a b : Bool) → (a && b) ≡ (b && a)
and-other true true = refl
and-other true false = refl
and-other false true = refl
and-other false false = refl

-- none of a later kind is told, and all of its own have lower ids
pub behind_told : (kind : Kind) (id : ℕ) (r : ToldRecords)
    → is_behind holder_cmp (map (λ t. t.holder) (parts_of r)) (holder_of kind id)
    ≡ (are_later_none kind r && list_all (λ t. nat_lt t.id id) (records_in kind r))
behind_told User id r =
    let h : Holder = holder_of User id in
    behind-all h r
    ∙ (λ i. behind-same h User r.users.items refl i && (behind-higher h Group r.groups.items refl i && behind-higher h Project r.projects.items refl i))
    ∙ and-other (list_all (λ t. nat_lt t.id id) r.users.items) (are_none r.groups.items && are_none r.projects.items)
behind_told Group id r =
    let h : Holder = holder_of Group id in
    behind-all h r
    ∙ (λ i. behind-lower h User r.users.items refl i && (behind-same h Group r.groups.items refl i && behind-higher h Project r.projects.items refl i))
    ∙ and-other (list_all (λ t. nat_lt t.id id) r.groups.items) (are_none r.projects.items)
behind_told Project id r =
    let h : Holder = holder_of Project id in
    behind-all h r
    ∙ (λ i. behind-lower h User r.users.items refl i && (behind-lower h Group r.groups.items refl i && behind-same h Project r.projects.items refl i))

-- ---- the principals of a kind

principals-both : (kind : Kind) (hs others : List Holder) → principals_of kind (hs ++ others) ≡ principals_of kind hs ++ principals_of kind others
principals-both kind hs others =
    ap (map principal_of) (filter-append (λ (h : Holder). is_same_kind kind h.kind) hs others)
    ∙ map-append principal_of (filter (λ (h : Holder). is_same_kind kind h.kind) hs) (filter (λ (h : Holder). is_same_kind kind h.kind) others)

principals-same : (kind other : Kind) (ts : List ToldRecord) → is_same_kind kind other ≡ true → principals_of kind (held other ts) ≡ map told_principal ts
principals-same kind other [] same = refl
principals-same kind other (t ∷ ts) same = rw same (ap (λ l. told_principal t ∷ l) (principals-same kind other ts same))

principals-other : (kind other : Kind) (ts : List ToldRecord) → is_same_kind kind other ≡ false → principals_of kind (held other ts) ≡ []
principals-other kind other [] same = refl
principals-other kind other (t ∷ ts) same = rw same (principals-other kind other ts same)

principals-all : (kind : Kind) (r : ToldRecords) → principals_of kind (map (λ t. t.holder) (parts_of r))
    ≡ principals_of kind (held User r.users.items)
    ++ (principals_of kind (held Group r.groups.items) ++ principals_of kind (held Project r.projects.items))
principals-all kind r =
    ap (principals_of kind) (holders-are r)
    ∙ principals-both kind (held User r.users.items) (held Group r.groups.items ++ held Project r.projects.items)
    ∙ ap (λ l. principals_of kind (held User r.users.items) ++ l) (principals-both kind (held Group r.groups.items) (held Project r.projects.items))

-- the principals of a kind are those of its records
pub principals_told : (kind : Kind) (r : ToldRecords) → principals_of kind (map (λ t. t.holder) (parts_of r)) ≡ map told_principal (records_in kind r)
principals_told User r =
    principals-all User r
    ∙ (λ i. principals-same User User r.users.items refl i
    ++ (principals-other User Group r.groups.items refl i ++ principals-other User Project r.projects.items refl i))
    ∙ append-nil (map told_principal r.users.items)
principals_told Group r =
    principals-all Group r
    ∙ (λ i. principals-other Group User r.users.items refl i
    ++ (principals-same Group Group r.groups.items refl i ++ principals-other Group Project r.projects.items refl i))
    ∙ append-nil (map told_principal r.groups.items)
principals_told Project r =
    principals-all Project r
    ∙ (λ i. principals-other Project User r.users.items refl i
    ++ (principals-other Project Group r.groups.items refl i ++ principals-same Project Project r.projects.items refl i))

length-more : (ps : List Principal) (p : Principal) → length (ps ++ p ∷ []) ≡ length ps + 1
length-more [] p = refl
length-more (q ∷ ps) p = ap suc (length-more ps p) ∙ suc-plus (length ps)
  where
    suc-plus : (n : ℕ) → suc (n + 1) ≡ suc n + 1
    suc-plus n = omega arith

begun-with : (ts : List ToldRecord) (p : Principal) → is_begun_kind (map told_principal ts ++ p ∷ [])
    ≡ (first_id p.id ts == 0 && nat_lt (length ts) MAX_PRINCIPALS)
begun-with [] p = grind (arith, tests)
begun-with (t ∷ ts) p =
    ap (λ n. t.id == 0 && nat_le (suc n) MAX_PRINCIPALS) (length-more (map told_principal ts) p ∙ ap (λ n. n + 1) (length-map ts told_principal))
    ∙ ap (λ b. t.id == 0 && b) (few (length ts))
  where
    few : (n : ℕ) → nat_le (suc (n + 1)) MAX_PRINCIPALS ≡ nat_lt (suc n) MAX_PRINCIPALS
    few n = grind (arith, tests)

pub begun_told : (kind : Kind) (id : ℕ) (p : Principal) (r : ToldRecords) → p.id ≡ id
    → is_begun_kind (principals_of kind (map (λ t. t.holder) (parts_of r)) ++ p ∷ [])
    ≡ (first_id id (records_in kind r) == 0 && nat_lt (length (records_in kind r)) MAX_PRINCIPALS)
begun_told kind id p r is_id =
    ap (λ ps. is_begun_kind (ps ++ p ∷ [])) (principals_told kind r)
    ∙ begun-with (records_in kind r) p
    ∙ ap (λ n. first_id n (records_in kind r) == 0 && nat_lt (length (records_in kind r)) MAX_PRINCIPALS) is_id

-- where one of a kind is a principal
pub some-of-kind : (kind : Kind) (hs : List Holder) → are_none (principals_of kind hs) ≡ not (list_any (λ h. is_same_kind kind h.kind) hs)
some-of-kind kind [] = refl
some-of-kind kind (h ∷ hs) = by (is_same_kind kind h.kind) refl (some-of-kind kind hs)
  where
    by : (b : Bool) → is_same_kind kind h.kind ≡ b → are_none (principals_of kind hs) ≡ not (list_any (λ o. is_same_kind kind o.kind) hs)
        → are_none (principals_of kind (h ∷ hs)) ≡ not (list_any (λ o. is_same_kind kind o.kind) (h ∷ hs))
    by true is further = rw is (some-told (principal_of h) (principals_of kind hs))
    by false is further = rw is further

-- none of a kind is a principal where none is told
pub none-of-kind : (kind : Kind) (r : ToldRecords) → are_none (principals_of kind (map (λ t. t.holder) (parts_of r))) ≡ are_none (records_in kind r)
none-of-kind kind r = ap are_none (principals_told kind r) ∙ ap (λ n. n == 0) (length-map (records_in kind r) told_principal)

-- ---- who is declared

declared-same : (kind other : Kind) (id : ℕ) (ts : List ToldRecord) → is_same_kind kind other ≡ true
    → list_any (is_holder kind id) (held other ts) ≡ list_any (λ t. id == t.id) ts
declared-same kind other id [] same = refl
declared-same kind other id (t ∷ ts) same = rw (same, declared-same kind other id ts same) refl

declared-other : (kind other : Kind) (id : ℕ) (ts : List ToldRecord) → is_same_kind kind other ≡ false
    → list_any (is_holder kind id) (held other ts) ≡ false
declared-other kind other id [] same = refl
declared-other kind other id (t ∷ ts) same = rw (same, declared-other kind other id ts same) refl

declared-all : (kind : Kind) (id : ℕ) (r : ToldRecords) → list_any (is_holder kind id) (map (λ t. t.holder) (parts_of r))
    ≡ (list_any (is_holder kind id) (held User r.users.items)
    || (list_any (is_holder kind id) (held Group r.groups.items) || list_any (is_holder kind id) (held Project r.projects.items)))
declared-all kind id r =
    ap (list_any (is_holder kind id)) (holders-are r)
    ∙ list_any-append (is_holder kind id) (held User r.users.items) (held Group r.groups.items ++ held Project r.projects.items)
    ∙ ap (λ b. list_any (is_holder kind id) (held User r.users.items) || b)
    (list_any-append (is_holder kind id) (held Group r.groups.items) (held Project r.projects.items))

or-false : (a : Bool) → (a || false) ≡ a
or-false true = refl
or-false false = refl

-- an id is declared that one of the records of its kind has
pub declared_told : (kind : Kind) (id : ℕ) (r : ToldRecords) → list_any (is_holder kind id) (map (λ t. t.holder) (parts_of r))
    ≡ list_any (λ t. id == t.id) (records_in kind r)
declared_told User id r =
    declared-all User id r
    ∙ (λ i. declared-same User User id r.users.items refl i
    || (declared-other User Group id r.groups.items refl i || declared-other User Project id r.projects.items refl i))
    ∙ or-false (list_any (λ t. id == t.id) r.users.items)
declared_told Group id r =
    declared-all Group id r
    ∙ (λ i. declared-other Group User id r.users.items refl i
    || (declared-same Group Group id r.groups.items refl i || declared-other Group Project id r.projects.items refl i))
    ∙ or-false (list_any (λ t. id == t.id) r.groups.items)
declared_told Project id r =
    declared-all Project id r
    ∙ (λ i. declared-other Project User id r.users.items refl i
    || (declared-other Project Group id r.groups.items refl i || declared-same Project Project id r.projects.items refl i))

-- ---- one record more

ids-end : (ts : List ToldRecord) (t : ToldRecord) → map (λ x. x.id) (ts ++ t ∷ []) ≡ map (λ x. x.id) ts ++ t.id ∷ []
ids-end ts t = map-append (λ (x : ToldRecord). x.id) ts (t ∷ [])

pub not-not : (b : Bool) → not (not b) ≡ b
not-not true = refl
not-not false = refl

-- a name is taken that one of the records of its kind has
pub taken-told : (kind : Kind) (name : List ℕ) (r : ToldRecords)
    → list_any (λ p. bytes_eq p.name name) (principals_of kind (map (λ t. t.holder) (parts_of r))) ≡ list_any (λ t. bytes_eq t.name name) (records_in kind r)
taken-told kind name r = ap (list_any (λ p. bytes_eq p.name name)) (principals_told kind r) ∙ mapped (records_in kind r)
  where
    mapped : (ts : List ToldRecord) → list_any (λ p. bytes_eq p.name name) (map told_principal ts) ≡ list_any (λ t. bytes_eq t.name name) ts
    mapped [] = refl
    mapped (t ∷ ts) = ap (λ b. bytes_eq t.name name || b) (mapped ts)

-- a record more stands behind all that are told, where none of a later kind is
pub pushed-parts : (kind : Kind) (t : ToldRecord) (old new : ToldRecords) → IsPushed kind t old new → are_later_none kind old ≡ true
    → parts_of new ≡ parts_of old ++ part_of kind t ∷ []
pushed-parts User t old new is none =
    let both = and_parts (are_none old.groups.items) (are_none old.projects.items) none in
    let groups : new.groups.items ≡ [] = is.others Group refl ∙ nil_from_length old.groups.items (eqb-true _ 0 both.0) in
    let projects : new.projects.items ≡ [] = is.others Project refl ∙ nil_from_length old.projects.items (eqb-true _ 0 both.1) in
    (λ i. map (part_of User) (is.own i) ++ (map (part_of Group) (groups i) ++ map (part_of Project) (projects i)))
    ∙ append-nil (map (part_of User) (old.users.items ++ t ∷ []))
    ∙ map-append (part_of User) old.users.items (t ∷ [])
    ∙ ap (λ l. l ++ part_of User t ∷ []) (sym (append-nil (map (part_of User) old.users.items)))
    ∙ (λ i. (map (part_of User) old.users.items ++ (map (part_of Group) (sym (nil_from_length old.groups.items (eqb-true _ 0 both.0)) i)
    ++ map (part_of Project) (sym (nil_from_length old.projects.items (eqb-true _ 0 both.1)) i))) ++ part_of User t ∷ [])
pushed-parts Group t old new is none =
    let none-before = nil_from_length old.projects.items (eqb-true _ 0 none) in
    let projects : new.projects.items ≡ [] = is.others Project refl ∙ none-before in
    (λ i. map (part_of User) (is.others User refl i) ++ (map (part_of Group) (is.own i) ++ map (part_of Project) (projects i)))
    ∙ ap (λ l. map (part_of User) old.users.items ++ l) (append-nil (map (part_of Group) (old.groups.items ++ t ∷ []))
    ∙ map-append (part_of Group) old.groups.items (t ∷ []))
    ∙ sym (append_assoc (map (part_of User) old.users.items) (map (part_of Group) old.groups.items) (part_of Group t ∷ []))
    ∙ ap (λ l. (map (part_of User) old.users.items ++ l) ++ part_of Group t ∷ []) (sym (append-nil (map (part_of Group) old.groups.items)))
    ∙ (λ i. (map (part_of User) old.users.items ++ (map (part_of Group) old.groups.items ++ map (part_of Project) (sym none-before i))) ++ part_of Group t ∷ [])
pushed-parts Project t old new is none =
    (λ i. map (part_of User) (is.others User refl i) ++ (map (part_of Group) (is.others Group refl i) ++ map (part_of Project) (is.own i)))
    ∙ ap (λ l. map (part_of User) old.users.items ++ (map (part_of Group) old.groups.items ++ l)) (map-append (part_of Project) old.projects.items (t ∷ []))
    ∙ ap (λ l. map (part_of User) old.users.items ++ l) (sym (append_assoc (map (part_of Group) old.groups.items) (map
    (part_of Project) old.projects.items) (part_of Project t ∷ [])))
    ∙ sym (append_assoc (map (part_of User) old.users.items) (map (part_of Group) old.groups.items ++ map (part_of Project) old.projects.items)
    (part_of Project t ∷ []))

-- ---- a record of which nothing is wrong

pub fine-later : (h : Holder) (r : ToldRecords) → is_behind holder_cmp (map (λ t. t.holder) (parts_of r)) h ≡ true → are_later_none h.kind r ≡ true
fine-later h r behind = (and_parts (are_later_none h.kind r) _ (sym (behind_told h.kind h.id r) ∙ behind)).0
