-- A refusal for a quota tells the first limit in the way.
use Rattle.std.proofs.Common.{◌≡◌, ◌≢◌, ℕ, ◌<◌, ◌==◌, Bool, true, false, ◌&&◌, ◌||◌, nat_le, nat_lt, cond, List, [], ◌∷◌, Option, Some, None, refl, sym, ap, subst, ◌∙◌, tests, arith}
use Rattle.std.specs.Option.{option_map, option_or}
use Rattle.std.specs.List.{AllByRecursion, find}
use Rattle.std.specs.List.Sorted.{IsStrictlySortedBy}
use Rattle.std.specs.declared.cmp.Ordering.TheVariants.{Less}
use Rattle.std.specs.Ordering.{nat_cmp, ordering_then}
use Rattle.std.proofs.lemmas.List.Elements.{All-from_recursion}
use Rattle.qrules.specs.declared.kind.Kind.{Kind}
use Rattle.qrules.specs.declared.over.Over.{Over}
use Rattle.qrules.specs.Kinds.{is_id, is_same_kind, rank_of}
use Rattle.qrules.specs.Sort.{Sort, Inodes, Blocks}
use Rattle.qrules.proofs.Ranks.{same_kind, same_kind-refl}
use Rattle.qplain.specs.declared.refusal.Refusal.{Refusal}
use Rattle.qplain.specs.declared.refusal.Refusal.TheVariants.{EDQUOT, ENOSPC}
use Rattle.qplain.specs.declared.reply.Reply.TheVariants.{Refused}
use Rattle.qplain.specs.Caller.{Caller, is_superuser}
use Rattle.qplain.specs.State.{Holder, Inode, State, holder_cmp, inode_at}
use Rattle.qplain.specs.Use.{owner, use_of, weight}
use Rattle.qplain.specs.Decision.{fault_of_holder, first_refusal, is_too_full, refusal_between}
use Rattle.qplain.specs.Known.{is_holder}
use Rattle.qplain.specs.Attempt.{Attempt, Refuse, Answer, Becomes}
use Rattle.qplain.specs.Calls.{attempt}
use Rattle.qplain.specs.Step.{settle, settled}
use Rattle.qplain_laws.specs.Laws.{IsLawful, is_for_limits}
use Rattle.qplain_laws.specs.Replaces.{charge_of}
use Rattle.qplain_laws.proofs.Trying.{OnBecomes}
use Rattle.qplain_laws.proofs.Becoming.{attempt-becomes}
use Rattle.qplain_laws.proofs.Touching.{OnlyAt, Touches, results_touch}
use Rattle.qplain_laws.proofs.Answering.{MayBecome, TellsNone, attempt-none, is_refused}
use Rattle.qplain_answers.specs.FirstLimit.{FirstLimitIsTold, IsFirstLimit, NoneInTheWay, OwnsTheChanged, limits_in_order}
use Rattle.qplain_answers.proofs.LimitTable.{fault-rises, first-fault, no-fault}

-- whose of this kind what stands is
abbrev owner_of : Kind → Option Inode → Option ℕ
owner_of kind None = None
owner_of kind (Some inode) = owner kind inode.owners

-- whoever an inode charges owns it
charged-owner : (kind : Kind) (id : ℕ) (sort : Sort) (o : Option Inode) → 0 < charge_of kind id sort o → owner_of kind o ≡ Some id
charged-owner kind id sort None l = absurd (omega (arith, l))
charged-owner kind id sort (Some inode) l = by (owner kind inode.owners) l
  where
    by : (o : Option ℕ) → 0 < cond (is_id id o) (weight sort inode) 0 → o ≡ Some id
    by None m = absurd (omega (arith, m))
    by (Some other) m = with (other == id) refl m
      where
        with : (b : Bool) → (other == id) ≡ b → 0 < cond b (weight sort inode) 0 → Some other ≡ Some id
        with true same n = let e : other ≡ id = grind (arith, tests, same) in ap Some e
        with false other_id n = absurd (omega (arith, n))

-- what holds of all holders holds of one that is found
find-all : (P : Holder → Type 0) (p : Holder → Bool) (hs : List Holder) (h : Holder) → AllByRecursion P hs → find p hs ≡ Some h → P h
find-all P p [] h all found = cc
find-all P p (x ∷ hs) h all found = by (find-all P p hs h all.1) (p x) found
  where
    by : (find p hs ≡ Some h → P h) → (b : Bool) → cond b (Some x) (find p hs) ≡ Some h → P h
    by later true e = let same : x ≡ h = cc in subst P same all.0
    by later false e = later e

-- two holders in order are two principals, and the first one's kind is no later
apart : (a b i j : ℕ) → ordering_then (nat_cmp a b) (nat_cmp i j) ≡ Less → ((a == b) && (i == j)) ≡ false
apart a b i j less = grind (arith, tests, less)

no-later : (a b i j : ℕ) → ordering_then (nat_cmp a b) (nat_cmp i j) ≡ Less → nat_le a b ≡ true
no-later a b i j less = grind (arith, tests, less)

flipped : (a b i j : ℕ) → ordering_then (nat_cmp a b) (nat_cmp i j) ≡ Less → ((b == a) && (j == i)) ≡ false
flipped a b i j less = grind (arith, tests, less)

unequal : (m n : ℕ) → m ≢ n → (m == n) ≡ false
unequal m n other = by (m == n) refl
  where
    by : (b : Bool) → (m == n) ≡ b → b ≡ false
    by true same = let e : m ≡ n = grind (arith, tests, same) in absurd (other e)
    by false same = refl

module _ (S T : State) (moment : ℕ) (number : ℕ) (only : OnlyAt S T number) where
  abbrev fault : Holder → Option Over
  fault h = fault_of_holder S T moment h

  -- whose use rises owns the inode that is another
  risen : (kind : Kind) (id : ℕ) (sort : Sort) → nat_lt (use_of S kind id sort) (use_of T kind id sort) ≡ true
      → owner_of kind (inode_at T number) ≡ Some id
  risen kind id sort more =
      let uses = only.uses kind id sort in
      let l : use_of S kind id sort < use_of T kind id sort = grind (arith, tests, more) in
      charged-owner kind id sort (inode_at T number) (omega (arith, uses, l))

  -- so does whoever has a fault
  faulty : (h : Holder) (over : Over) → fault h ≡ Some over → owner_of h.kind (inode_at T number) ≡ Some h.id
  faulty h over is = by (nat_lt (use_of S h.kind h.id Inodes) (use_of T h.kind h.id Inodes)) refl (fault-rises S T moment h over is)
    where
      by : (b : Bool) → nat_lt (use_of S h.kind h.id Inodes) (use_of T h.kind h.id Inodes) ≡ b
          → (b || nat_lt (use_of S h.kind h.id Blocks) (use_of T h.kind h.id Blocks)) ≡ true → owner_of h.kind (inode_at T number) ≡ Some h.id
      by true inodes e = risen h.kind h.id Inodes inodes
      by false inodes e = risen h.kind h.id Blocks e

  -- behind a holder with a fault no other has one, but of later kinds
  later-free : (x : Holder) (o : Over) → fault x ≡ Some o → (g : Holder) → holder_cmp x g ≡ Less → nat_le (rank_of g.kind) (rank_of x.kind) ≡ true
      → fault g ≡ None
  later-free x o is g less no_later = by (fault g) refl
    where
      by : (r : Option Over) → fault g ≡ r → r ≡ None
      by None e = refl
      by (Some p) e =
          let other : (is_same_kind x.kind g.kind && x.id == g.id) ≡ false = apart (rank_of x.kind) (rank_of g.kind) x.id g.id less in
          let after : nat_le (rank_of x.kind) (rank_of g.kind) ≡ true = no-later (rank_of x.kind) (rank_of g.kind) x.id g.id less in
          let same : is_same_kind x.kind g.kind ≡ true = grind (arith, tests, after, no_later) in
          let kinds : x.kind ≡ g.kind = same_kind x.kind g.kind same in
          let ids : Some x.id ≡ Some g.id = sym (faulty x o is) ∙ ap (λ k. owner_of k (inode_at T number)) kinds ∙ faulty g p e in
          let id : x.id ≡ g.id = cc in
          let itself : (x.id == g.id) ≡ true = grind (arith, tests, id) in
          let clash : true ≡ false = (λ i. sym same i && sym itself i) ∙ other in
          absurd (cc)

  all-free : (x : Holder) (o : Over) → fault x ≡ Some o → (hs : List Holder) → AllByRecursion (λ g. holder_cmp x g ≡ Less) hs
      → AllByRecursion (λ g. nat_le (rank_of g.kind) (rank_of x.kind) ≡ true → is_holder x.kind x.id g ≡ false → fault g ≡ None) hs
  all-free x o is [] above = tt
  all-free x o is (g ∷ hs) above = ((λ no_later other. later-free x o is g above.0 no_later), all-free x o is hs above.1)

  -- what is found among holders in order
  abbrev IsFound : Kind → Over → List Holder → Holder → Type 0
  IsFound kind over hs h =
      (h.kind ≡ kind) × (fault h ≡ Some over) × (find (is_holder kind h.id) hs ≡ Some h)
      × AllByRecursion (λ g. nat_le (rank_of g.kind) (rank_of kind) ≡ true → is_holder kind h.id g ≡ false → fault g ≡ None) hs

  itself : (h : Holder) → is_holder h.kind h.id h ≡ true
  itself h =
      let same : (h.id == h.id) ≡ true = grind (arith, tests) in
      (λ i. same_kind-refl h.kind i && same i)

  found-here : (x : Holder) (o : Over) (hs : List Holder) → fault x ≡ Some o → AllByRecursion (λ g. holder_cmp x g ≡ Less) hs
      → IsFound x.kind o (x ∷ hs) x
  found-here x o hs is above = (
    refl,
    is,
    ap (λ b. cond b (Some x) (find (is_holder x.kind x.id) hs)) (itself x),
    ((λ no_later other. let clash : true ≡ false = sym (itself x) ∙ other in absurd (cc)), all-free x o is hs above),
  )

  found-later : (x : Holder) (kind : Kind) (over : Over) (hs : List Holder) → fault x ≡ None → AllByRecursion (λ g. holder_cmp x g ≡ Less) hs
      → (h : Holder) → IsFound kind over hs h → IsFound kind over (x ∷ hs) h
  found-later x kind over hs none above h is =
      let less : holder_cmp x h ≡ Less = find-all (λ g. holder_cmp x g ≡ Less) (is_holder kind h.id) hs h above is.2 in
      let other : is_holder kind h.id x ≡ false =
      ap (λ k. is_holder k h.id x) (sym is.0) ∙ flipped (rank_of x.kind) (rank_of h.kind) x.id h.id less in
      (is.0, is.1, ap (λ b. cond b (Some x) (find (is_holder kind h.id) hs)) other ∙ is.2, ((λ no_later apart. none), is.3))

  -- the first refusal is for the first fault among them
  found-first : (kind : Kind) (over : Over) (hs : List Holder) → IsStrictlySortedBy holder_cmp hs
      → first_refusal fault hs ≡ Some (EDQUOT kind over) → (h : Holder) × IsFound kind over hs h
  unfolding IsStrictlySortedBy
  found-first kind over [] sorted is = cc
  found-first kind over (x ∷ hs) sorted is = by (found-first kind over hs sorted.1) (fault x) refl is
    where
      by : (first_refusal fault hs ≡ Some (EDQUOT kind over) → (h : Holder) × IsFound kind over hs h) → (o : Option Over) → fault x ≡ o
          → option_or (option_map (λ y. EDQUOT x.kind y) o) (first_refusal fault hs) ≡ Some (EDQUOT kind over)
          → (h : Holder) × IsFound kind over (x ∷ hs) h
      by later None none e = let rest = later e in (rest.0, found-later x kind over hs none sorted.0 rest.0 rest.1)
      by later (Some o) has e =
          let kinds : x.kind ≡ kind = cc in
          let overs : o ≡ over = cc in
          subst (λ k. (h : Holder) × IsFound k over (x ∷ hs) h) kinds
          (subst (λ v. (h : Holder) × IsFound x.kind v (x ∷ hs) h) overs (x, found-here x o hs has sorted.0))

  -- ---- of all

  owns-changed : (kind : Kind) (id : ℕ) → owner_of kind (inode_at T number) ≡ Some id → OwnsTheChanged S T kind id
  owns-changed kind id owns = by (inode_at T number) refl owns
    where
      by : (o : Option Inode) → inode_at T number ≡ o → owner_of kind o ≡ Some id → OwnsTheChanged S T kind id
      by None there e = cc
      by (Some inode) there e = (
        number,
        inode,
        there,
        e,
        (λ other apart. only.inodes other (unequal number other (λ same. apart (sym same)))),
      )

  first-limit : (kind : Kind) (over : Over) → IsStrictlySortedBy holder_cmp S.holders
      → first_refusal fault S.holders ≡ Some (EDQUOT kind over) → (h : Holder) × IsFirstLimit S T moment kind over h
  first-limit kind over sorted is =
      let found = found-first kind over S.holders sorted is in
      let h : Holder = found.0 in
      let owns : owner_of kind (inode_at T number) ≡ Some h.id =
      ap (λ k. owner_of k (inode_at T number)) (sym found.1.0) ∙ faulty h over found.1.1 in (
        h,
        record {
          declared = found.1.2;
          owns = owns-changed kind h.id owns;
          first = first-fault S T moment h over found.1.1;
          others = All-from_recursion (λ g. nat_le (rank_of g.kind) (rank_of kind) ≡ true → is_holder kind h.id g ≡ false
              → NoneInTheWay (limits_in_order S T moment g)) S.holders
              (each-free kind h.id S.holders found.1.3);
        },
      )
    where
      each-free : (kind : Kind) (id : ℕ) (hs : List Holder)
          → AllByRecursion (λ g. nat_le (rank_of g.kind) (rank_of kind) ≡ true → is_holder kind id g ≡ false → fault g ≡ None) hs
          → AllByRecursion (λ g. nat_le (rank_of g.kind) (rank_of kind) ≡ true → is_holder kind id g ≡ false
          → NoneInTheWay (limits_in_order S T moment g)) hs
      each-free kind id [] free = tt
      each-free kind id (g ∷ hs) free =
          ((λ no_later other. no-fault S T moment g (free.0 no_later other)), each-free kind id hs free.1)

-- ---- the step

-- a decision that refuses for a quota is of no superuser
decided : (full superuser : Bool) (r : Option Refusal) (kind : Kind) (over : Over)
    → cond full (Some ENOSPC) (cond superuser None r) ≡ Some (EDQUOT kind over) → (superuser ≡ false) × (r ≡ Some (EDQUOT kind over))
decided true superuser r kind over e = cc
decided false true r kind over e = cc
decided false false r kind over e = (refl, e)

module _ (S : State) (lawful : IsLawful S) (cred : Caller) (moment : ℕ) (kind : Kind) (over : Over) where
  -- what is told of an attempt
  abbrev Tells : Attempt → Type 0
  Tells a =
      (is_superuser cred ≡ false) × (new : State) × (number : ℕ) × (a ≡ Becomes new number) × (h : Holder) × IsFirstLimit S new moment kind over h

  between : (T : State) (number : ℕ) → Touches S T → refusal_between S T cred moment ≡ Some (EDQUOT kind over) → Tells (Becomes T number)
  between T number touches is =
      let parts = decided (is_too_full T) (is_superuser cred) (first_refusal (fault_of_holder S T moment) S.holders) kind over is in
      let first = first-limit S T moment touches.0 touches.1 kind over lawful.parts.holders parts.1 in
      (parts.0, T, number, refl, first.0, first.1)

  settled-first : (T : State) (number : ℕ) → Touches S T → (o : Option Refusal) → refusal_between S T cred moment ≡ o
      → (settled S T number moment o).1 ≡ Refused (EDQUOT kind over) → Tells (Becomes T number)
  settled-first T number touches None for is = cc
  settled-first T number touches (Some r) for is =
      let same : r ≡ EDQUOT kind over = cc in
      between T number touches (for ∙ ap Some same)

  settle-first : (P : State → Type 0) (a : Attempt) → TellsNone P a → OnBecomes (Touches S) a
      → (settle S cred moment a).1 ≡ Refused (EDQUOT kind over) → Tells a
  settle-first P (Refuse r) tells touches is =
      let same : r ≡ EDQUOT kind over = cc in
      let clash : is_for_limits (EDQUOT kind over) ≡ false = ap is_for_limits (sym same) ∙ tells.none in
      absurd (cc)
  settle-first P (Answer reply) tells touches is =
      let granted : is_refused reply ≡ false = tells.none.1 in
      let refused : is_refused reply ≡ true = ap is_refused is in
      absurd (cc)
  settle-first P (Becomes T number) tells touches is = settled-first T number touches (refusal_between S T cred moment) refl is

pub first_limit_is_told : FirstLimitIsTold
first_limit_is_told S cred moment call kind over lawful is =
    settle-first S lawful cred moment kind over (MayBecome S call) (attempt S cred moment call) (attempt-none S cred moment call)
    (attempt-becomes (Touches S) S cred (results_touch S lawful cred) moment call) is
