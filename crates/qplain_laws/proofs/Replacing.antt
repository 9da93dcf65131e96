-- What the replaced inode makes of the counts, the change that is told, the decision and the holders, for the proofs of
-- stores that keep them.
use Rattle.std.proofs.Common.{◌≡◌, ℕ, ◌+◌, ◌-◌, ◌≤◌, Bool, true, false, ◌||◌, nat_le, nat_lt, cond, List, [], ◌∷◌, All, map, Option, Some, None, refl, sym, ap}
use Rattle.std.proofs.Common.{subst, ◌∙◌, tests, arith}
use Rattle.std.specs.Option.{option_or, option_map}
use Rattle.std.specs.Ordering.{nat_cmp}
use Rattle.std.specs.BTreeMap.{is_at}
use Rattle.std.specs.Map.{lookup, set_value, values_of}
use Rattle.std.proofs.lemmas.Bool.{or_parts}
use Rattle.std.proofs.lemmas.List.Elements.{All-head, All-tail}
use Rattle.std.proofs.lemmas.List.Sums.{sum_by-le-sum_by}
use Rattle.std.proofs.lemmas.Map.Entries.{sum_by-set_value}
use Rattle.qrules.specs.declared.kind.Kind.{Kind}
use Rattle.qrules.specs.Sort.{Sort, Inodes, Blocks}
use Rattle.qrules.specs.Account.{Account, HasEnds, count_in}
use Rattle.qrules.specs.Charge.{fault_of}
use Rattle.qplain.specs.declared.refusal.Refusal.TheVariants.{EDQUOT}
use Rattle.qplain.specs.declared.bounds.TheConstants.{MAX_NUMBER}
use Rattle.qplain.specs.State.{Holder, Inode, NameKey, State, inode_at}
use Rattle.qplain.specs.Use.{account_of, belongs_to, charge_to, total_of, use_of, weight}
use Rattle.qplain.specs.Decision.{ends_after, fault_of_holder, first_refusal, is_too_full, with_ends_of}
use Rattle.qplain.specs.Files.{with_inode}
use Rattle.qplain.specs.Names.{created}
use Rattle.qplain.specs.Step.{change_between}
use Rattle.qplain_laws.specs.Replaces.{Replaces, charge_of, is_owned, weight_of}
use Rattle.qplain_laws.proofs.Tables.{sum_by-values-insert_new}
use Rattle.qplain_laws.proofs.Ends.{with_ends_of-same}

-- ---- what each plain result replaces

-- a new inode stands where none stood
pub Replaces-created : (S : State) (inode : Inode) (dir : ℕ) (name : List ℕ) → inode_at S S.next ≡ None
    → Replaces S (created S inode dir name) None (Some inode)
Replaces-created S inode dir name absent = record {
  size = refl;
  most_inodes = refl;
  graces = refl;
  holders = refl;
  totals = λ sort.
      let sum : total_of (created S inode dir name) sort
      ≡ total_of S sort + weight sort inode = sum_by-values-insert_new (weight sort) nat_cmp S.inodes S.next inode absent in
      omega (arith, sum);
  uses = λ kind id sort.
      let sum : use_of (created S inode dir name) kind id sort ≡ use_of S kind id sort + charge_to kind id sort inode =
      sum_by-values-insert_new (charge_to kind id sort) nat_cmp S.inodes S.next inode absent in
      sum_right _ _ _ sum;
}
  where
    sum_right : (new old more : ℕ) → new ≡ old + more → new + 0 ≡ old + more
    sum_right new old more e = omega (arith, e)

-- a changed inode stands where it stood
pub Replaces-changed : (S : State) (number : ℕ) (inode after : Inode) → inode_at S number ≡ Some inode
    → Replaces S (with_inode S number after) (Some inode) (Some after)
Replaces-changed S number inode after there = record {
  size = refl;
  most_inodes = refl;
  graces = refl;
  holders = refl;
  totals = λ sort. sum_by-set_value (weight sort) (is_at (nat_cmp number)) S.inodes inode after there;
  uses = λ kind id sort. sum_by-set_value (charge_to kind id sort) (is_at (nat_cmp number)) S.inodes inode after there;
}

-- names take nothing
pub Replaces-names : (S : State) (names : List (NameKey × ℕ)) → Replaces S (record S { names = names }) None None
Replaces-names S names = record { size = refl; most_inodes = refl; graces = refl; holders = refl; totals = λ sort. refl; uses = λ kind id sort. refl }

-- the value that stands may be set again
set_value-same : {K X : Type 0} (test : K → Bool) (es : List (K × X)) (v : X) → lookup test es ≡ Some v → set_value test es v ≡ es
set_value-same test [] v there = cc
set_value-same test (e ∷ es) v there =
    elim (test e.0) as (λ b. cond b (Some e.1) (lookup test es) ≡ Some v → cond b ((e.0, v) ∷ es) (e ∷ set_value test es v) ≡ e ∷ es) [
      | true ↦ λ h. let same : v ≡ e.1 = cc in λ i. (e.0, same i) ∷ es
      | false ↦ λ h. ap (λ l. e ∷ l) (set_value-same test es v h)
    ] there

-- an inode that is given the owners it has leaves the state as it is
pub with_inode-same : (S : State) (number : ℕ) (inode : Inode) → inode_at S number ≡ Some inode → with_inode S number inode ≡ S
with_inode-same S number inode there = λ i. record S { inodes = set_value-same (is_at (nat_cmp number)) S.inodes inode there i }

-- ---- what follows for all of them

-- a use that does not rise has no fault
pub fault_of-fewer : (sort : Sort) (account : Account) (moment count : ℕ) → count ≤ count_in sort account → fault_of sort account moment count ≡ None
fault_of-fewer sort account moment count l =
    let fewer : nat_le count (count_in sort account) ≡ true = grind (arith, tests, l) in
    rw fewer refl

module _ (S S1 : State) (from to : Option Inode) (replaces : Replaces S S1 from to) where
  -- the totals then
  pub total-after : (sort : Sort) → total_of S1 sort ≡ total_of S sort + weight_of sort to - weight_of sort from
  total-after sort = let sum = replaces.totals sort in omega (arith, sum)

  -- the uses then
  pub use-after : (kind : Kind) (id : ℕ) (sort : Sort)
      → use_of S1 kind id sort ≡ use_of S kind id sort + charge_of kind id sort to - charge_of kind id sort from
  use-after kind id sort = let sum = replaces.uses kind id sort in omega (arith, sum)

  -- the change that is told
  pub change-after : change_between S S1 ≡ record {
    blocks_charged = weight_of Blocks to - weight_of Blocks from;
    blocks_released = weight_of Blocks from - weight_of Blocks to;
    inodes_charged = weight_of Inodes to - weight_of Inodes from;
    inodes_released = weight_of Inodes from - weight_of Inodes to;
  }
  change-after =
      let b = replaces.totals Blocks in
      let n = replaces.totals Inodes in
      let blocks_charged : total_of S1 Blocks - total_of S Blocks ≡ weight_of Blocks to - weight_of Blocks from = omega (arith, b) in
      let blocks_released : total_of S Blocks - total_of S1 Blocks ≡ weight_of Blocks from - weight_of Blocks to = omega (arith, b) in
      let inodes_charged : total_of S1 Inodes - total_of S Inodes ≡ weight_of Inodes to - weight_of Inodes from = omega (arith, n) in
      let inodes_released : total_of S Inodes - total_of S1 Inodes ≡ weight_of Inodes from - weight_of Inodes to = omega (arith, n) in
      λ i. record {
        blocks_charged = blocks_charged i;
        blocks_released = blocks_released i;
        inodes_charged = inodes_charged i;
        inodes_released = inodes_released i;
      }

  -- too full or not
  pub too_full-after : is_too_full S1
      ≡ (nat_lt S.size (total_of S Blocks + weight_of Blocks to - weight_of Blocks from)
      || nat_lt S.most_inodes (total_of S Inodes + weight_of Inodes to - weight_of Inodes from)
      || nat_lt (MAX_NUMBER + 1) S1.next)
  too_full-after =
      λ i. nat_lt (replaces.size i) (total-after Blocks i) || nat_lt (replaces.most_inodes i) (total-after Inodes i) || nat_lt (MAX_NUMBER + 1) S1.next

  -- where nothing rises and the old state was within its bounds, so is the new one
  pub not_full-after : total_of S Blocks ≤ S.size → total_of S Inodes ≤ S.most_inodes → S1.next ≤ MAX_NUMBER + 1
      → weight_of Blocks to ≤ weight_of Blocks from → weight_of Inodes to ≤ weight_of Inodes from → is_too_full S1 ≡ false
  not_full-after blocks inodes next fewer_blocks fewer_inodes =
      let b : nat_lt S.size (total_of S Blocks + weight_of Blocks to - weight_of Blocks from) ≡ false =
      not-lt S.size _ (let l : total_of S Blocks + weight_of Blocks to - weight_of Blocks from ≤ S.size = omega arith in l) in
      let n : nat_lt S.most_inodes (total_of S Inodes + weight_of Inodes to - weight_of Inodes from) ≡ false =
      not-lt S.most_inodes _ (let l : total_of S Inodes + weight_of Inodes to - weight_of Inodes from ≤ S.most_inodes = omega arith in l) in
      let m : nat_lt (MAX_NUMBER + 1) S1.next ≡ false = not-lt (MAX_NUMBER + 1) S1.next next in
      too_full-after ∙ (λ i. b i || n i || m i)
    where
      not-lt : (x y : ℕ) → y ≤ x → nat_lt x y ≡ false
      not-lt x y l = grind (arith, tests, l)

  -- ---- the first refusal

  -- an inode takes nothing of another than its owner
  charge-other : (kind : Kind) (id : ℕ) (sort : Sort) (o : Option Inode) → is_owned kind id o ≡ false → charge_of kind id sort o ≡ 0
  charge-other kind id sort None other = refl
  charge-other kind id sort (Some inode) other = ap (λ b. cond b (weight sort inode) 0) other

  use-fewer : (kind : Kind) (id : ℕ) (sort : Sort) → is_owned kind id to ≡ false → use_of S1 kind id sort ≤ use_of S kind id sort
  use-fewer kind id sort other =
      let sum = replaces.uses kind id sort in
      let none = charge-other kind id sort to other in
      omega (arith, sum, none)

  -- who does not own the new inode has no fault
  pub fault-other : (moment : ℕ) (h : Holder) → is_owned h.kind h.id to ≡ false → fault_of_holder S S1 moment h ≡ None
  fault-other moment h other =
      λ i. option_or (fault_of-fewer Inodes (account_of S h) moment (use_of S1 h.kind h.id Inodes) (use-fewer h.kind h.id Inodes other) i)
      (fault_of-fewer Blocks (account_of S h) moment (use_of S1 h.kind h.id Blocks) (use-fewer h.kind h.id Blocks other) i)

  -- ---- the holders after

  use-same : (kind : Kind) (id : ℕ) (sort : Sort) → is_owned kind id from ≡ false → is_owned kind id to ≡ false → use_of S1 kind id sort ≡ use_of S kind id sort
  use-same kind id sort not_from not_to =
      let sum = replaces.uses kind id sort in
      let none = charge-other kind id sort to not_to in
      let nor = charge-other kind id sort from not_from in
      omega (arith, sum, none, nor)

  -- who owns neither inode has the same record
  pub account-other : (h : Holder) → is_owned h.kind h.id from ≡ false → is_owned h.kind h.id to ≡ false → account_of S1 h ≡ account_of S h
  account-other h not_from not_to =
      let blocks = use-same h.kind h.id Blocks not_from not_to in
      let inodes = use-same h.kind h.id Inodes not_from not_to in
      λ i. record { blocks = blocks i; inodes = inodes i; limits = h.limits; block_end = h.block_end; inode_end = h.inode_end }

  -- and keeps its ends, which stand where they belong
  pub holder-other : (moment : ℕ) (h : Holder) → HasEnds (account_of S h) → is_owned h.kind h.id from ≡ false → is_owned h.kind h.id to ≡ false
      → with_ends_of S1 moment h ≡ h
  holder-other moment h ends not_from not_to = with_ends_of-same S1 moment h (subst HasEnds (sym (account-other h not_from not_to)) ends)

  -- the holder with its new ends, where it owns one of the two inodes
  abbrev pub touched : ℕ → Holder → Holder
  touched moment h = cond (is_owned h.kind h.id from || is_owned h.kind h.id to) (with_ends_of S1 moment h) h

  holder-touched : (moment : ℕ) (h : Holder) → HasEnds (account_of S h) → with_ends_of S1 moment h ≡ touched moment h
  holder-touched moment h ends = by (is_owned h.kind h.id from || is_owned h.kind h.id to) refl
    where
      by : (b : Bool) → (is_owned h.kind h.id from || is_owned h.kind h.id to) ≡ b → with_ends_of S1 moment h ≡ cond b (with_ends_of S1 moment h) h
      by true e = refl
      by false e =
          let parts = or_parts (is_owned h.kind h.id from) (is_owned h.kind h.id to) e in
          holder-other moment h ends parts.0 parts.1

  all-touched : (moment : ℕ) (hs : List Holder) → All (λ h. HasEnds (account_of S h)) hs → map (with_ends_of S1 moment) hs ≡ map (touched moment) hs
  all-touched moment [] ends = refl
  all-touched moment (h ∷ hs) ends =
      let here = holder-touched moment h (All-head (λ g. HasEnds (account_of S g)) h hs ends) in
      let rest = all-touched moment hs (All-tail (λ g. HasEnds (account_of S g)) h hs ends) in
      λ i. here i ∷ rest i

  -- only the owners of the two inodes come to other ends
  pub holders-after : (moment : ℕ) → All (λ h. HasEnds (account_of S h)) S.holders → (ends_after S1 moment).holders ≡ map (touched moment) S.holders
  holders-after moment ends = ap (map (with_ends_of S1 moment)) replaces.holders ∙ all-touched moment S.holders ends

-- where no inode comes to stand, nobody is refused
pub first_refusal-none : (S S1 : State) (from : Option Inode) (moment : ℕ) → Replaces S S1 from None → (hs : List Holder)
    → first_refusal (fault_of_holder S S1 moment) hs ≡ None
first_refusal-none S S1 from moment replaces [] = refl
first_refusal-none S S1 from moment replaces (h ∷ hs) =
    ap (λ o. option_or (option_map (λ over. EDQUOT h.kind over) o) (first_refusal (fault_of_holder S S1 moment) hs))
    (fault-other S S1 from None replaces moment h refl)
    ∙ first_refusal-none S S1 from moment replaces hs

-- ---- all uses

part-le : (counts : Bool) (n : ℕ) → cond counts n 0 ≤ n
part-le true n = omega arith
part-le false n = omega arith

-- nobody uses more than everybody
pub use-le-total : (S : State) (kind : Kind) (id : ℕ) (sort : Sort) → use_of S kind id sort ≤ total_of S sort
use-le-total S kind id sort =
    sum_by-le-sum_by (charge_to kind id sort) (weight sort) (values_of S.inodes) (λ inode. part-le (belongs_to kind id inode) (weight sort inode))
