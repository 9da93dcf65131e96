-- A write into allocated blocks is refused for no want of space or of quota.
use Rattle.std.proofs.Common.{◌≡◌, ℕ, ◌+◌, ◌==◌, ◌≤◌, Bool, true, false, not, ◌||◌, nat_lt, cond, List, length, Some, None, Ok, refl, sym, ap, subst, ◌∙◌, arith}
use Rattle.qrules.specs.declared.kind.Kind.{Kind}
use Rattle.qrules.specs.Sort.{Sort, Inodes, Blocks}
use Rattle.qblocks.specs.File.{File, after_write, is_allocated, touches}
use Rattle.qblocks.proofs.Indexes.{same_indexes}
use Rattle.qblocks.proofs.Touched.{is_allocated-after_write}
use Rattle.qplain.specs.declared.bounds.TheConstants.{ROOT}
use Rattle.qplain.specs.declared.call.Call.TheVariants.{Write}
use Rattle.qplain.specs.declared.refusal.Refusal.TheVariants.{EACCES, EFBIG, EISDIR}
use Rattle.qplain.specs.declared.reply.Reply.TheVariants.{Done}
use Rattle.qplain.specs.Caller.{Caller}
use Rattle.qplain.specs.State.{Inode, State, inode_at}
use Rattle.qplain.specs.Use.{belongs_to, weight}
use Rattle.qplain.specs.Walk.{components, walk}
use Rattle.qplain.specs.Decision.{refusal_between}
use Rattle.qplain.specs.Attempt.{Attempt, Refuse, Answer, Becomes, no_change}
use Rattle.qplain.specs.Rights.{may_write}
use Rattle.qplain.specs.Files.{with_file, write_into}
use Rattle.qplain_laws.specs.Laws.{IsLawful, IsSound}
use Rattle.qplain_laws.specs.Order.{OverwritesAreGranted, StaysWithin}
use Rattle.qplain_laws.specs.Replaces.{charge_of}
use Rattle.qplain_laws.proofs.Fitting.{sound-there}
use Rattle.qplain_laws.proofs.GivingBack.{NoLimit, at_reached-no_limit, choose, granted-fewer, no_limit}
use Rattle.qplain_laws.proofs.Orders.{above-zero, rises-sorted}
use Rattle.qplain_laws.proofs.Replacing.{Replaces-changed}
use Rattle.qplain_laws.proofs.Sound.{in_order-after_write}
use Rattle.qplain_laws.proofs.WalkFaults.{walk-plain}

or-within : (a b : Bool) → (b ≡ true → a ≡ true) → (a || b) ≡ a
or-within true b within = refl
or-within false true within = sym (within refl)
or-within false false within = refl

-- no block is allocated by a write that stays within
same-blocks : (inode : Inode) (off : ℕ) (bytes : List ℕ) → IsSound inode → StaysWithin inode.file off (length bytes)
    → (after_write inode.file off bytes).allocated ≡ inode.file.allocated
same-blocks inode off bytes sound within =
    let after : File = after_write inode.file off bytes in
    same_indexes 0 after.allocated inode.file.allocated
    (rises-sorted 0 after.allocated (above-zero after.allocated) (in_order-after_write inode.file off bytes sound.in_order))
    (rises-sorted 0 inode.file.allocated (above-zero inode.file.allocated) sound.in_order)
    (λ k. is_allocated-after_write inode.file off bytes k ∙ or-within (is_allocated inode.file k) (touches off (length bytes) k) (within k))

module _ (S : State) (cred : Caller) (moment : ℕ) (lawful : IsLawful S) (off : ℕ) (bytes : List ℕ) where
  -- so it is refused to nobody
  granted-over : (number : ℕ) (inode : Inode) → inode_at S number ≡ Some inode → StaysWithin inode.file off (length bytes)
      → refusal_between S (with_file S number inode (after_write inode.file off bytes)) cred moment ≡ None
  granted-over number inode there within =
      granted-fewer S (with_file S number inode (after_write inode.file off bytes)) (Some inode) (Some after) cred moment lawful
      (Replaces-changed S number inode after there) refl (λ sort. lighter sort) (λ kind id sort. by kind id sort)
    where
      after : Inode
      after = record inode { file = after_write inode.file off bytes }

      same : (after_write inode.file off bytes).allocated ≡ inode.file.allocated
      same = same-blocks inode off bytes (sound-there S number inode lawful.parts there) within

      weighs : (sort : Sort) → weight sort after ≡ weight sort inode
      weighs Inodes = refl
      weighs Blocks = ap length same

      lighter : (sort : Sort) → weight sort after ≤ weight sort inode
      lighter sort = let e = weighs sort in omega (arith, e)

      part-le : (b : Bool) (m n : ℕ) → m ≤ n → cond b m 0 ≤ cond b n 0
      part-le true m n l = l
      part-le false m n l = omega arith

      by : (kind : Kind) (id : ℕ) (sort : Sort) → charge_of kind id sort (Some after) ≤ charge_of kind id sort (Some inode)
      by kind id sort = part-le (belongs_to kind id inode) (weight sort after) (weight sort inode) (lighter sort)

  write-no_limit : (number : ℕ) (inode : Inode) → inode_at S number ≡ Some inode → StaysWithin inode.file off (length bytes)
      → NoLimit S cred moment lawful (write_into S cred off bytes number inode)
  write-no_limit number inode there within =
      let becomes : Attempt = Becomes (with_file S number inode (after_write inode.file off bytes)) number in
      let few : Attempt = cond (nat_lt S.file_limit (off + length bytes)) (Refuse EFBIG) becomes in
      let some : Attempt = cond (length bytes == 0) (Answer (Done number no_change)) few in
      let pick = choose S cred moment lawful in
      pick inode.dir (Refuse EISDIR) (cond (not (may_write cred inode)) (Refuse EACCES) some) refl (λ file.
      pick (not (may_write cred inode)) (Refuse EACCES) some refl (λ may.
      pick (length bytes == 0) (Answer (Done number no_change)) few (λ r is. cc) (λ more.
      pick (nat_lt S.file_limit (off + length bytes)) (Refuse EFBIG) becomes refl (λ below. granted-over number inode there within))))

pub overwrites_are_granted : OverwritesAreGranted
overwrites_are_granted S cred moment path off bytes number inode lawful leads there within =
    no_limit S cred moment lawful (Write path off bytes)
    (at_reached-no_limit S cred moment lawful (write_into S cred off bytes) (walk S (components path)) (walk-plain S (Ok ROOT) (components path) tt)
    (λ n i reached found.
    let numbers : number ≡ n = let e = sym leads ∙ reached in cc in
    let inodes : inode ≡ i = let e = sym there ∙ ap (inode_at S) numbers ∙ found in cc in
    write-no_limit S cred moment lawful off bytes n i found (subst (λ (x : Inode). StaysWithin x.file off (length bytes)) inodes within)))
