-- What each change of an inode leaves of it: a directory that holds nothing, allocated indexes in order, empty holes, a
-- right size.
use Rattle.std.proofs.Common.{◌≡◌, ℕ, zero, suc, ◌+◌, nat_lt, Bool, true, false, not, ◌&&◌, nat_le, cond, List, [], ◌∷◌, length, filter, Option, Some, None, refl, subst, sym, arith}
use Rattle.std.specs.Ordering.{nat_cmp}
use Rattle.std.specs.List.Sorted.{IsStrictlySortedBy}
use Rattle.std.proofs.lemmas.List.Kept.{IsStrictlySortedBy-filter}
use Rattle.qblocks.specs.File.{File, after_truncate, after_write, begins_below, empty_file, size_of, with_touched}
use Rattle.qblocks.proofs.Indexes.{Rises, Rises-with_index}
use Rattle.std.specs.Option.{option_or, unwrap_or}
use Rattle.std.proofs.lemmas.Bool.{and_parts}
use Rattle.qrules.specs.declared.kind.Kind.{Kind}
use Rattle.qrules.specs.declared.kind.Kind.TheVariants.{User, Group, Project}
use Rattle.qrules.proofs.Ranks.{each_kind}
use Rattle.qplain.specs.State.{Inode, State, inode_at}
use Rattle.qplain.specs.Known.{is_declared, is_known, is_undeclared}
use Rattle.qplain.specs.Caller.{Caller}
use Rattle.std.specs.List.{list_all}
use Rattle.qplain.specs.Names.{owners_by, project_of}
use Rattle.qplain.specs.Owners.{renewed, with_owners}
use Rattle.qplain.specs.Use.{owner}
use Rattle.qplain_laws.specs.Holes.{HolesAreEmpty}
use Rattle.qplain_laws.specs.Laws.{AreKnown, IsSound, is_known_owner}
use Rattle.qplain_laws.specs.Sizes.{IsRightSized}
use Rattle.qplain_laws.proofs.Hollow.{hollow-truncated, hollow-written}
use Rattle.qplain_laws.proofs.Orders.{above-zero, rises-sorted, sorted-rises}
use Rattle.qplain_laws.proofs.RightSized.{right_sized-truncated, right_sized-written}

-- the inode may stand where the other stood: it is as much a directory, its owners are known, it is sound, and its file
-- is right-sized
pub record MayFollow (S : State) (inode changed : Inode) : Type 0 where
  pub dir : changed.dir ≡ inode.dir
  pub owners : AreKnown S inode.owners → AreKnown S changed.owners
  pub sound : IsSound inode → IsSound changed
  pub size : IsRightSized S.file_limit inode.file → IsRightSized S.file_limit changed.file

rises-touched : (xs : List ℕ) (off n : ℕ) → Rises 0 xs → Rises 0 (with_touched xs off n)
unfolding with_touched
rises-touched xs off zero rises = rises
rises-touched xs off (suc n) rises = Rises-with_index 0 (with_touched xs off n) _ (rises-touched xs off n rises) (omega arith)

-- a write leaves the allocated indexes in order
pub in_order-after_write : (file : File) (off : ℕ) (bytes : List ℕ) → IsStrictlySortedBy nat_cmp file.allocated
    → IsStrictlySortedBy nat_cmp (after_write file off bytes).allocated
unfolding after_write
in_order-after_write file off [] sorted = sorted
in_order-after_write file off (byte ∷ rest) sorted =
    sorted-rises 0 (with_touched file.allocated off (length (byte ∷ rest)))
    (rises-touched file.allocated off (length (byte ∷ rest)) (rises-sorted 0 file.allocated (above-zero file.allocated) sorted))

in_order-after_truncate : (file : File) (size : ℕ) → IsStrictlySortedBy nat_cmp file.allocated
    → IsStrictlySortedBy nat_cmp (after_truncate file size).allocated
unfolding after_truncate
in_order-after_truncate file size sorted =
    elim (nat_le (size_of file) size) as (λ b. IsStrictlySortedBy nat_cmp (cond b file.allocated (filter (begins_below size) file.allocated))) [
      | true ↦ sorted
      | false ↦ IsStrictlySortedBy-filter nat_cmp (begins_below size) file.allocated sorted
    ]

-- a file may follow with other bytes and blocks in order, where its holes are empty
file-follows : (S : State) (inode : Inode) (file : File) → inode.dir ≡ false
    → (IsStrictlySortedBy nat_cmp inode.file.allocated → IsStrictlySortedBy nat_cmp file.allocated)
    → (HolesAreEmpty inode.file → HolesAreEmpty file)
    → (IsRightSized S.file_limit inode.file → IsRightSized S.file_limit file) → MayFollow S inode (record inode { file = file })
file-follows S inode file is_file keeps hollow sized = record {
  dir = refl;
  owners = λ known. known;
  sound = λ sound. record { holds_nothing = λ is_dir. cc; in_order = keeps sound.in_order; holes = hollow sound.holes };
  size = sized;
}

-- as after a write
pub written-follows : (S : State) (inode : Inode) (off : ℕ) (bytes : List ℕ) → inode.dir ≡ false → nat_lt S.file_limit (off + length bytes) ≡ false
    → MayFollow S inode (record inode { file = after_write inode.file off bytes })
written-follows S inode off bytes is_file below =
    file-follows S inode (after_write inode.file off bytes) is_file (in_order-after_write inode.file off bytes)
    (hollow-written inode.file off bytes) (right_sized-written S.file_limit inode.file off bytes below)

-- and after a truncation
pub truncated-follows : (S : State) (inode : Inode) (size : ℕ) → inode.dir ≡ false → nat_lt S.file_limit size ≡ false
    → MayFollow S inode (record inode { file = after_truncate inode.file size })
truncated-follows S inode size is_file below =
    file-follows S inode (after_truncate inode.file size) is_file (in_order-after_truncate inode.file size)
    (hollow-truncated inode.file size) (right_sized-truncated S.file_limit inode.file size below)

true-from_not : (b : Bool) → not b ≡ false → b ≡ true
true-from_not true h = refl
true-from_not false h = cc

-- a principal that is declared, or that is not named, is known
declared-known : (S : State) (kind : Kind) (o : Option ℕ) (old : ℕ) → is_undeclared S kind o ≡ false → is_known_owner S kind (Some old) ≡ true
    → is_known_owner S kind (Some (unwrap_or o old)) ≡ true
declared-known S kind None old named known = known
declared-known S kind (Some id) old named known = true-from_not (is_declared S kind id) named

-- the same where there may be none
declared-known_if_any : (S : State) (kind : Kind) (o old : Option ℕ) → is_undeclared S kind o ≡ false → is_known_owner S kind old ≡ true
    → is_known_owner S kind (option_or o old) ≡ true
declared-known_if_any S kind None old named known = known
declared-known_if_any S kind (Some id) old named known = declared-known S kind (Some id) id named (true-from_not (is_declared S kind id) named)

-- an inode may follow under owners that are declared
pub owned-follows : (S : State) (inode : Inode) (uid gid project : Option ℕ) → is_undeclared S User uid ≡ false
    → is_undeclared S Group gid ≡ false → is_undeclared S Project project ≡ false
    → MayFollow S inode (with_owners inode (renewed uid gid project inode.owners))
owned-follows S inode uid gid project user group of_project = record {
  dir = refl;
  owners = λ known. each_kind (λ kind. is_known_owner S kind (owner kind (renewed uid gid project inode.owners)) ≡ true)
      (declared-known S User uid inode.owners.uid user (known User)) (declared-known S Group gid inode.owners.gid group (known Group))
      (declared-known_if_any S Project project inode.owners.project of_project (known Project));
  sound = λ sound. record { holds_nothing = sound.holds_nothing; in_order = sound.in_order; holes = sound.holes };
  size = λ right. record { size = right.size; blocks = right.blocks };
}

-- an inode with an empty file is sound
pub empty-sound : (inode : Inode) → inode.file ≡ empty_file → IsSound inode
unfolding IsStrictlySortedBy
empty-sound inode empty = record {
  holds_nothing = λ is_dir. empty;
  in_order = subst (λ (file : File). IsStrictlySortedBy nat_cmp file.allocated) (sym empty) tt;
  holes = subst HolesAreEmpty (sym empty) (λ offset none. refl);
}

-- what a caller who is known makes in a directory has known owners, where the directory has
pub known-made : (S : State) (cred : Caller) (dir : ℕ) → is_known S cred ≡ true
    → is_known_owner S Project (project_of (inode_at S dir)) ≡ true → AreKnown S (owners_by S cred dir)
known-made S cred dir known of_dir =
    let parts = and_parts (is_declared S User cred.uid) (is_declared S Group cred.gid && list_all (is_declared S Group) cred.more) known in
    each_kind (λ kind. is_known_owner S kind (owner kind (owners_by S cred dir)) ≡ true)
    parts.0 (and_parts (is_declared S Group cred.gid) (list_all (is_declared S Group) cred.more) parts.1).0 of_dir
