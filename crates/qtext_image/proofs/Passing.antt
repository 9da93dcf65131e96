-- What passes the tests of a line, and what they have told.
use Rattle.std.proofs.Common.{◌≡◌, ℕ, Bool, true, false, ◌&&◌, cond, nat_le, List, [], ◌∷◌, length, Option, Some, None, refl, arith, tests, not}
use Rattle.std.specs.List.{list_all, list_any}
use Rattle.std.specs.Map.{values_of}
use Rattle.std.proofs.lemmas.Bool.{and_parts}
use Rattle.qrules.specs.declared.kind.Kind.TheVariants.{User, Group, Project}
use Rattle.qrules.specs.Range.{are_limits_in_range}
use Rattle.qplain.specs.declared.bounds.TheConstants.{MAX_NAME}
use Rattle.qplain.specs.Setups.{Setting, setup_fault}
use Rattle.qplain.specs.State.{Holder, Inode, State}
use Rattle.qplain.specs.Use.{owner}
use Rattle.qplain_laws.specs.Laws.{AreKnown, is_known_owner}
use Rattle.qplain_laws.specs.PathNames.{IsPathName}
use Rattle.qplain_laws.specs.SettingRanges.{IsEndInRange, IsHolderInRange}
use Rattle.qplain_image.specs.Rows.{Row}
use Rattle.qtext.proofs.Joining.{and_both, not_true}
use Rattle.qtext_image.specs.Faults.{are_begun, are_blocks_long, do_lead, fault_in, has_good_names, has_known_owners, is_end_fit, is_holder_fit, are_numbers_fit, is_ordered, is_path_name, ImageKind}
use Rattle.qtext_image.specs.Setups.{is_granted}
use Rattle.qplain.specs.Paths.{is_path_byte}
use Rattle.qplain.specs.Walk.{is_name, is_slash}

-- the tests that a state of these rows passes
pub record PassesTests (rows : List Row) (T : State) : Type 0 where
  pub long : are_blocks_long 0 rows ≡ true
  pub ordered : is_ordered T ≡ true
  pub ranged : are_numbers_fit rows T ≡ true
  pub named : has_good_names T ≡ true
  pub owned : list_all (has_known_owners T) (values_of T.inodes) ≡ true
  pub led : do_lead T ≡ true

pub no-fault : (rows : List Row) (T : State) → are_begun rows T ≡ true → PassesTests rows T → fault_in rows T ≡ None
no-fault rows T begun passes = rw (passes.long, begun, passes.ordered, passes.ranged, passes.named, passes.owned, passes.led) refl

-- a setup that is granted
pub granted-any : (es : List (ℕ × Inode)) (s : Setting) → setup_fault s ≡ None → is_granted es s ≡ true
granted-any [] s none = refl
granted-any (e ∷ es) s none = rw none refl

-- ---- holders and names, both ways

end-fits : (end : Option ℕ) → IsEndInRange end → is_end_fit end ≡ true
end-fits None is = refl
end-fits (Some end) is = grind (arith, tests, is)

pub holder-fits : (h : Holder) → IsHolderInRange h → is_holder_fit h ≡ true
holder-fits h is =
    and_both (are_limits_in_range h.limits && is_end_fit h.block_end) (is_end_fit h.inode_end)
    (and_both (are_limits_in_range h.limits) (is_end_fit h.block_end) is.limits (end-fits h.block_end is.block_end))
    (end-fits h.inode_end is.inode_end)

pub name-fits : (name : List ℕ) → IsPathName name → is_path_name name ≡ true
name-fits name is =
    let short : nat_le (length name) MAX_NAME ≡ true = grind (arith, tests, is.short) in
    rw (is.own, short, is.prints, is.whole) refl

fault-kept : (test : Bool) (kind : ImageKind) (others : Option ImageKind) → cond (not test) (Some kind) others ≡ None → (test ≡ true) × (others ≡ None)
fault-kept true kind others e = (refl, e)
fault-kept false kind others e = absurd (cc e)

ended-range : (end : Option ℕ) → is_end_fit end ≡ true → IsEndInRange end
ended-range None fit = tt
ended-range (Some end) fit = grind (arith, tests, fit)

pub holder-range : (h : Holder) → is_holder_fit h ≡ true → IsHolderInRange h
holder-range h fit =
    let inode = and_parts (are_limits_in_range h.limits && is_end_fit h.block_end) (is_end_fit h.inode_end) fit in
    let block = and_parts (are_limits_in_range h.limits) (is_end_fit h.block_end) inode.0 in
    record { limits = block.0; block_end = ended-range h.block_end block.1; inode_end = ended-range h.inode_end inode.1 }

pub path-name : (name : List ℕ) → is_path_name name ≡ true → IsPathName name
path-name name passes =
    let whole = and_parts (is_name name && nat_le (length name) MAX_NAME && list_all is_path_byte name) (not (list_any is_slash name)) passes in
    let prints = and_parts (is_name name && nat_le (length name) MAX_NAME) (list_all is_path_byte name) whole.0 in
    let short = and_parts (is_name name) (nat_le (length name) MAX_NAME) prints.0 in
    record { own = short.0; short = grind (arith, tests, short.1); prints = prints.1; whole = not_true (list_any is_slash name) whole.1 }

pub known-owners : (S : State) (inode : Inode) → has_known_owners S inode ≡ true → AreKnown S inode.owners
known-owners S inode passes =
    let own = and_parts (is_known_owner S User (owner User inode.owners) && is_known_owner S Group (owner Group inode.owners))
    (is_known_owner S Project (owner Project inode.owners)) passes in
    let others = and_parts (is_known_owner S User (owner User inode.owners)) (is_known_owner S Group (owner Group inode.owners)) own.0 in
    by others.0 others.1 own.1
  where
    by : is_known_owner S User (owner User inode.owners) ≡ true → is_known_owner S Group (owner Group inode.owners) ≡ true
        → is_known_owner S Project (owner Project inode.owners) ≡ true → AreKnown S inode.owners
    by user group project User = user
    by user group project Group = group
    by user group project Project = project

-- ---- all tests

-- and what a state has passed where nothing is wrong with the last of its rows
pub passed : (rows : List Row) (S : State) → fault_in rows S ≡ None → PassesTests rows S
passed rows S none =
    let long = fault-kept (are_blocks_long 0 rows) _ _ none in
    let ordered = fault-kept (are_begun rows S && is_ordered S) _ _ long.1 in
    let ranged = fault-kept (are_numbers_fit rows S) _ _ ordered.1 in
    let named = fault-kept (has_good_names S) _ _ ranged.1 in
    let owned = fault-kept (list_all (has_known_owners S) (values_of S.inodes)) _ _ named.1 in
    let led = fault-kept (do_lead S) _ _ owned.1 in
    record {
      long = long.0;
      ordered = (and_parts (are_begun rows S) (is_ordered S) ordered.0).1;
      ranged = ranged.0;
      named = named.0;
      owned = owned.0;
      led = led.0;
    }
