-- Every inode is reached from the root after a new inode, a changed one and a further name: walks before and after.
use Rattle.std.proofs.Common.{◌≡◌, ℕ, Bool, true, false, cond, List, [], ◌∷◌, ◌++◌, fold, slice_index_or, Option, Some, None, is_some, Result, Ok, Err, refl, sym, ap, ◌∙◌}
use Rattle.std.specs.Ordering.{nat_cmp}
use Rattle.std.specs.BTreeMap.{is_at}
use Rattle.std.proofs.lemmas.Bool.{cond-true}
use Rattle.std.proofs.lemmas.List.Sums.{fold-append}
use Rattle.qplain.specs.declared.bounds.TheConstants.{ROOT}
use Rattle.qplain.specs.declared.refusal.Refusal.{Refusal}
use Rattle.qplain.specs.declared.refusal.Refusal.TheVariants.{ENOTDIR}
use Rattle.qplain.specs.State.{Inode, State, inode_at, is_dir, is_directory, name_key_cmp, named}
use Rattle.qplain.specs.Walk.{follow, led_to}
use Rattle.qplain.specs.Files.{with_inode}
use Rattle.qplain.specs.Names.{created, with_name}
use Rattle.qplain_laws.specs.Laws.{AllReached, FitsTogether, IsReached}
use Rattle.qplain_laws.proofs.Tables.{All-insert_new, All-keys-set_value, absent-fresh, lookup-insert_new, name_key_total}
use Rattle.qplain_laws.proofs.Fitting.{directory-same, some-is_dir}
use Rattle.qplain_laws.proofs.Filtering.{All-lookup}
use Rattle.qplain_laws.proofs.Linking.{inode_at-created-there}
use Rattle.qplain_laws.proofs.Walking.{walk-fault}
use Rattle.qplain_laws.proofs.Finding.{more-kept, name-laws}

-- ---- one step of a walk

led-parts : (S : State) (b : Bool) (o : Option ℕ) (m : ℕ) → cond b (led_to o) (Err ENOTDIR) ≡ Ok m → (b ≡ true) × (o ≡ Some m)
led-parts S true None m h = cc
led-parts S true (Some n) m h = (refl, cc)
led-parts S false o m h = cc

-- a step that leads somewhere is a name in a directory
pub follow-parts : (S : State) (d : ℕ) (name : List ℕ) (m : ℕ) → follow S (Ok d) name ≡ Ok m → (is_directory S d ≡ true) × (named S d name ≡ Some m)
follow-parts S d name m h = led-parts S (is_directory S d) (named S d name) m h

-- and the converse
pub follow-from : (S : State) (d : ℕ) (name : List ℕ) (m : ℕ) → is_directory S d ≡ true → named S d name ≡ Some m → follow S (Ok d) name ≡ Ok m
follow-from S d name m at led = (λ i. cond (at i) (led_to (led i)) (Err ENOTDIR))

-- one name further
pub reached-further : (S : State) (d : ℕ) (name : List ℕ) (m : ℕ) → IsReached S d → is_directory S d ≡ true → named S d name ≡ Some m → IsReached S m
reached-further S d name m reached at led =
    (reached.0 ++ name ∷ [], fold-append (follow S) (Ok ROOT) reached.0 (name ∷ []) ∙ ap (λ r. follow S r name) reached.1 ∙ follow-from S d name m at led)

-- ---- walks that are kept

-- a walk to a dead end ends there
pub ends-there : (S : State) (bad : ℕ → Bool) → ((m : ℕ) (name : List ℕ) (x : ℕ) → bad m ≡ true → follow S (Ok m) name ≡ Ok x → ⊥)
    → (m : ℕ) (names : List (List ℕ)) (q : ℕ) → bad m ≡ true → fold (follow S) (Ok m) names ≡ Ok q → m ≡ q
ends-there S bad dead m [] q is_bad h = cc
ends-there S bad dead m (name ∷ rest) q is_bad h = by (follow S (Ok m) name) refl h
  where
    by : (r : Result ℕ Refusal) → follow S (Ok m) name ≡ r → fold (follow S) r rest ≡ Ok q → m ≡ q
    by (Err e) s g = let fault = walk-fault S e rest in cc
    by (Ok x) s g = absurd (dead m name x is_bad s)

-- where every step is kept but those to dead ends, so is every walk that ends elsewhere
module _ (S S1 : State) (bad : ℕ → Bool) (keeps : (d : ℕ) (name : List ℕ) (m : ℕ) → follow S (Ok d) name ≡ Ok m → bad m ≡ false → follow S1 (Ok d) name ≡ Ok m)
    (dead : (m : ℕ) (name : List ℕ) (x : ℕ) → bad m ≡ true → follow S (Ok m) name ≡ Ok x → ⊥) where
  pub walk-kept : (d : ℕ) (names : List (List ℕ)) (q : ℕ) → fold (follow S) (Ok d) names ≡ Ok q → bad q ≡ false → fold (follow S1) (Ok d) names ≡ Ok q
  walk-kept d [] q h good = h
  walk-kept d (name ∷ rest) q h good = by (λ m g. walk-kept m rest q g good) (follow S (Ok d) name) refl h
    where
      by : ((m : ℕ) → fold (follow S) (Ok m) rest ≡ Ok q → fold (follow S1) (Ok m) rest ≡ Ok q) → (r : Result ℕ Refusal) → follow S (Ok d) name ≡ r
          → fold (follow S) r rest ≡ Ok q → fold (follow S1) (follow S1 (Ok d) name) rest ≡ Ok q
      by later (Err e) s g = let fault = walk-fault S e rest in cc
      by later (Ok m) s g = step (bad m) refl
        where
          step : (b : Bool) → bad m ≡ b → fold (follow S1) (follow S1 (Ok d) name) rest ≡ Ok q
          step true is_bad =
              let same : m ≡ q = ends-there S bad dead m rest q is_bad g in
              let bad_q : bad q ≡ true = ap bad (sym same) ∙ is_bad in
              cc
          step false not_bad = ap (λ r. fold (follow S1) r rest) (keeps d name m s not_bad) ∙ later m g

  -- so what was reached, and is no dead end, is reached
  pub reached-kept : (q : ℕ) → IsReached S q → bad q ≡ false → IsReached S1 q
  reached-kept q reached good = (reached.0, walk-kept ROOT reached.0 q reached.1 good)

-- ---- where all are reached

reached-there : (S : State) (q : ℕ) (o : Option Inode) → AllReached S → inode_at S q ≡ o → is_some o ≡ true → IsReached S q
reached-there S q None all there some = cc
reached-there S q (Some inode) all there some = All-lookup (λ e. IsReached S e.0) S.inodes q inode all there

pub reached-at : (S : State) (q : ℕ) → AllReached S → is_some (inode_at S q) ≡ true → IsReached S q
reached-at S q all some = reached-there S q (inode_at S q) all refl some

-- ---- a new inode, a changed one, a further name

none-bad : ℕ → Bool
none-bad n = false

module _ (S : State) (inode : Inode) (dir : ℕ) (name : List ℕ) (fits : FitsTogether S) (stands : is_directory S dir ≡ true)
    (absent : named S dir name ≡ None) where
  none : inode_at S S.next ≡ None
  none = absent-fresh S.inodes S.next fits.inodes.fresh

  -- what was a directory is one still
  pub directory-stays : (d : ℕ) → is_directory S d ≡ true → is_directory (created S inode dir name) d ≡ true
  directory-stays d at = ap is_dir (inode_at-created-there S inode dir name d none (some-is_dir (inode_at S d) at)) ∙ at

  -- no step of a walk is lost
  pub keeps-created : (d : ℕ) (nm : List ℕ) (m : ℕ) → follow S (Ok d) nm ≡ Ok m → false ≡ false → follow (created S inode dir name) (Ok d) nm ≡ Ok m
  keeps-created d nm m h good =
      let parts = follow-parts S d nm m h in
      follow-from (created S inode dir name) d nm m (directory-stays d parts.0) (more-kept S.names (dir, name) S.next absent (d, nm) m parts.1)

  -- the new name leads to the next number
  pub named-new : named (created S inode dir name) dir name ≡ Some S.next
  named-new =
      lookup-insert_new name_key_total S.names (dir, name) S.next (dir, name) absent
      ∙ cond-true (is_at (name_key_cmp (dir, name)) (dir, name)) (Some S.next) (named S dir name) (name-laws.refl (dir, name))

  module _ (all : AllReached S) where
    stays : (q : ℕ) → IsReached S q → IsReached (created S inode dir name) q
    stays q reached = reached-kept S (created S inode dir name) (λ n. false) keeps-created (λ m x y e. absurd (cc)) q reached refl

    pub created_reached : AllReached (created S inode dir name)
    created_reached =
        let parent : IsReached (created S inode dir name) dir = stays dir (reached-at S dir all (some-is_dir (inode_at S dir) stands)) in
        All-insert_new (λ e. IsReached (created S inode dir name) e.0) nat_cmp S.inodes S.next inode none
        (λ k d below. stays (slice_index_or S.inodes k d).0 (all k d below))
        (reached-further (created S inode dir name) dir name S.next parent (directory-stays dir stands) named-new)

pub changed_reached : (S : State) (number : ℕ) (inode after : Inode) → inode_at S number ≡ Some inode → after.dir ≡ inode.dir → AllReached S
    → AllReached (with_inode S number after)
changed_reached S number inode after there same all =
    All-keys-set_value (λ n. IsReached (with_inode S number after) n) (is_at (nat_cmp number)) S.inodes after
    (λ k d below. reached-kept S (with_inode S number after) (λ n. false) keeps (λ m x y e. absurd (cc)) (slice_index_or S.inodes k d).0 (all k d below) refl)
  where
    keeps : (d : ℕ) (nm : List ℕ) (m : ℕ) → follow S (Ok d) nm ≡ Ok m → false ≡ false → follow (with_inode S number after) (Ok d) nm ≡ Ok m
    keeps d nm m h good =
        let parts = follow-parts S d nm m h in
        follow-from (with_inode S number after) d nm m (directory-same S number inode after there same d ∙ parts.0) parts.1

-- a further name leads past nothing that was there
pub keeps-linked : (S : State) (dir : ℕ) (name : List ℕ) (number : ℕ) → named S dir name ≡ None → (d : ℕ) (nm : List ℕ) (m : ℕ)
    → follow S (Ok d) nm ≡ Ok m → false ≡ false → follow (with_name S dir name number) (Ok d) nm ≡ Ok m
keeps-linked S dir name number absent d nm m h good =
    let parts = follow-parts S d nm m h in
    follow-from (with_name S dir name number) d nm m parts.0 (more-kept S.names (dir, name) number absent (d, nm) m parts.1)

pub linked_reached : (S : State) (dir : ℕ) (name : List ℕ) (number : ℕ) → named S dir name ≡ None → AllReached S → AllReached (with_name S dir name number)
linked_reached S dir name number absent all =
    (λ k d below. reached-kept S (with_name S dir name number) (λ n. false) (keeps-linked S dir name number absent) (λ m x y e. absurd (cc))
    (slice_index_or S.inodes k d).0 (all k d below) refl)
