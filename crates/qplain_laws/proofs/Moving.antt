-- Every inode is reached from the root after a name in place of another: the walks that are kept, and
-- those that it moves.
use Rattle.std.proofs.Common.{◌≡◌, ℕ, ◌-◌, ◌==◌, length, take, Bool, true, false, not, ◌&&◌, cond, List, [], ◌∷◌, ◌++◌, All, fold, slice_index_or, Some, None, Result, Ok, Err, refl, sym, ap, subst, ◌∙◌, tests, arith, ◌⊎◌, inl, inr, ⊎_elim}
use Rattle.std.specs.Map.{lookup}
use Rattle.std.specs.BTreeMap.{is_at}
use Rattle.std.proofs.lemmas.Bool.{and_left, and_right, cond-true, or_parts}
use Rattle.std.proofs.lemmas.List.Elements.{All-filter, filter_passes}
use Rattle.std.proofs.lemmas.List.Sums.{fold-append}
use Rattle.qplain.specs.declared.bounds.TheConstants.{ROOT}
use Rattle.qplain.specs.declared.refusal.Refusal.{Refusal}
use Rattle.qplain.specs.declared.refusal.Refusal.TheVariants.{ENOTDIR}
use Rattle.qplain.specs.State.{Inode, State, inode_at, is_dir, is_directory, name_key_cmp, named}
use Rattle.qplain.specs.Use.{has_name, is_empty}
use Rattle.qplain.specs.Walk.{as_directory, follow, parent, walk}
use Rattle.qplain.specs.Names.{swept, with_name, without_name}
use Rattle.qplain.specs.Renames.{is_reached, meets, passes, renamed}
use Rattle.qplain_laws.specs.Laws.{AllReached, FitsTogether, IsReached}
use Rattle.qplain_laws.proofs.Tables.{lookup-insert_new, name_key_total}
use Rattle.qplain_laws.proofs.Fitting.{not_both, some-is_dir}
use Rattle.qplain_laws.proofs.Finding.{holds-of-dir, less-kept, more-kept, name-laws}
use Rattle.qplain_laws.proofs.Sweeping.{has_name-there, stays-swept}
use Rattle.qplain_laws.proofs.Walking.{parent-from_root, parent_from, parent_from-fault, walk-fault}
use Rattle.qplain_laws.proofs.Renaming.{All-renamed, has_name-renamed, lead-W, named-U, named-V, outside, sorted-U, sorted-W, unfilled-target}
use Rattle.qplain_laws.proofs.Meeting.{meets_from, meets_from-first}
use Rattle.qplain_laws.proofs.Leaving.{named-reached}
use Rattle.qplain_laws.proofs.Reaching.{ends-there, follow-from, follow-parts, reached-at, reached-further}

-- where a step to one number is not kept, walks that come past it go on from there
module _ (S S1 : State) (bad : ℕ → Bool) (jump : ℕ)
    (keeps : (d : ℕ) (name : List ℕ) (m : ℕ) → follow S (Ok d) name ≡ Ok m → bad m ≡ false → (jump == m) ≡ false → follow S1 (Ok d) name ≡ Ok m)
    (dead : (m : ℕ) (name : List ℕ) (x : ℕ) → bad m ≡ true → follow S (Ok m) name ≡ Ok x → ⊥) where
  -- some walk leads from the one number to the other
  abbrev Leads : ℕ → ℕ → Type 0
  Leads d q = (names : List (List ℕ)) × (fold (follow S1) (Ok d) names ≡ Ok q)

  walk-moved : (d : ℕ) (names : List (List ℕ)) (q : ℕ) → fold (follow S) (Ok d) names ≡ Ok q → bad q ≡ false → Leads d q ⊎ Leads jump q
  walk-moved d [] q h good = inl ([], h)
  walk-moved d (name ∷ rest) q h good = by (λ m g. walk-moved m rest q g good) (follow S (Ok d) name) refl h
    where
      by : ((m : ℕ) → fold (follow S) (Ok m) rest ≡ Ok q → Leads m q ⊎ Leads jump q) → (r : Result ℕ Refusal) → follow S (Ok d) name ≡ r
          → fold (follow S) r rest ≡ Ok q → Leads d q ⊎ Leads jump q
      by later (Err e) s g = let fault = walk-fault S e rest in cc
      by later (Ok m) s g = step (bad m) (jump == m) refl refl
        where
          step : (b c : Bool) → bad m ≡ b → (jump == m) ≡ c → Leads d q ⊎ Leads jump q
          step true c is_bad t =
              let same : m ≡ q = ends-there S bad dead m rest q is_bad g in
              let bad_q : bad q ≡ true = ap bad (sym same) ∙ is_bad in
              cc
          step false true not_bad at =
              let same : m ≡ jump = grind (arith, tests, at) in
              ⊎_elim (λ p. inr (subst (λ n. Leads n q) same p)) (λ p. inr p) (later m g)
          step false false not_bad apart =
              ⊎_elim (λ p. inl (name ∷ p.0, ap (λ r. fold (follow S1) r p.0) (keeps d name m s not_bad apart) ∙ p.1)) (λ p. inr p) (later m g)

-- ---- a name in place of another

-- the walk comes past no directory of this number before the last name
abbrev Avoids : State → ℕ → Result ℕ Refusal → List (List ℕ) → Type 0
Avoids S number r [] = Unit {0}
Avoids S number r (name ∷ rest) = ((is_reached number r && is_directory S number) ≡ false) × Avoids S number (follow S r name) rest

avoids-file : (S : State) (number : ℕ) → is_directory S number ≡ false → (r : Result ℕ Refusal) (names : List (List ℕ)) → Avoids S number r names
avoids-file S number file r [] = tt
avoids-file S number file r (name ∷ rest) = (and_right (is_reached number r) (is_directory S number) file, avoids-file S number file (follow S r name) rest)

avoids-from : (S : State) (number : ℕ) (r : Result ℕ Refusal) (names : List (List ℕ)) → meets_from S number r names ≡ false → Avoids S number r names
avoids-from S number r [] h = tt
avoids-from S number r (name ∷ rest) h =
    let parts = or_parts (is_reached number r) (meets_from S number (follow S r name) rest) (sym (meets_from-first S number r name rest) ∙ h) in
    (and_left (is_reached number r) (is_directory S number) parts.0, avoids-from S number (follow S r name) rest parts.1)

-- what is reached as a directory is one
pub as-ok : (S : State) (d x : ℕ) → as_directory S (Ok d) ≡ Ok x → (is_directory S d ≡ true) × (d ≡ x)
as-ok S d x h = by (is_directory S d) refl h
  where
    by : (b : Bool) → is_directory S d ≡ b → cond b (Ok d) (Err ENOTDIR) ≡ Ok x → (is_directory S d ≡ true) × (d ≡ x)
    by true e g = (e, cc)
    by false e g = cc

-- a parent that was reached is where the walk of all names but the last ends
pub parent-ok : (S : State) (names : List (List ℕ)) (dir : ℕ) → parent S names ≡ Ok dir
    → (walk S (take (length names - 1) names) ≡ Ok dir) × (is_directory S dir ≡ true)
parent-ok S names dir h = by (walk S (take (length names - 1) names)) h
  where
    by : (r : Result ℕ Refusal) → as_directory S r ≡ Ok dir → (r ≡ Ok dir) × (is_directory S dir ≡ true)
    by (Err e) g = cc
    by (Ok d) g =
        let parts = as-ok S d dir g in
        (ap (λ n. Ok n) parts.1, ap (λ n. is_directory S n) (sym parts.1) ∙ parts.0)

module _ (S : State) (to : List (List ℕ)) (dir : ℕ) (name : List ℕ) (number : ℕ) (inode : Inode) (to_dir : ℕ) (to_name : List ℕ) (fits : FitsTogether S)
    (placed : parent S to ≡ Ok to_dir) (not_inside : (inode.dir && meets S to number) ≡ false)
    (led : named S dir name ≡ Some number) (there : inode_at S number ≡ Some inode) (stands : is_directory S to_dir ≡ true)
    (other : passes (λ n. n == number) (named S to_dir to_name) ≡ false) (empty : passes (λ n. not (is_empty S n)) (named S to_dir to_name) ≡ false) where
  abbrev U : State
  U = without_name S dir name

  abbrev V : State
  V = without_name U to_dir to_name

  abbrev W : State
  W = with_name V to_dir to_name number

  abbrev M1 : State
  M1 = swept W

  -- the number is that of what is replaced
  abbrev is_target : ℕ → Bool
  is_target m = passes (λ n. n == m) (named S to_dir to_name)

  no-target : All (λ e. is_target e.0.0 ≡ false) S.names
  no-target = unfilled-target S dir name number inode to_dir to_name fits led there stands other empty (named S to_dir to_name) empty

  not-in-target : (d : ℕ) (nm : List ℕ) (m : ℕ) → named S d nm ≡ Some m → is_target d ≡ false
  not-in-target d nm m is = holds-of-dir S (λ n. is_target n ≡ false) no-target d nm m is

  to_dir-apart : is_target to_dir ≡ false
  to_dir-apart = outside S dir name number inode to_dir to_name fits led there stands other empty (named S to_dir to_name) refl empty

  empty-V : named V to_dir to_name ≡ None
  empty-V = named-V S dir name number inode to_dir to_name fits led there stands other empty

  directory-moved : (d : ℕ) → is_directory S d ≡ true → is_target d ≡ false → is_directory M1 d ≡ true
  directory-moved d at apart =
      ap is_dir (stays-swept S W.names d
      (has_name-renamed S dir name number inode to_dir to_name fits led there stands other empty d apart
      ∙ has_name-there S fits d (some-is_dir (inode_at S d) at))) ∙ at

  keeps-moved : (d : ℕ) (nm : List ℕ) (m : ℕ) → follow S (Ok d) nm ≡ Ok m → is_target m ≡ false → (number == m) ≡ false → follow M1 (Ok d) nm ≡ Ok m
  keeps-moved d nm m h not_target apart =
      let parts = follow-parts S d nm m h in
      let u : lookup (is_at (name_key_cmp (d, nm))) U.names ≡ Some m =
      less-kept S.names (dir, name) (d, nm) m fits.names.in_order parts.1 (λ e.
      let one : Some number ≡ Some m = sym led ∙ e in
      let same : number ≡ m = cc in
      let yes : (number == m) ≡ true = grind (arith, tests, same) in
      absurd (cc)) in
      let v : lookup (is_at (name_key_cmp (d, nm))) V.names ≡ Some m =
      less-kept U.names (to_dir, to_name) (d, nm) m (sorted-U S dir name number inode to_dir to_name fits led there stands other empty) u (λ e.
      let target : named S to_dir to_name ≡ Some m = sym (named-U S dir name number inode to_dir to_name fits led there stands other empty) ∙ e in
      let itself : (m == m) ≡ true = grind (arith, tests) in
      let yes : is_target m ≡ true = ap (passes (λ n. n == m)) target ∙ itself in
      absurd (cc)) in
      follow-from M1 d nm m (directory-moved d parts.0 (not-in-target d nm m parts.1)) (more-kept V.names (to_dir, to_name) number empty-V (d, nm) m v)

  dead-moved : (m : ℕ) (nm : List ℕ) (x : ℕ) → is_target m ≡ true → follow S (Ok m) nm ≡ Ok x → ⊥
  dead-moved m nm x is h =
      let apart : is_target m ≡ false = not-in-target m nm x (follow-parts S m nm x h).1 in
      absurd (cc)

  -- what leads on to the parent is a directory, and no target
  leads-on : (m : ℕ) (next : List ℕ) (rest : List (List ℕ)) → parent_from S (Ok m) (next ∷ rest) ≡ Ok to_dir → (is_directory S m ≡ true) × (is_target m ≡ false)
  leads-on m next [] h = let parts = as-ok S m to_dir h in (parts.0, ap is_target parts.1 ∙ to_dir-apart)
  leads-on m next (after ∷ rest) h = by (follow S (Ok m) next) refl h
    where
      by : (r : Result ℕ Refusal) → follow S (Ok m) next ≡ r → parent_from S r (after ∷ rest) ≡ Ok to_dir → (is_directory S m ≡ true) × (is_target m ≡ false)
      by (Err e) s g = let fault = parent_from-fault S e (after ∷ rest) in cc
      by (Ok x) s g = let parts = follow-parts S m next x s in (parts.0, not-in-target m next x parts.1)

  not-number : (m : ℕ) → ((m == number) && is_directory S number) ≡ false → is_directory S m ≡ true → (number == m) ≡ false
  not-number m h at = not_both (number == m) (λ same.
      let equal : m ≡ number = grind (arith, tests, same) in
      let is : (m == number) ≡ true = grind (arith, tests, same) in
      let stands_too : is_directory S number ≡ true = ap (λ n. is_directory S n) (sym equal) ∙ at in
      let both : ((m == number) && is_directory S number) ≡ true = (λ i. is i && stands_too i) in
      cc)

  -- what was the parent is a directory still
  at-parent : (d : ℕ) → as_directory S (Ok d) ≡ Ok to_dir → as_directory M1 (Ok d) ≡ Ok to_dir
  at-parent d h =
      let same : d ≡ to_dir = (as-ok S d to_dir h).1 in
      let at : is_directory M1 to_dir ≡ true = directory-moved to_dir stands to_dir-apart in
      ap (λ n. as_directory M1 (Ok n)) same ∙ ap (λ b. cond b (Ok to_dir) (Err ENOTDIR)) at

  -- a walk to the parent that comes past no directory of this number is kept
  parent-kept : (r : Result ℕ Refusal) (names : List (List ℕ)) → Avoids S number r names → parent_from S r names ≡ Ok to_dir
      → parent_from M1 r names ≡ Ok to_dir
  parent-kept (Err e) names avoids h = let fault = parent_from-fault S e names in cc
  parent-kept (Ok d) [] avoids h = at-parent d h
  parent-kept (Ok d) (nm ∷ []) avoids h = at-parent d h
  parent-kept (Ok d) (nm ∷ next ∷ rest) avoids h =
      by (parent-kept (follow S (Ok d) nm) (next ∷ rest) avoids.1 h) (follow S (Ok d) nm) refl h avoids.1.0
    where
      by : parent_from M1 (follow S (Ok d) nm) (next ∷ rest) ≡ Ok to_dir → (r : Result ℕ Refusal) → follow S (Ok d) nm ≡ r
          → parent_from S r (next ∷ rest) ≡ Ok to_dir → (is_reached number r && is_directory S number) ≡ false
          → parent_from M1 (follow M1 (Ok d) nm) (next ∷ rest) ≡ Ok to_dir
      by later (Err e) s g past = let fault = parent_from-fault S e (next ∷ rest) in cc
      by later (Ok m) s g past =
          let on = leads-on m next rest g in
          let kept : follow M1 (Ok d) nm ≡ follow S (Ok d) nm = keeps-moved d nm m s on.1 (not-number m past on.0) ∙ sym s in
          ap (λ r. parent_from M1 r (next ∷ rest)) kept ∙ later

  avoids-all : Avoids S number (Ok ROOT) to
  avoids-all = by inode.dir refl not_inside
    where
      by : (b : Bool) → inode.dir ≡ b → (b && meets S to number) ≡ false → Avoids S number (Ok ROOT) to
      by true is h = avoids-from S number (Ok ROOT) to h
      by false is h = avoids-file S number (ap is_dir there ∙ is) (Ok ROOT) to

  -- the second path has the parent that it had
  pub parent-renamed : parent (renamed S dir name to_dir to_name number) to ≡ Ok to_dir
  parent-renamed = parent-from_root M1 to ∙ parent-kept (Ok ROOT) to avoids-all (sym (parent-from_root S to) ∙ placed)

  -- and its last name leads to the number
  pub named-renamed : named (renamed S dir name to_dir to_name number) to_dir to_name ≡ Some number
  named-renamed =
      lookup-insert_new name_key_total V.names (to_dir, to_name) number (to_dir, to_name) empty-V
      ∙ cond-true (is_at (name_key_cmp (to_dir, to_name)) (to_dir, to_name)) (Some number) (named V to_dir to_name) (name-laws.refl (to_dir, to_name))

  to_dir-reached : IsReached M1 to_dir
  to_dir-reached = (take (length to - 1) to, (parent-ok M1 to to_dir parent-renamed).0)

  number-reached : IsReached M1 number
  number-reached = reached-further M1 to_dir to_name number to_dir-reached (directory-moved to_dir stands to_dir-apart) named-renamed

  module _ (all : AllReached S) where
    moved : (q : ℕ) → is_target q ≡ false → IsReached S q → IsReached M1 q
    moved q apart reached =
        ⊎_elim (λ p. p)
        (λ p. (number-reached.0 ++ p.0, fold-append (follow M1) (Ok ROOT) number-reached.0 p.0 ∙ ap (λ r. fold (follow M1) r p.0) number-reached.1 ∙ p.1))
        (walk-moved S M1 is_target number keeps-moved dead-moved ROOT reached.0 q reached.1 apart)

    -- every inode that is left is reached
    pub renamed_reached : AllReached (renamed S dir name to_dir to_name number)
    renamed_reached = λ k d below.
        let e : ℕ × Inode = slice_index_or M1.inodes k d in
        let has : has_name W e.0 ≡ true = filter_passes (λ (x : ℕ × Inode). has_name W x.0) S.inodes k d below in
        let old : IsReached S e.0 = All-filter (λ (x : ℕ × Inode). has_name W x.0) (λ x. IsReached S x.0) S.inodes all k d below in
        by e.0 has old (is_target e.0) refl
      where
        outside-W : All (λ e. is_target e.0.0 ≡ false) W.names
        outside-W =
            All-renamed S dir name number inode to_dir to_name fits led there stands other empty (λ e. is_target e.0.0 ≡ false) no-target to_dir-apart

        by : (q : ℕ) → has_name W q ≡ true → IsReached S q → (b : Bool) → is_target q ≡ b → IsReached M1 q
        by q has old false apart = moved q apart old
        by q has old true same =
            named-reached S W.names q (sorted-W S dir name number inode to_dir to_name fits led there stands other empty)
            (lead-W S dir name number inode to_dir to_name fits led there stands other empty) has (λ d nm at is.
            let apart : is_target d ≡ false = holds-of-dir W (λ n. is_target n ≡ false) outside-W d nm q is in
            (moved d apart (reached-at S d all (some-is_dir (inode_at S d) at)), directory-moved d at apart))
