-- Where directories have ranks, every inode can be walked to.
use Rattle.std.proofs.Common.{◌≡◌, ◌⊎◌, ℕ, zero, suc, ◌<◌, ◌==◌, Bool, true, false, ◌||◌, nat_lt, [], Some, Ok, is_some, slice_index_or, inl, inr, refl, sym, ap, subst, ◌∙◌, arith, ⊎_elim}
use Rattle.std.specs.List.{AllByRecursion}
use Rattle.std.proofs.lemmas.Bool.{and_parts, eqb-true}
use Rattle.std.proofs.lemmas.List.Elements.{All-from_recursion, recursion_from_All}
use Rattle.qplain.specs.declared.bounds.TheConstants.{ROOT}
use Rattle.qplain.specs.State.{NameKey, State, inode_at, is_directory, named}
use Rattle.qplain.specs.Use.{names_to}
use Rattle.qplain_laws.specs.Laws.{AllReached, IsLawful, IsReached, leads}
use Rattle.qplain_laws.proofs.Finding.{each-found-by, found-at, some-named}
use Rattle.qplain_laws.proofs.Fitting.{some-is_dir}
use Rattle.qplain_laws.proofs.Reaching.{reached-further}
use Rattle.qplain_laws.proofs.Sweeping.{has_name-there}
use Rattle.qplain_laws.proofs.Tables.{name_key_total}
use Rattle.qplain_image.specs.Ranks.{AreRanked, RankedAreReached}

one_of : (a b : Bool) → (a || b) ≡ true → (a ≡ true) ⊎ (b ≡ true)
one_of true b e = inl refl
one_of false b e = inr e

module _ (S : State) (rank : ℕ → ℕ) (lawful : IsLawful S) (ranked : AreRanked S rank) where
  -- what holds of a name
  abbrev pub Leads : NameKey × ℕ → Type 0
  Leads e = (leads S e ≡ true) × (named S e.0.0 e.0.1 ≡ Some e.1) × (is_directory S e.1 ≡ true → rank e.0.0 < rank e.1)

  each : AllByRecursion Leads S.names
  each = recursion_from_All Leads S.names (λ k d below. (
    lawful.parts.names.lead k d below,
    All-from_recursion (λ (e : NameKey × ℕ). named S e.0.0 e.0.1 ≡ Some e.1) S.names
        (each-found-by name_key_total S.names lawful.parts.names.in_order) k d below,
    ranked k d below,
  ))

  -- an inode is reached where its parent is
  from-parent : (q : ℕ) → is_some (inode_at S q) ≡ true
      → ((d : ℕ) → is_directory S d ≡ true → (is_directory S q ≡ true → rank d < rank q) → IsReached S d) → IsReached S q
  from-parent q some parent =
      ⊎_elim
      (λ root. let same : q ≡ ROOT = eqb-true q ROOT root in ([], ap (λ n. Ok n) (sym same)))
      (λ more.
      let e = some-named Leads S.names q each more in
      let same : e.0.1 ≡ q = eqb-true e.0.1 q e.2 in
      let at : is_directory S e.0.0.0 ≡ true = (and_parts (is_directory S e.0.0.0) (is_some (inode_at S e.0.1)) e.1.0).0 in
      reached-further S e.0.0.0 e.0.0.1 q (parent e.0.0.0 at (subst (λ n. is_directory S n ≡ true → rank e.0.0.0 < rank n) same e.1.2)) at
      (e.1.1 ∙ ap (λ n. Some n) same))
      (one_of (q == ROOT) (nat_lt 0 (names_to S q)) (has_name-there S lawful.parts q some))

  directories : (n q : ℕ) → rank q < n → is_directory S q ≡ true → IsReached S q
  directories zero q l at = absurd (omega (arith, l))
  directories (suc n) q l at =
      from-parent q (some-is_dir (inode_at S q) at)
      (λ d stands less. let lower : rank d < rank q = less at in directories n d (omega (arith, l, lower)) stands)

  pub reached : AllReached S
  reached = λ k d below.
      let e = slice_index_or S.inodes k d in
      from-parent e.0 (ap is_some (found-at S lawful.parts.inodes.in_order k d below))
      (λ p stands less. directories (suc (rank p)) p (omega arith) stands)

pub ranked_are_reached : RankedAreReached
ranked_are_reached S rank lawful ranked = reached S rank lawful ranked
